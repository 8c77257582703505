use Rattle.std.proofs.Common.{arith}
use Rattle.krieg_fen.proofs.RankChanges.{spelled, kept}
use Rattle.krieg_fen.proofs.board_text.renew_texts.Goals as goal
use Rattle.krieg_fen.proofs.board_text.renew_texts.Goals.{then-changed-rank-ne0, else-changed-rank-ne0}

pub loop-rank-preserved : goal.loop-rank-preserved
loop-rank-preserved c = elim c.if-changed-rank-ne0.branch [
  | then-changed-rank-ne0 w ↦ rw w.texts-is (spelled _ _ _ _ w.rank_text.result (omega arith) c.loop-rank.invariant w.rank_text.ensures)
  | else-changed-rank-ne0 w ↦ rw w.texts-is (kept _ _ _ _ c.changed-changed.result (omega arith) c.loop-rank.invariant c.requires.old c.requires.new c.changed-changed.ensures (omega (arith, w.if-changed-rank-ne0.false)))
]
