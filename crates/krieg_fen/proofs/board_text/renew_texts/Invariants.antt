use Rattle.krieg_fen.proofs.RankChanges.{Renewed}
use Rattle.krieg_fen.proofs.board_text.renew_texts.Given as goal

abbrev pub invariant-loop-rank : goal.invariant-loop-rank
invariant-loop-rank l = Renewed l.texts l.old l.new l.rank
