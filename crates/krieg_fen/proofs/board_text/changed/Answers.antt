use Rattle.krieg_fen.proofs.RankChanges.{unchanged}
use Rattle.krieg_fen.proofs.board_text.changed.Goals as goal

pub returns : goal.returns
returns c k lt e = unchanged c.sets-old.result.now c.sets-new.result.now c.args.old.now c.args.new.now k c.sets-old.ensures c.sets-new.ensures lt e
