use Rattle.krieg_sight.proofs.Telling.{none_within}
use Rattle.krieg_sight.proofs.told.Told.mate_within.Goals as goal

pub returns-then-moves-self : goal.returns-then-moves-self
returns-then-moves-self c = λ e p right. none_within c.args.moves c.args.self.now.none p right.none c.if-moves-self.true
