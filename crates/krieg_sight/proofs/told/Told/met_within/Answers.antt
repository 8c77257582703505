use Rattle.krieg_sight.proofs.Telling.{fled_within}
use Rattle.krieg_sight.proofs.told.Told.met_within.Goals as goal

pub returns-then-moves-self : goal.returns-then-moves-self
returns-then-moves-self c = λ e p right. fled_within c.args.moves c.args.self.now.fled p (right.fled c.if-self-gt0.true) c.if-moves-self.true
