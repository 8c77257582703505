use Rattle.std.proofs.Common.{ap, sym, ◌∙◌}
use Rattle.krieg_robot.proofs.Common.{try_there}
use Rattle.krieg_robot.proofs.Numbered.{node_is}
use Rattle.krieg_robot.proofs.shared.StrategyGuide.try_on.Goals as goal

pub returns-in-Some : goal.returns-in-Some
returns-in-Some c = ap try_there (sym (node_is c.args.self.now c.in-Some.number _ c.get.ensures.value) ∙ c.in-Some.ensures.leads)
