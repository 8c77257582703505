use Rattle.krieg_solve.proofs.Charging.{charged_at_most}
use Rattle.krieg_solve.proofs.best_plan.find.Goals as goal

pub returns-clause-units : goal.returns-clause-units
returns-clause-units c = charged_at_most c.args.d c.args.who c.args.b.now c.args.moves c.answer_for.result c.args.units.now c.answer_for.new.units c.answer_for.ensures.units
