use Rattle.krieg_solve.proofs.Charging.{charged, accounted, spent_below_cost}
use Rattle.krieg_solve.proofs.best_plan.solve.Goals as goal

pub returns-clause-units : goal.returns-clause-units
returns-clause-units c = charged c.args.d c.args.who c.args.b.now c.args.moves c.answer_for.result c.args.units.now c.answer_for.new.units c.answer_for.ensures.units

pub returns-clause-account : goal.returns-clause-account
returns-clause-account c = accounted c.args.d c.args.who c.args.b.now c.args.moves c.answer_for.result c.args.units.now c.answer_for.new.units c.answer_for.ensures.units

pub returns-clause-cost : goal.returns-clause-cost
returns-clause-cost c = spent_below_cost c.args.d c.args.who c.args.b.now c.args.moves c.answer_for.result c.args.units.now c.answer_for.new.units c.answer_for.ensures.units
