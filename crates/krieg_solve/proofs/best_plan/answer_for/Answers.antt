use Rattle.std.proofs.Common.{refl, ◌∙◌, arith}
use Rattle.krieg_solve.proofs.Solving.{none_mates, is_paid, is_ordered, planned, planned_takes}
use Rattle.krieg_solve.proofs.Charging.{stopped_takes}
use Rattle.krieg_solve.proofs.best_plan.answer_for.Goals as goal
use Rattle.krieg_solve.proofs.best_plan.answer_for.Goals.{in-Won, in-Over, in-Lost}

pub returns-in_err-won-clause-units : goal.returns-in_err-won-clause-units
returns-in_err-won-clause-units c =
    stopped_takes c.args.way.d c.args.who c.args.b.now c.args.moves c.args.way.cut _ c.from_residual.result c.in_err-won.field-0.0 c.new-left.result c.decide.new.units c.args.units.now (λ x h. cc) c.from_residual.ensures.1 (c.new-left.ensures ∙ c.left.ensures) c.in_err-won.ensures.decided

pub build_plan-found-requires-clause-paid : goal.build_plan-found-requires-clause-paid
build_plan-found-requires-clause-paid c =
    let k = rw c.in-Won.is at c.in_ok-won.ensures.decided in
    is_paid c.args.way.d c.args.who c.args.b.now c.args.moves c.args.way.cut c.in-Won.won c.new-left.result k.0 (let a = c.left.type_inv in let e = c.new-left.ensures in omega arith)

pub build_plan-found-requires-clause-ordered : goal.build_plan-found-requires-clause-ordered
build_plan-found-requires-clause-ordered c =
    let k = rw c.in-Won.is at c.in_ok-won.ensures.decided in
    is_ordered c.args.way.d c.args.who c.args.b.now c.args.moves c.args.way.cut c.in-Won.won c.new-left.result k.0

pub returns-then-not-wants_memory-clause-answer : goal.returns-then-not-wants_memory-clause-answer
returns-then-not-wants_memory-clause-answer c =
    elim c.match-branch-2.branch [
      | in-Won w ↦
          let k = rw w.in-Won.is at c.in_ok-won.ensures.decided in
          rw w.found-is (planned c.args.way.d c.args.who c.args.b.now c.args.moves c.args.way.cut w.in-Won.won c.new-left.result c.args.nodes k.0 w.build_plan-found.result w.build_plan-found.ensures)
      | in-Over w ↦
          let k = rw w.in-Over.is at c.in_ok-won.ensures.decided in
          rw w.found-is (none_mates c.args.way.d c.args.who c.args.b.now c.args.moves k.1)
      | in-Lost w ↦
          let k = rw w.in-Lost.is at c.in_ok-won.ensures.decided in
          rw w.found-is (none_mates c.args.way.d c.args.who c.args.b.now c.args.moves k.0.cannot)
    ]

pub returns-then-not-wants_memory-clause-units : goal.returns-then-not-wants_memory-clause-units
returns-then-not-wants_memory-clause-units c =
    let had = c.new-left.ensures ∙ c.left.ensures in
    let has = c.new.ensures ∙ c.left-then-not-wants_memory.ensures in
    elim c.match-branch-2.branch [
      | in-Won w ↦
          let k = rw w.in-Won.is at c.in_ok-won.ensures.decided in
          rw w.found-is
          (planned_takes c.args.way.d c.args.who c.args.b.now c.args.moves c.args.way.cut w.in-Won.won c.new-left.result c.args.nodes k.0 w.build_plan-found.result c.decide.new.units c.args.units.now c.new.result w.build_plan-found.ensures (rw had at k.1)
          (λ e. let wants = c.wants_memory.ensures.1 (w.found-is ∙ e) in let not = c.if-not-wants_memory.true in cc) has)
      | in-Over w ↦
          let k = rw w.in-Over.is at c.in_ok-won.ensures.decided in
          rw (w.found-is, has) (rw had at k.2)
      | in-Lost w ↦
          let k = rw w.in-Lost.is at c.in_ok-won.ensures.decided in
          rw (w.found-is, has) (rw had at k.1)
    ]

pub returns-else-not-wants_memory-clause-answer : goal.returns-else-not-wants_memory-clause-answer
returns-else-not-wants_memory-clause-answer c = rw (c.wants_memory.ensures.0 c.if-not-wants_memory.false) tt

pub returns-else-not-wants_memory-clause-units : goal.returns-else-not-wants_memory-clause-units
returns-else-not-wants_memory-clause-units c = rw (c.wants_memory.ensures.0 c.if-not-wants_memory.false) refl
