use Rattle.std.proofs.Common.{ℕ, Vec, Global, ap, refl}
use Rattle.krieg_planfile.specs.PlanFiles.{state_of}
use Rattle.krieg_outcome.proofs.Common.{Lead, guided, plan_guide}
use Rattle.krieg_outcome.proofs.Benches.{seats_led}
use Rattle.krieg_outcome.proofs.Checking.{one_turn}
use Rattle.krieg_outcome.proofs.commands.lead.answer.Goals as goal

pub answer_to-requires-clause-turn : goal.answer_to-requires-clause-turn
answer_to-requires-clause-turn g c = one_turn c.in-Ok.file.side c.in-Ok.file.list.items c.in-Ok.ensures.plan.written.alike

pub returns-clause-bench : goal.returns-clause-bench
returns-clause-bench g c =
    let guide = plan_guide (state_of c.in-Ok.file) in
    seats_led _ _ _ (λ (answer : Vec ℕ Global). answer.items) (Lead c.args.asks c.args.number) c.args.text.items c.args.asks c.args.number guide c.answer_to.result refl
    (λ led. (guide, ap (guided plan_guide) (rw c.deref.ensures.value at c.in-Ok.ensures.reading.exact), led)) c.answer_to.ensures.outcome c.answer_to.ensures.memory
