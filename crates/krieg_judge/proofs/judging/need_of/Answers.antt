use Rattle.std.proofs.Common.{rules, ◌≡◌, [], refl, arith}
use Rattle.krieg_parting.proofs.Charges.{stopped}
use Rattle.krieg_judge.proofs.Common.{Findings}
use Rattle.krieg_judge.proofs.Walks.{begun, in_range, affords, less_units, stepped, finished, some_cost, no_entry}
use Rattle.krieg_judge.proofs.judging.need_of.Goals as goal

pub loop-next-init : goal.loop-next-init
loop-next-init c = begun c.args.s.now c.args.set.now c.in_ok-found.found c.start.new.units c.args.units.now c.in_ok-found.ensures.0 c.in_ok-found.ensures.1

pub meet_next-requires : goal.meet_next-requires
meet_next-requires c =
    in_range c.args.s.now c.args.set.now c.loop-next.found (record { waiting = c.pop_last.new.self; need = c.loop-next.found.need }) c.in-Some.next c.loop-next.units c.args.units.now c.loop-next.invariant refl c.in-Some.ensures.removal c.in-Some.ensures.all_below

pub loop-next-smaller : goal.loop-next-smaller
loop-next-smaller c =
    let there = in_range c.args.s.now c.args.set.now c.loop-next.found (record { waiting = c.pop_last.new.self; need = c.loop-next.found.need }) c.in-Some.next c.loop-next.units c.args.units.now c.loop-next.invariant refl c.in-Some.ensures.removal c.in-Some.ensures.all_below in
    omega (arith, some_cost c.args.s.now c.in-Some.next.0 there, c.in_ok-meet_next.ensures.1)

pub loop-next-preserved : goal.loop-next-preserved
loop-next-preserved c =
    stepped c.args.s.now c.args.set.now c.loop-next.found (record { waiting = c.pop_last.new.self; need = c.loop-next.found.need }) c.in-Some.next c.loop-next.units c.args.units.now c.loop-next.invariant refl c.in-Some.ensures.removal c.in-Some.ensures.all_below
    c.meet_next.new.found c.meet_next.new.units c.in_ok-meet_next.ensures.0 c.in_ok-meet_next.ensures.1

pub returns-in_err-meet_next : goal.returns-in_err-meet_next
returns-in_err-meet_next c =
    let mid : Findings = record { waiting = c.pop_last.new.self; need = c.loop-next.found.need } in
    stopped _ c.from_residual-in_err-meet_next.result c.in_err-meet_next.field-0.0 _ _ _ _ _ _ _ (λ x h. cc) c.from_residual-in_err-meet_next.ensures.1
    (affords c.args.s.now c.args.set.now c.loop-next.found mid c.in-Some.next c.loop-next.units c.args.units.now c.loop-next.invariant refl c.in-Some.ensures.removal c.in-Some.ensures.all_below)
    (less_units c.args.s.now c.args.set.now c.loop-next.found mid c.in-Some.next c.loop-next.units c.args.units.now c.loop-next.invariant refl c.in-Some.ensures.removal c.in-Some.ensures.all_below) c.in_err-meet_next.ensures

pub returns : goal.returns
returns c =
    let none : c.loop-next.found.waiting.entries ≡ [] = no_entry _ (λ h. search rules) in
    finished c.args.s.now c.args.set.now c.loop-next.found c.loop-next.units c.args.units.now c.loop-next.invariant none
