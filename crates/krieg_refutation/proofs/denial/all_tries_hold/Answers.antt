use Rattle.std.proofs.Common.{◌≡◌, ℕ, ◌-◌, ◌*◌, ◌<◌, ◌≤◌, Bool, List, Result, length, map, sym, ap, subst, ◌∙◌, arith}
use Rattle.std.specs.Prelude.{All}
use Rattle.std.specs.List.{list_all}
use Rattle.std.proofs.lemmas.List.Folds.{list_all-map}
use Rattle.krieg_refutation.proofs.Common.{Move, tries, PartStop, Charges, total, chess, tally_of, Tally, holds_at, price_at, AreLast, PlacedClaim}
use Rattle.krieg_parting.proofs.Charges.{said}
use Rattle.krieg_refutation.proofs.LastTries.{members_paid, are_tallies, total_tallied}
use Rattle.krieg_refutation.proofs.denial.all_tries_hold.Goals as goal

pub returns-then-not-is_one_for_each : goal.returns-then-not-is_one_for_each
returns-then-not-is_one_for_each c =
    let B = c.args.c.now.claim.now.set in
    let few : c.args.units.now < length B * length c.args.moves.now = subst (λ n. c.args.units.now < n * length c.args.moves.now) c.len.ensures.value (c.is_one_for_each.ensures c.if-not-is_one_for_each.true) in
    (omega (arith, few, members_paid c.args.c.now.dialect B c.args.moves.now), omega arith)

-- the tallies are those of the tries in their order
in_order : (c : PlacedClaim) (ts : List Move) (ys zs : List Tally) → zs ≡ ys → AreLast c ys → ts ≡ tries (chess c.dialect) c.claim.now.set → zs ≡ map (tally_of c.claim.now.set) ts
in_order c ts ys zs same last tried = same ∙ last.1 c.dialect ∙ ap (map (tally_of c.claim.now.set)) (sym tried)

-- what holds by these holds of the tries
hold_by_tallies : (c : PlacedClaim) (ts : List Move) (zs : List Tally) → c.claim.now.moves ≤ 1 → zs ≡ map (tally_of c.claim.now.set) ts → (r : Result Bool PartStop) (u0 u1 : ℕ)
    → Charges r (λ yes. yes ≡ list_all (λ (y : Tally). holds_at 0 c y.mv) zs) (total (λ (y : Tally). price_at c y.mv) zs) u0 u1
    → Charges r (λ yes. yes ≡ list_all (holds_at (c.claim.now.moves - 1) c) ts) (total (price_at c) ts) u0 u1
hold_by_tallies c ts zs one are r u0 u1 h =
    let left : 0 ≡ c.claim.now.moves - 1 = omega (arith, one) in
    said r _ _ _ _ _ _
    (λ yes e. e ∙ ap (list_all (λ (y : Tally). holds_at 0 c y.mv)) are ∙ list_all-map (λ (y : Tally). holds_at 0 c y.mv) (tally_of c.claim.now.set) ts ∙ ap (λ i. list_all (holds_at i c) ts) left)
    (sym (ap (total (λ (y : Tally). price_at c y.mv)) are ∙ total_tallied c.claim.now.set (price_at c) ts)) h

pub last_tries_hold-requires : goal.last_tries_hold-requires
last_tries_hold-requires c =
    let B = c.args.c.now.claim.now.set in
    let last = rw c.in-Some.is at c.in_ok-tallies_of.ensures in
    subst (All (λ y. y ≡ tally_of B y.mv)) (sym (in_order c.args.c.now c.args.moves.now _ c.as_slice.result.now c.as_slice.ensures.value last (c.requires.moves c.args.c.now.dialect))) (are_tallies B _)

pub returns-in-Some : goal.returns-in-Some
returns-in-Some c =
    let last = rw c.in-Some.is at c.in_ok-tallies_of.ensures in
    hold_by_tallies c.args.c.now c.args.moves.now c.as_slice.result.now last.0 (in_order c.args.c.now c.args.moves.now _ c.as_slice.result.now c.as_slice.ensures.value last (c.requires.moves c.args.c.now.dialect))
    c.last_tries_hold.result c.args.units.now c.last_tries_hold.new.units c.last_tries_hold.ensures
