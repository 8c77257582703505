use Rattle.std.proofs.Common.{◌≡◌, ◌+◌, ◌-◌, ◌&&◌, not, ap, ◌∙◌, List, map, subst}
use Rattle.std.specs.List.{list_all, list_any}
use Rattle.krieg_refutation.proofs.Common.{Move, same, total, made, Key, chess, move_lt, claim_of, claims_of, reason_of, try_holds}
use Rattle.krieg_costs.specs.Refutation.{Reason as Why}
use Rattle.krieg_refutation.specs.declared.refutation.Reason.{Reason}
use Rattle.krieg_refutation.proofs.ClaimTests.{claim_found, nil_by}
use Rattle.krieg_refutation.proofs.denial.claim_holds.Goals as goal

pub all_tries_hold-requires-clause-moves : goal.all_tries_hold-requires-clause-moves
all_tries_hold-requires-clause-moves c = λ d. c.as_slice.ensures.value ∙ c.in_ok-moves.ensures.moves d

pub returns : goal.returns
returns c =
    let d = c.args.c.now.dialect in
    let B = c.args.c.now.claim.now.set in
    let rs = map reason_of c.args.c.now.claim.now.reasons.items in
    let before = claims_of d c.args.c.now.before.now in
    let some = ap not (nil_by c.is_empty.result B c.is_empty.ensures.0 c.is_empty.ensures.1) in
    let moves = c.as_slice.ensures.value ∙ c.in_ok-moves.ensures.moves d in
    let held = c.in_ok-held.ensures.0 ∙ ap (list_all (λ t. try_holds d before (c.args.c.now.claim.now.moves - 1) B t rs)) moves in
    let only = c.are_for-only.ensures ∙ ap (λ (ts : List Move). list_all (λ (r : Move × Why Key). list_any (same move_lt r.0) ts) (map reason_of c.as_slice-2.result.now)) (c.as_slice-3.ensures.value ∙ c.in_ok-moves.ensures.moves d)
    ∙ ap (λ (xs : List Reason). list_all (λ (r : Move × Why Key). list_any (same move_lt r.0) (Rattle.krieg_theory.specs.Split.tries (chess d) B)) (map reason_of xs)) c.as_slice-2.ensures.value in
    let both = c.both.ensures in
    let first = c.both-some.ensures in (
      c.both-2.ensures ∙ (λ i. first i && both i) ∙ claim_found d before (claim_of d c.args.c.now.claim.now) (not c.is_empty.result) c.in_ok-held.held c.are_for-only.result some held only,
      subst (λ (ts : List Move). c.all_tries_hold.new.units + total (made (chess d) B) ts ≡ c.args.units.now) moves c.in_ok-held.ensures.1,
    )
