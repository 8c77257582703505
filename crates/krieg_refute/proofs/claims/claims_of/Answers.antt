use Rattle.std.proofs.Common.{rules, suc, ◌≡◌, ◌++◌, [], ◌∷◌, List, map, sym, ap, subst, ◌∙◌, append_assoc, arith}
use Rattle.std.proofs.lemmas.List.{append-nil, nil_from_length}
use Rattle.std.specs.Vec.Iter.{into_iter_items}
use Rattle.krieg_refute.proofs.Common.{sets, Draft, claim_over, claims_over, AreWithin, set_in}
use Rattle.krieg_refutation.specs.declared.refutation.Claim.{Claim}
use Rattle.krieg_refute.proofs.Slots.{none_taken}
use Rattle.krieg_refute.proofs.claims.claims_of.Goals as goal

pub loop-draft-init : goal.loop-draft-init
loop-draft-init c =
    let e = c.in_ok-claims.ensures.items in
    let s = c.in_ok-slots.ensures in
    let i = c.into_iter-draft-iterator.ensures.into_iter_gives in
    record {
      claims = ap (λ (cs : List Claim). cs ++ claims_over c.args.table (into_iter_items c.into_iter-draft-iterator.result)) e ∙ ap (claims_over c.args.table) i.0;
      sets = ap (λ (cs : List Claim). map (set_in cs) c.in_ok-slots.slots.items) e ∙ ap (map (set_in [])) s ∙ none_taken (sets c.args.table);
      within = subst (AreWithin c.args.table) (sym i.0) c.requires;
      counted = search rules;
    }

pub add_claim-requires : goal.add_claim-requires
add_claim-requires c =
    let w = subst (AreWithin c.args.table) c.in-Some.ensures.steps.0 c.loop-draft.invariant.within in
    (c.args.table, c.loop-draft.invariant.sets, w 0 c.in-Some.draft (omega arith))

pub loop-draft-preserved : goal.loop-draft-preserved
loop-draft-preserved c =
    let T = c.args.table in
    let cs = c.loop-draft.claims.items in
    let w = c.in-Some.draft in
    let ws = into_iter_items c.next.new.self in
    let within = subst (AreWithin T) c.in-Some.ensures.steps.0 c.loop-draft.invariant.within in
    let added = c.in_ok-add_claim.ensures T c.loop-draft.invariant.sets (within 0 w (omega arith)) in
    record {
      claims =
          ap (λ (xs : List Claim). xs ++ claims_over T ws) added.0 ∙ append_assoc cs (claim_over T w ∷ []) (claims_over T ws)
          ∙ ap (λ (xs : List Draft). cs ++ claims_over T xs) (sym c.in-Some.ensures.steps.0) ∙ c.loop-draft.invariant.claims;
      sets = added.1;
      within = λ k x h. within (suc k) x (omega arith);
      counted = search rules;
    }

pub returns : goal.returns
returns c =
    let none : into_iter_items c.loop-draft.draft-iterator ≡ [] = nil_from_length _ (sym c.loop-draft.invariant.counted ∙ c.in-None.ensures.steps.0) in
    sym (append-nil _) ∙ ap (λ (ws : List Draft). c.loop-draft.claims.items ++ claims_over c.args.table ws) (sym none) ∙ c.loop-draft.invariant.claims
