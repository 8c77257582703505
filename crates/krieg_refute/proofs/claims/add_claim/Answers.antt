use Rattle.std.proofs.Common.{rules, ◌≡◌, ◌++◌, [], ◌∷◌, List, length, is_some, Some, sym, ap, ◌∙◌}
use Rattle.krieg_refute.proofs.Common.{set_at, claim_over, set_in}
use Rattle.krieg_refute.specs.declared.claims.SetPlace.TheVariants.{In}
use Rattle.krieg_refutation.specs.declared.refutation.Claim.{Claim}
use Rattle.krieg_refute.proofs.Slots.{slot_within, slot_has, taken}
use Rattle.krieg_refute.proofs.claims.add_claim.Goals as goal

pub index_mut-requires : goal.index_mut-requires
index_mut-requires c =
    let k = slot_within c.args.claims.now.items c.args.slots.now.items c.requires.0 c.args.draft.set c.requires.1 c.requires.2 in
    search (rules, k)

pub take_set-requires : goal.take_set-requires
take_set-requires c =
    let k = slot_has c.args.claims.now.items c.args.slots.now.items c.requires.0 c.args.draft.set c.index_mut.result.now c.requires.1 c.requires.2 c.index_mut.ensures.value in
    ap (λ (cs : List Claim). is_some (set_in cs c.index_mut.result.now)) c.deref.ensures.value ∙ ap is_some k

pub returns : goal.returns
returns c = λ T have within.
    let cs = c.args.claims.now.items in
    let w = c.args.draft in
    let k = slot_has cs c.args.slots.now.items T w.set c.index_mut.result.now have within c.index_mut.ensures.value in
    let d = c.deref.ensures.value in
    let e : Some c.in_ok-set.set ≡ Some (set_at T w.set) = sym c.in_ok-set.ensures.set ∙ ap (λ (xs : List Claim). set_in xs c.index_mut.result.now) d ∙ k in
    let q : c.in_ok-set.set ≡ set_at T w.set = cc in
    let n : Claim = record { moves = w.moves; set = c.in_ok-set.set; reasons = w.reasons } in
    let p : c.push.new.self.items ≡ cs ++ n ∷ [] = c.in_ok-push.ensures.items in
    let one : n ≡ claim_over T w = λ i. record { moves = w.moves; set = q i; reasons = w.reasons } in
    let slot = c.in_ok-set.ensures.slot ∙ ap (λ (xs : List Claim). In (length xs)) d in
    (p ∙ ap (λ (x : Claim). cs ++ x ∷ []) one, rw (p, slot) (taken n cs c.args.slots.now.items T w.set have q))
