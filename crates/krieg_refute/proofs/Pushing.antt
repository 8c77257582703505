-- A claim is put behind others.
use Rattle.std.proofs.Common.{◌≡◌, ℕ, suc, ◌+◌, ◌<◌, ◌≤◌, min, leb, Bool, true, false, ◌⊎◌, List, [], ◌∷◌, ◌++◌, length, sym, ap, subst, inl, inr, ◌∙◌, arith, length-append}
use Rattle.std.proofs.lemmas.Bool.{cases_Bool, cond-true, cond-false, both_ways, false_from_ne_true, leb-true, leb-false}
use Rattle.std.proofs.lemmas.List.{map-append, length-map}
use Rattle.krieg_refute.proofs.Common.{Pos, Dialect, same_pair, index_of, place_of, positions_in, reasons_in, AreFew, AreMany, Stands, chess, SetRows, set_at, Question, reason_of, claim_of, claims_of, most_claims, most_claimed, pairs_in, IsNext}
use Rattle.krieg_theory.specs.Sets.{In}
use Rattle.krieg_theory.proofs.Lists.{append_in}
use Rattle.krieg_costs.specs.Refutation as theory
use Rattle.krieg_costs.proofs.Pairs.{same_pair_eq, same_pair_refl}
use Rattle.krieg_costs.proofs.Totals.{total_append}
use Rattle.krieg_claims.specs.Written as written
use Rattle.krieg_claims.proofs.Standing.{stands_more}
use Rattle.krieg_claims.proofs.Walking.{claims_more}
use Rattle.krieg_game.proofs.ChessLaws.{chess_is_game}
use Rattle.krieg_refutation.specs.declared.refutation.Claim.{Claim}

module _ (d : Dialect) where
  -- the index of a pair that comes behind all others
  index_new : (qs : List (List Pos × ℕ)) (q : List Pos × ℕ) → (In q qs → ⊥) → index_of (chess d) (qs ++ q ∷ []) q ≡ length qs
  index_new [] q n = cond-true (same_pair (chess d) q q) 0 1 (same_pair_refl (chess d) (chess_is_game d) q)
  index_new (p ∷ qs) q n =
      cond-false (same_pair (chess d) p q) 0 (suc (index_of (chess d) (qs ++ q ∷ []) q)) (false_from_ne_true _ (λ e. n (inl (same_pair_eq (chess d) (chess_is_game d) p q e))))
      ∙ ap suc (index_new qs q (λ i. n (inr i)))

  module _ (T : SetRows) (keys : List Question) (cs : List Claim) (c : Claim) (a : Question) (within : a.set < length T) (numbered : (k : Question) → In k keys → k.set < length T)
      (stands : Stands (chess d) [] (pairs_in T keys)) (are : claims_of d cs ≡ written.claims_of (chess d) (pairs_in T keys))
      (next : IsNext d T keys (set_at T a.set) a.moves (claim_of d c).reasons) (set : c.set ≡ set_at T a.set) (moves : c.moves ≡ a.moves) where
    pair : List Pos × ℕ
    pair = (set_at T a.set, a.moves)

    pub pairs_more : pairs_in T (keys ++ a ∷ []) ≡ pairs_in T keys ++ (set_at T a.set, a.moves) ∷ []
    pairs_more = map-append {B = List Pos × ℕ} (λ (k : Question). (set_at T k.set, k.moves)) keys (a ∷ [])

    claim_is : claim_of d c ≡ written.claim_of (chess d) (pairs_in T keys) (set_at T a.set, a.moves)
    claim_is = let r = next.reasons in λ i. record { number = moves i; set = set i; reasons = r i }

    pub claims_are : claims_of d (cs ++ c ∷ []) ≡ written.claims_of (chess d) (pairs_in T keys ++ (set_at T a.set, a.moves) ∷ [])
    claims_are =
        map-append (claim_of d) cs (c ∷ [])
        ∙ (λ i. are i ++ claim_is i ∷ [])
        ∙ sym (claims_more (chess d) (chess_is_game d) (pairs_in T keys) (set_at T a.set, a.moves) stands next.blocks)

    pub stand : Stands (chess d) [] (pairs_in T keys ++ (set_at T a.set, a.moves) ∷ [])
    stand = stands_more (chess d) (chess_is_game d) [] (pairs_in T keys) (set_at T a.set, a.moves) stands next.lost next.blocks

    pub all_numbered : (k : Question) → In k (keys ++ a ∷ []) → k.set < length T
    all_numbered k i = go (append_in keys (a ∷ []) k i)
      where
        go : In k keys ⊎ In k (a ∷ []) → k.set < length T
        go (inl m) = numbered k m
        go (inr (inl e)) = subst (λ (x : Question). x.set < length T) e within
        go (inr (inr m)) = absurd m

    counted : length cs ≡ length keys
    counted =
        sym (length-map cs (claim_of d)) ∙ ap length are
        ∙ length-map (pairs_in T keys) (written.claim_of (chess d) (pairs_in T keys))
        ∙ length-map {B = List Pos × ℕ} keys (λ (k : Question). (set_at T k.set, k.moves))

    pub place_is : (n : ℕ) → n ≡ length (cs ++ c ∷ []) → n ≡ place_of (chess d) (pairs_in T keys ++ (set_at T a.set, a.moves) ∷ []) (set_at T a.set, a.moves)
    place_is n e =
        let x = length-append cs (c ∷ []) in
        let y = index_new (pairs_in T keys) (set_at T a.set, a.moves) next.fresh in
        let z = length-map {B = List Pos × ℕ} keys (λ (k : Question). (set_at T k.set, k.moves)) in
        let w = counted in
        omega arith

  -- how much is claimed with one claim more
  pub positions_more : (cs : List Claim) (c : Claim) → positions_in (chess d) (claims_of d (cs ++ c ∷ [])) ≡ positions_in (chess d) (claims_of d cs) + length c.set
  positions_more cs c =
      ap (positions_in (chess d)) (map-append (claim_of d) cs (c ∷ []))
      ∙ total_append (λ (x : theory.Claim (chess d)). length x.set) (claims_of d cs) (claim_of d c ∷ [])
      ∙ (omega arith)

  pub reasons_more : (cs : List Claim) (c : Claim) → reasons_in (chess d) (claims_of d (cs ++ c ∷ [])) ≡ reasons_in (chess d) (claims_of d cs) + length c.reasons.items
  reasons_more cs c =
      ap (reasons_in (chess d)) (map-append (claim_of d) cs (c ∷ []))
      ∙ total_append (λ (x : theory.Claim (chess d)). length x.reasons) (claims_of d cs) (claim_of d c ∷ [])
      ∙ (let e = length-map c.reasons.items reason_of in omega arith)

  pub count_more : (cs : List Claim) (c : Claim) → length (claims_of d (cs ++ c ∷ [])) ≡ length cs + 1
  count_more cs c = let e = length-map (cs ++ c ∷ []) (claim_of d) in let x = length-append cs (c ∷ []) in omega arith

  -- with one claim more they are too many
  pub too_many : (cs : List Claim) (c : Claim) (count positions reasons most : ℕ) (b : Bool) → count ≡ length cs → most_claimed < most
      → positions ≡ min (positions_in (chess d) (claims_of d cs) + length c.set) most → reasons ≡ min (reasons_in (chess d) (claims_of d cs) + length c.reasons.items) most
      → ((count + 1 ≤ most_claims) × (positions ≤ most_claimed) × (reasons ≤ most_claimed) → b ≡ true) → b ≡ false → AreMany (chess d) most_claims most_claimed (claims_of d (cs ++ c ∷ []))
  too_many cs c count positions reasons most b n m p r f e = go (cases_Bool (leb (count + 1) most_claims)) (cases_Bool (leb positions most_claimed)) (cases_Bool (leb reasons most_claimed))
    where
      go : (leb (count + 1) most_claims ≡ true) ⊎ (leb (count + 1) most_claims ≡ false) → (leb positions most_claimed ≡ true) ⊎ (leb positions most_claimed ≡ false) → (leb reasons most_claimed ≡ true) ⊎ (leb reasons most_claimed ≡ false)
          → AreMany (chess d) most_claims most_claimed (claims_of d (cs ++ c ∷ []))
      go (inr x) y z = inl (let a = leb-false (count + 1) most_claims x in let q = count_more cs c in omega arith)
      go (inl x) (inr y) z = inr (inl (let a = leb-false positions most_claimed y in let q = positions_more cs c in omega arith))
      go (inl x) (inl y) (inr z) = inr (inr (let a = leb-false reasons most_claimed z in let q = reasons_more cs c in omega arith))
      go (inl x) (inl y) (inl z) = absurd (both_ways b e (f (leb-true (count + 1) most_claims x, leb-true positions most_claimed y, leb-true reasons most_claimed z)))

  -- with it they are few, and are counted
  pub still_few : (cs : List Claim) (c : Claim) (count positions reasons most : ℕ) → count ≡ length cs → most_claimed < most
      → positions ≡ min (positions_in (chess d) (claims_of d cs) + length c.set) most → reasons ≡ min (reasons_in (chess d) (claims_of d cs) + length c.reasons.items) most
      → (count + 1 ≤ most_claims) × (positions ≤ most_claimed) × (reasons ≤ most_claimed)
      → (positions ≡ positions_in (chess d) (claims_of d (cs ++ c ∷ []))) × (reasons ≡ reasons_in (chess d) (claims_of d (cs ++ c ∷ []))) × AreFew (chess d) most_claims most_claimed (claims_of d (cs ++ c ∷ []))
  still_few cs c count positions reasons most n m p r f =
      let x = positions_more cs c in
      let y = reasons_more cs c in
      let z = count_more cs c in
      let a = f.0 in
      let b = f.1 in
      let e = f.2 in
      (omega arith, omega arith, record { claims = omega arith; positions = omega arith; reasons = omega arith })
