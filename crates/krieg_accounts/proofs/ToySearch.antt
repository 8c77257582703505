-- The search of the set of 2 in the small game, as one stretch, and where units fall short.
use Rattle.std.proofs.Common.{◌≡◌, ℕ, false, ◌⊎◌, inl, inr, List, [], ◌∷◌, Option, Some, None, refl, arith}
use Rattle.krieg_accounts.proofs.Common.{In, toy, lawful, Pair, total, once, price, reach, known, all_owed, IsStretch, FallsShort, CoversPair, CoversTries, CoversSet, won_within, of_two}
use Rattle.krieg_costs.proofs.Pairs.{once_is, once_in}
use Rattle.krieg_costs.proofs.Reached.{reach_all, reach_leads, reach_inside}
use Rattle.krieg_costs.proofs.Totals.{total_within}
use Rattle.krieg_accounts.proofs.Stretches.{stretch_of_split, stretch_then, stretch_for}
use Rattle.krieg_accounts.proofs.Searches.{owed_empty}
use Rattle.krieg_accounts.proofs.ToyTables.{apart, noted, two_1, two_2, two_3, two_first, two_second, two_third, two_backed}

-- the try 0 is split, and both of its classes are searched
both_classes : IsStretch toy false (CoversTries toy (2 ∷ []) 2) 3 two_1 two_3 16 11
both_classes =
    let Q = CoversTries toy (2 ∷ []) 2 in
    let s = stretch_of_split toy false Q two_1 3 16 13 two_first.sound refl in
    let a = stretch_then toy false Q (CoversPair toy (0 ∷ []) 1) 3 0 two_1 two_1 two_2 16 13 12 (λ R h. (h.0, (h.1 0 refl).classes 0 (inl refl) 1 (omega arith) (omega arith))) s two_second in
    stretch_then toy false Q (CoversPair toy (1 ∷ []) 1) 3 0 two_1 two_2 two_3 16 12 11 (λ R h. (h.0, (h.1 0 refl).classes 1 (inr (inl refl)) 1 (omega arith) (omega arith))) a two_third

pub by_hand : IsStretch toy false (CoversSet toy (2 ∷ []) 2) 0 [] of_two 20 11
by_hand =
    let Q = CoversSet toy (2 ∷ []) 2 in
    let last = noted two_1 two_3 (2 ∷ []) 2 (Some 0) 16 11 both_classes (omega arith) refl two_backed refl refl in
    stretch_then toy false Q (CoversPair toy (2 ∷ []) 2) 0 0 [] two_1 of_two 20 16 11 (λ R h. (h.0, h.1 2 (omega arith) (omega arith)))
    (stretch_for toy false Q (CoversPair toy (2 ∷ []) 1) 0 [] two_1 20 16 (λ R h. (h.0, h.1 1 (omega arith) (omega arith))) two_first) last

-- what is reached from a set covers it
reached : (p : ℕ) (B : List ℕ) (j : ℕ) → CoversSet toy (p ∷ B) j (reach toy j (p ∷ B))
reached p B j = (reach_leads toy lawful j (p ∷ B) (reach toy j (p ∷ B)) (λ q i. i), λ i a b. reach_all toy lawful j i (p ∷ B) refl a b)

pub another_set : IsStretch toy false (CoversSet toy (5 ∷ []) 2) 0 [] (won_within (0 ∷ []) 1 0 ∷ []) 20 19 → ⊥
another_set w = go (w.news (reach toy 2 (5 ∷ [])) (reached 5 [] 2) (0 ∷ [], 1) (Some 0) refl)
  where
    go : (known toy [] (0 ∷ [], 1) ≡ Some (Some 0)) ⊎ In (0 ∷ [], 1) (reach toy 2 (5 ∷ [])) → ⊥
    go (inl e) = let q : ◌≡◌ {A = Option (Option ℕ)} None (Some (Some 0)) = e in cc
    go (inr i) = apart (λ q. total (λ n. n) q.0) (reach toy 2 (5 ∷ [])) (0 ∷ [], 1) refl i

-- each list that covers the set has what is reached
pub short : FallsShort toy (CoversSet toy (2 ∷ []) 2) 0 [] 14
short R h =
    let S = once toy (reach toy 2 (2 ∷ [])) in
    let inside = reach_inside toy lawful 2 R h.0 (2 ∷ []) (λ e i a b. h.1 i a b) in
    let a = total_within (λ (q : Pair toy). price toy q.0) (λ (q : Pair toy). price toy q.0) S R (once_is toy lawful (reach toy 2 (2 ∷ []))) (λ q i. inside q (once_in toy lawful (reach toy 2 (2 ∷ [])) q i)) (λ q. omega arith) in
    let b = owed_empty toy R in
    let c : total (λ (q : Pair toy). price toy q.0) S ≡ 15 = refl in
    omega arith

pub enough : FallsShort toy (CoversSet toy (2 ∷ []) 2) 0 [] 15 → ⊥
enough v =
    let a = v (reach toy 2 (2 ∷ [])) (reached 2 [] 2) in
    let b : all_owed toy (reach toy 2 (2 ∷ [])) [] ≡ 15 = refl in
    omega arith
