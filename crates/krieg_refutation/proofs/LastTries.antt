-- Tries where one move is left, by their tallies.
use Rattle.std.proofs.Common.{◌≡◌, ℕ, ◌*◌, ◌≤◌, true, ◌&&◌, List, [], ◌∷◌, length, map, refl, sym, ap, subst, arith}
use Rattle.std.specs.Prelude.{All}
use Rattle.std.specs.List.{list_all}
use Rattle.std.proofs.lemmas.Bool.{and_parts, and_from}
use Rattle.std.proofs.lemmas.List.Elements.{All-map}
use Rattle.krieg_refutation.proofs.Common.{Pos, Move, Dialect, position_lt, same, refused, total, made, is_within, chess, refuses, tally_of, Tally}
use Rattle.krieg_pack.proofs.PositionSets.{position_order}
use Rattle.krieg_theory.specs.Sets.{In}
use Rattle.krieg_theory.proofs.Lists.{all_at, all_from, any_at, any_from, in_filter, filter_in}
use Rattle.krieg_theory.proofs.Ascending.{same_eq}
use Rattle.krieg_refutation.proofs.ClaimTests.{both}

-- each of a set refuses the try and is a member just where each is one of those that refuse it
pub within_refused : (d : Dialect) (B C : List Pos) (t : Move) → (is_within position_lt C B && list_all (refuses t) C) ≡ is_within position_lt C (refused (chess d) B t)
within_refused d B C t = both _ _ there back
  where
    member : (S : List Pos) → is_within position_lt C S ≡ true → (p : Pos) → In p C → ((q : Pos) × In q S × (same position_lt p q ≡ true))
    member S h p i = any_at (same position_lt p) S (all_at (λ p. Rattle.std.specs.List.list_any (same position_lt p) S) C h p i)

    there : (is_within position_lt C B && list_all (refuses t) C) ≡ true → is_within position_lt C (refused (chess d) B t) ≡ true
    there h =
        let a = and_parts (is_within position_lt C B) _ h in
        all_from _ C (λ p i. let m = member B a.0 p i in any_from (same position_lt p) (refused (chess d) B t) m.0 (in_filter (refuses t) B m.0 m.1 (subst (λ q. refuses t q ≡ true) (same_eq position_lt position_order p m.0 m.2) (all_at (refuses t) C a.1 p i))) m.2)

    back : is_within position_lt C (refused (chess d) B t) ≡ true → (is_within position_lt C B && list_all (refuses t) C) ≡ true
    back h =
        let m = member (refused (chess d) B t) h in
        and_from _ _
        (all_from _ C (λ p i. any_from (same position_lt p) B (m p i).0 (filter_in (refuses t) B (m p i).0 (m p i).1).0 (m p i).2))
        (all_from _ C (λ p i. subst (λ q. refuses t q ≡ true) (sym (same_eq position_lt position_order p (m p i).0 (m p i).2)) (filter_in (refuses t) B (m p i).0 (m p i).1).1))

-- the tries take at least a unit for each member
pub members_paid : (d : Dialect) (B : List Pos) (ts : List Move) → length B * length ts ≤ total (made (chess d) B) ts
members_paid d B [] = omega arith
members_paid d B (t ∷ ts) = let h = members_paid d B ts in omega (arith, h)

-- what holds of tries, and what they take, by their tallies
module _ (B : List Pos) where
  pub are_tallies : (ts : List Move) → All (λ y. y ≡ tally_of B y.mv) (map (tally_of B) ts)
  are_tallies ts = All-map (λ y. y ≡ tally_of B y.mv) (tally_of B) ts (λ k t within. refl)

  pub total_tallied : (f : Move → ℕ) (ts : List Move) → total (λ (y : Tally). f y.mv) (map (tally_of B) ts) ≡ total f ts
  total_tallied f [] = refl
  total_tallied f (t ∷ ts) = ap (λ (n : ℕ). Rattle.std.specs.Prelude.◌+◌ (f t) n) (total_tallied f ts)

  -- the tallies of tries are of these tries
  pub moves_tallied : (ts : List Move) → map (λ (y : Tally). y.mv) (map (tally_of B) ts) ≡ ts
  moves_tallied [] = refl
  moves_tallied (t ∷ ts) = let h = moves_tallied ts in λ i. t ∷ h i
