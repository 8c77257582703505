-- The places of sets among those that have nodes, by their numbers in a table.
use Rattle.std.proofs.Common.{◌≡◌, ℕ, zero, suc, ◌+◌, ◌<◌, Bool, true, false, cond, List, [], ◌∷◌, inl, inr, length, map, nat_eq, nat_lt, position, Option, Some, None, refl, sym, ap, ◌∙◌, subst, arith}
use Rattle.std.specs.Prelude.{not, ◌||◌}
use Rattle.std.specs.List.{list_any, position_or_len}
use Rattle.std.proofs.lemmas.Bool.{both_ways, cond-false, cond-true, false_from_ne_true, eqb-true, eq-eqb}
use Rattle.krieg_words.specs.declared.dialects.Dialect.{Dialect}
use Rattle.krieg_theory.specs.Sets.{In}
use Rattle.krieg_theory.proofs.Lists.{any_at, any_from}
use Rattle.krieg_costs.specs.Sums.{IsOnce, same_list}
use Rattle.krieg_costs.proofs.Pairs.{same_list_eq, same_list_refl}
use Rattle.krieg_pack.specs.Order.{position_lt}
use Rattle.krieg_game.specs.Chess.{chess}
use Rattle.krieg_game.proofs.ChessLaws.{chess_is_game}
use Rattle.krieg_table.specs.SetRows.{SetRows, sets, set_at}
use Rattle.krieg_share.specs.Sharing.{has_node, number_of, node_number}

set_in : (T : SetRows) (k : ℕ) → k < length T → In (set_at T k) (sets T)
set_in [] k l = absurd (omega arith)
set_in (r ∷ T) zero l = inl refl
set_in (r ∷ T) (suc k) l = inr (set_in T k (omega arith))

-- a set has one place in a table
one_place : (T : SetRows) (a b : ℕ) → IsOnce (sets T) → a < length T → b < length T → set_at T a ≡ set_at T b → a ≡ b
one_place [] a b o l m e = absurd (omega arith)
one_place (r ∷ T) zero zero o l m e = refl
one_place (r ∷ T) zero (suc b) o l m e = absurd (o.0 (subst (λ X. In X (sets T)) (sym e) (set_in T b (omega arith))))
one_place (r ∷ T) (suc a) zero o l m e = absurd (o.0 (subst (λ X. In X (sets T)) e (set_in T a (omega arith))))
one_place (r ∷ T) (suc a) (suc b) o l m e = ap suc (one_place T a b o.1 (omega arith) (omega arith) e)

-- a key that is not there comes last
pub none_equal : (ks : List ℕ) (k : ℕ) → (In k ks → ⊥) → list_any (nat_eq k) ks ≡ false
none_equal ks k h = false_from_ne_true _ (λ e. let a = any_at (nat_eq k) ks e in h (subst (λ x. In x ks) (sym (eqb-true k a.0 a.2)) a.1))

first_place : (s e : Bool) → s ≡ e → (n p : ℕ) → n ≡ p → cond s zero (suc n) ≡ cond (not e) (1 + p) 0
first_place s true h n p q = cond-true s zero (suc n) h
first_place s false h n p q = cond-false s zero (suc n) h ∙ omega arith

module _ (d : Dialect) (T : SetRows) (once : IsOnce (sets T)) (a : ℕ) (within : a < length T) where
  same_test : (k : ℕ) → k < length T → same_list position_lt (set_at T k) (set_at T a) ≡ nat_eq a k
  same_test k l = go (nat_eq a k) refl
    where
      go : (b : Bool) → nat_eq a k ≡ b → same_list position_lt (set_at T k) (set_at T a) ≡ b
      go true e = subst (λ i. same_list position_lt (set_at T i) (set_at T a) ≡ true) (eqb-true a k e) (same_list_refl position_lt (chess_is_game d).position_order (set_at T a))
      go false e = false_from_ne_true _ (λ h. both_ways (nat_eq a k) e (eq-eqb a k (sym (one_place T k a once l within (same_list_eq position_lt (chess_is_game d).position_order (set_at T k) (set_at T a) h)))))

  places : (ks : List ℕ) → ((i : ℕ) → In i ks → i < length T) → (has_node (chess d) (set_at T a) (map (set_at T) ks) ≡ list_any (nat_eq a) ks) × (number_of (chess d) (set_at T a) (map (set_at T) ks) ≡ position_or_len (nat_eq a) ks)
  places [] h = (refl, refl)
  places (k ∷ ks) h =
      let t = same_test k (h k (inl refl)) in
      let r = places ks (λ i j. h i (inr j)) in (
        λ i. t i || r.0 i,
        first_place (same_list position_lt (set_at T k) (set_at T a)) (nat_eq a k) t (number_of (chess d) (set_at T a) (map (set_at T) ks)) (position_or_len (nat_eq a) ks) r.1,
      )

  at_position : (b : Bool) (i n : ℕ) → ◌≡◌ {A = Option ℕ} (Some i) (cond b (Some n) None) → i ≡ n
  at_position true i n e = cc
  at_position false i n e = absurd cc

  pub found_number : (ks : List ℕ) → ((i : ℕ) → In i ks → i < length T) → (i : ℕ) → Some i ≡ position (nat_eq a) ks → true ≡ list_any (nat_eq a) ks → Some i ≡ node_number (chess d) (set_at T a) (map (set_at T) ks)
  found_number ks h i e f =
      let r = places ks h in
      let at = at_position (nat_lt (position_or_len (nat_eq a) ks) (length ks)) i (position_or_len (nat_eq a) ks) e in
      ap Some (at ∙ sym r.1) ∙ sym (cond-true (has_node (chess d) (set_at T a) (map (set_at T) ks)) (Some (number_of (chess d) (set_at T a) (map (set_at T) ks))) None (r.0 ∙ sym f))

  pub found_none : (ks : List ℕ) → ((i : ℕ) → In i ks → i < length T) → false ≡ list_any (nat_eq a) ks → ◌≡◌ {A = Option ℕ} None (node_number (chess d) (set_at T a) (map (set_at T) ks))
  found_none ks h f =
      let r = places ks h in
      sym (cond-false (has_node (chess d) (set_at T a) (map (set_at T) ks)) (Some (number_of (chess d) (set_at T a) (map (set_at T) ks))) None (r.0 ∙ sym f))

  -- a set without a node has none by its number
  pub not_placed : (ks : List ℕ) → ((i : ℕ) → In i ks → i < length T) → has_node (chess d) (set_at T a) (map (set_at T) ks) ≡ false → In a ks → ⊥
  not_placed ks h f i = both_ways (list_any (nat_eq a) ks) (sym (places ks h).0 ∙ f) (any_here ks i)
    where
      any_here : (js : List ℕ) → In a js → list_any (nat_eq a) js ≡ true
      any_here js j = any_from (nat_eq a) js a j (eq-eqb a a refl)
