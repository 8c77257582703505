-- The pairs below a pair: those with a smaller number, or with the same and fewer members.
use Rattle.std.proofs.Common.{◌≡◌, ℕ, ◌+◌, ◌≤◌, ◌<◌, Bool, true, false, ◌&&◌, ◌||◌, nat_lt, ◌⊎◌, inl, inr, List, [], ◌∷◌, length, filter, refl, subst, sym, ◌∙◌, arith}
use Rattle.std.specs.Prelude.{◌==◌}
use Rattle.std.proofs.lemmas.Bool.{or_cases, or_left, or_right, and_from, and_parts, lt-ltb, ltb-true, eq-eqb, eqb-true, both_ways, false_from_ne_true}
use Rattle.krieg_accounts.proofs.Common.{In, Game, IsGame, refused, legal_in_some, Pair, HasParts, LeadsOn, reach, CoversPair, CoversTries}
use Rattle.krieg_theory.proofs.Lists.{in_filter, filter_in}
use Rattle.krieg_theory.proofs.Steps.{refused_lt}
use Rattle.krieg_costs.proofs.Reached.{reach_leads, reach_all}

module _ (G : Game) (L : IsGame G) where
  -- q has a smaller number than j, or the same and fewer members than n
  abbrev pub before : ℕ → ℕ → Pair G → Bool
  before j n q = nat_lt q.1 j || ((q.1 == j) && nat_lt (length q.0) n)

  abbrev pub below : ℕ → ℕ → List (Pair G) → List (Pair G)
  below j n R = filter (before j n) R

  before_smaller : (j n : ℕ) (q : Pair G) → q.1 < j → before j n q ≡ true
  before_smaller j n q h = or_left _ _ (lt-ltb q.1 j h)

  before_shorter : (j n : ℕ) (q : Pair G) → q.1 ≡ j → length q.0 < n → before j n q ≡ true
  before_shorter j n q e h = or_right _ _ (and_from _ _ (eq-eqb q.1 j e) (lt-ltb (length q.0) n h))

  before_is : (j n : ℕ) (q : Pair G) → before j n q ≡ true → (q.1 < j) ⊎ ((q.1 ≡ j) × (length q.0 < n))
  before_is j n q h = go (or_cases _ _ h)
    where
      go : (nat_lt q.1 j ≡ true) ⊎ (((q.1 == j) && nat_lt (length q.0) n) ≡ true) → (q.1 < j) ⊎ ((q.1 ≡ j) × (length q.0 < n))
      go (inl a) = inl (ltb-true q.1 j a)
      go (inr b) = let c = and_parts _ _ b in inr (eqb-true q.1 j c.0, ltb-true (length q.0) n c.1)

  pub not_before_itself : (q : Pair G) → before q.1 (length q.0) q ≡ false
  not_before_itself q = false_from_ne_true _ (λ h. go (before_is q.1 (length q.0) q h))
    where
      go : (q.1 < q.1) ⊎ ((q.1 ≡ q.1) × (length q.0 < length q.0)) → ⊥
      go (inl a) = omega arith
      go (inr b) = let c = b.1 in omega arith

  -- what a pair that is below or at the bound leads to, is below
  parts_below : (R : List (Pair G)) (j n i : ℕ) (B : List G.Position) (t : G.Move) → HasParts G R B i t → (i < j) ⊎ ((i ≡ j) × (length B ≤ n)) → legal_in_some G B t ≡ true → HasParts G (below j n R) B i t
  parts_below R j n i B t h le l = record {
    refused_part = λ e k a b. in_filter (before j n) R _ (h.refused_part e k a b) (goes le k b);
    classes = λ key o k a b. in_filter (before j n) R _ (h.classes key o k a b) (before_smaller j n _ (smaller le k b));
  }
    where
      smaller : (i < j) ⊎ ((i ≡ j) × (length B ≤ n)) → (k : ℕ) → k < i → k < j
      smaller (inl a) k b = omega arith
      smaller (inr c) k b = let d = c.0 in omega arith

      at : (k : ℕ) → length B ≤ n → (k ≡ j) ⊎ (k < j) → before j n (refused G B t, k) ≡ true
      at k d (inl e) = let c = refused_lt G L B t l in before_shorter j n _ e (omega arith)
      at k d (inr e) = before_smaller j n _ e

      goes : (i < j) ⊎ ((i ≡ j) × (length B ≤ n)) → (k : ℕ) → k ≤ i → before j n (refused G B t, k) ≡ true
      goes (inl a) k b = before_smaller j n _ (omega arith)
      goes (inr c) k b = let e = c.0 in at k c.1 (Rattle.std.proofs.Common.eq-or-lt_of_le (let f : k ≤ j = omega arith in f))

  pub below_has : (R : List (Pair G)) (B : List G.Position) (j : ℕ) → CoversPair G B j R → CoversTries G B j (below j (length B) R)
  below_has R B j h = (closed, λ t l. parts_below R j (length B) j B t (h.0 B j h.1 t l) (inr (refl, omega arith)) l)
    where
      weaker : (i : ℕ) (C : List G.Position) → (i < j) ⊎ ((i ≡ j) × (length C < length B)) → (i < j) ⊎ ((i ≡ j) × (length C ≤ length B))
      weaker i C (inl a) = inl a
      weaker i C (inr b) = let c = b.1 in inr (b.0, omega arith)

      closed : LeadsOn G (below j (length B) R)
      closed C i m t l =
          let f = filter_in (before j (length B)) R (C, i) m in
          parts_below R j (length B) i C t (h.0 C i f.0 t l) (weaker i C (before_is j (length B) (C, i) f.1)) l

  pub below_in : (j n : ℕ) (R : List (Pair G)) (q : Pair G) → In q (below j n R) → In q R
  below_in j n R q i = (filter_in (before j n) R q i).0

  pub not_below_itself : (q : Pair G) (R : List (Pair G)) → In q (below q.1 (length q.0) R) → ⊥
  not_below_itself q R i = both_ways _ (not_before_itself q) (filter_in (before q.1 (length q.0)) R q i).1

  -- there is a list that leads on and has the pair
  pub some_list : (B : List G.Position) (j : ℕ) → 0 < j → (R : List (Pair G)) × CoversPair G B j R
  some_list [] j h = (([], j) ∷ [], (λ C i m t l. absurd (empty C i t m l), inl refl))
    where
      empty : (C : List G.Position) (i : ℕ) (t : G.Move) → (◌≡◌ {A = Pair G} ([], j) (C, i)) ⊎ ⊥ → legal_in_some G C t ≡ true → ⊥
      empty C i t (inl e) l = both_ways false refl (subst (λ (q : Pair G). legal_in_some G q.0 t ≡ true) (sym e) l)
      empty C i t (inr e) l = e
  some_list (p ∷ B) j h = (reach G j (p ∷ B), (reach_leads G L j (p ∷ B) (reach G j (p ∷ B)) (λ q i. i), reach_all G L j j (p ∷ B) refl h (omega arith)))
