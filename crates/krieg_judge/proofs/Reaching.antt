-- What is reached: each pair once, and the least list that has what comes first and with each pair what comes next.
use Rattle.std.proofs.Common.{◌≡◌, ℕ, zero, suc, ◌-◌, ◌<◌, ◌≤◌, true, false, cond, ◌&&◌, List, ◌++◌, ◌⊎◌, inl, inr, flat_map, length, refl, sym, ap, ◌∙◌, subst, arith, Option, Some, None}
use Rattle.std.specs.Prelude.{◌==◌, nat_lt, slice_get}
use Rattle.std.proofs.lemmas.Bool.{and_parts, and_from, or_cases, or_left, or_right, lt-ltb, ltb-true, eq-eqb, eqb-true, cases_lt, cases_Bool, both_ways, false_from_ne_true}
use Rattle.krieg_theory.proofs.Ascending.{in_as_set, as_set_in}
use Rattle.krieg_theory.proofs.Lists.{append_in, in_append_left, in_append_right, flat_in, in_flat}
use Rattle.krieg_costs.proofs.Onces.{once_set}
use Rattle.krieg_strategy.proofs.Unfolding.{first_below}
use Rattle.krieg_judge.proofs.Common.{In, IsOrder, Game, IsGame, Outset, IsOnce, Node, first_to, AreBelow, IsBelow, Pair, pair_lt, pair_at, next_at, next_of, next_pairs, first_at, first_pairs, IsClosed, reached, reached_within, ReachedIsOnce, ReachedIsLeast, ReachedIsClosed}

module _ (G : Game) (L : IsGame G) where
  before : (x y : Pair G) → pair_lt G x y ≡ true → (x.0 < y.0) ⊎ ((x.0 ≡ y.0) × (G.position_lt x.1 y.1 ≡ true))
  before x y h = go (or_cases (nat_lt x.0 y.0) ((x.0 == y.0) && G.position_lt x.1 y.1) h)
    where
      go : (nat_lt x.0 y.0 ≡ true) ⊎ (((x.0 == y.0) && G.position_lt x.1 y.1) ≡ true) → (x.0 < y.0) ⊎ ((x.0 ≡ y.0) × (G.position_lt x.1 y.1 ≡ true))
      go (inl a) = inl (ltb-true x.0 y.0 a)
      go (inr a) = let b = and_parts (x.0 == y.0) (G.position_lt x.1 y.1) a in inr (eqb-true x.0 y.0 b.0, b.1)

  -- a pair of a lower node stands before
  pub lower_before : (x y : Pair G) → x.0 < y.0 → pair_lt G x y ≡ true
  lower_before x y h = or_left (nat_lt x.0 y.0) ((x.0 == y.0) && G.position_lt x.1 y.1) (lt-ltb x.0 y.0 h)

  -- and so does one of a lower position at the same node
  pub same_before : (x y : Pair G) → x.0 ≡ y.0 → G.position_lt x.1 y.1 ≡ true → pair_lt G x y ≡ true
  same_before x y e h = or_right (nat_lt x.0 y.0) ((x.0 == y.0) && G.position_lt x.1 y.1) (and_from (x.0 == y.0) (G.position_lt x.1 y.1) (eq-eqb x.0 y.0 e) h)

  pub pair_order : IsOrder (pair_lt G)
  pair_order = record {
    never_itself = λ a. false_from_ne_true (pair_lt G a a) (λ h. itself a (before a a h));
    trans = λ a b c h k. chain a b c (before a b h) (before b c k);
    total = λ a b h k. neither a b h k;
  }
    where
      itself : (a : Pair G) → (a.0 < a.0) ⊎ ((a.0 ≡ a.0) × (G.position_lt a.1 a.1 ≡ true)) → ⊥
      itself a (inl h) = absurd (omega arith)
      itself a (inr h) = both_ways (G.position_lt a.1 a.1) (L.position_order.never_itself a.1) h.1

      chain : (a b c : Pair G) → (a.0 < b.0) ⊎ ((a.0 ≡ b.0) × (G.position_lt a.1 b.1 ≡ true)) → (b.0 < c.0) ⊎ ((b.0 ≡ c.0) × (G.position_lt b.1 c.1 ≡ true)) → pair_lt G a c ≡ true
      chain a b c (inl h) (inl k) = lower_before a c (omega arith)
      chain a b c (inl h) (inr k) = let e = k.0 in lower_before a c (omega arith)
      chain a b c (inr h) (inl k) = let e = h.0 in lower_before a c (omega arith)
      chain a b c (inr h) (inr k) = same_before a c (h.0 ∙ k.0) (L.position_order.trans a.1 b.1 c.1 h.1 k.1)

      level : (a b : Pair G) → pair_lt G a b ≡ false → pair_lt G b a ≡ false → (a.0 < b.0) ⊎ (b.0 ≤ a.0) → (b.0 < a.0) ⊎ (a.0 ≤ b.0) → a.0 ≡ b.0
      level a b h k (inl i) j = absurd (both_ways (pair_lt G a b) h (lower_before a b i))
      level a b h k (inr i) (inl j) = absurd (both_ways (pair_lt G b a) k (lower_before b a j))
      level a b h k (inr i) (inr j) = omega arith

      neither : (a b : Pair G) → pair_lt G a b ≡ false → pair_lt G b a ≡ false → a ≡ b
      neither a b h k =
          let node = level a b h k (cases_lt a.0 b.0) (cases_lt b.0 a.0) in
          let one = false_from_ne_true (G.position_lt a.1 b.1) (λ t. both_ways (pair_lt G a b) h (same_before a b node t)) in
          let two = false_from_ne_true (G.position_lt b.1 a.1) (λ t. both_ways (pair_lt G b a) k (same_before b a (sym node) t)) in
          let position = L.position_order.total a.1 b.1 one two in
          λ i. (node i, position i)

module _ (G : Game) where
  -- where a position is at a number, this is its node's
  pub at_number : (o : Option ℕ) (p : G.Position) (y : Pair G) → In y (pair_at G o p) → o ≡ Some y.0
  at_number None p y i = absurd i
  at_number (Some j) p y (inl e) = ap (λ (x : Pair G). Some x.0) e
  at_number (Some j) p y (inr i) = absurd i

  -- what comes next is at a lower node
  next_lower : (own : ℕ) (n : Node G.Move G.Key) → IsBelow own n → (p : G.Position) (y : Pair G) → In y (next_at G n p) → y.0 < own
  next_lower own n below p y i = go (cases_Bool (G.legal p n.mv))
    where
      edge : (o : G.Key × G.Position) × In o (G.outcomes p n.mv) × In y (pair_at G (first_to G.key_lt n.edges o.0) o.1) → y.0 < own
      edge o = first_below G.key_lt own n.edges below.edges_part o.0.0 y.0 (at_number (first_to G.key_lt n.edges o.0.0) o.0.1 y o.2)

      go : (G.legal p n.mv ≡ true) ⊎ (G.legal p n.mv ≡ false) → y.0 < own
      go (inl h) = edge (flat_in (λ o. pair_at G (first_to G.key_lt n.edges o.0) o.1) (G.outcomes p n.mv) y (subst (λ b. In y (cond b (flat_map (λ o. pair_at G (first_to G.key_lt n.edges o.0) o.1) (G.outcomes p n.mv)) (pair_at G n.no p))) h i))
      go (inr h) = below.no_part y.0 (at_number n.no p y (subst (λ b. In y (cond b (flat_map (λ o. pair_at G (first_to G.key_lt n.edges o.0) o.1) (G.outcomes p n.mv)) (pair_at G n.no p))) h i))

module _ (G : Game) (L : IsGame G) (O : Outset G) (nodes : List (Node G.Move G.Key)) (roots : List (O.Root × ℕ)) (S : List G.Position) where
  abbrev R : ℕ → List (Pair G)
  R n = reached_within G O nodes roots n S

  enter_first : (n : ℕ) (y : Pair G) → In y (first_pairs G O nodes roots S) → In y (R n)
  enter_first zero y i = in_as_set (pair_lt G) (pair_order G L) y (first_pairs G O nodes roots S) i
  enter_first (suc n) y i = in_as_set (pair_lt G) (pair_order G L) y _ (in_append_left (first_pairs G O nodes roots S) (flat_map (next_pairs G O nodes roots) (R n)) y i)

  enter_next : (n : ℕ) (x y : Pair G) → In x (R n) → In y (next_pairs G O nodes roots x) → In y (R (suc n))
  enter_next n x y i j =
      in_as_set (pair_lt G) (pair_order G L) y _ (in_append_right (first_pairs G O nodes roots S) (flat_map (next_pairs G O nodes roots) (R n)) y (in_flat (next_pairs G O nodes roots) (R n) x y i j))

  abbrev Came : ℕ → Pair G → Type 0
  Came n y = In y (first_pairs G O nodes roots S) ⊎ ((x : Pair G) × In x (R n) × In y (next_pairs G O nodes roots x))

  came : (n : ℕ) (y : Pair G) → In y (R (suc n)) → Came n y
  came n y i = go (append_in (first_pairs G O nodes roots S) (flat_map (next_pairs G O nodes roots) (R n)) y (as_set_in (pair_lt G) (pair_order G L) y _ i))
    where
      go : In y (first_pairs G O nodes roots S) ⊎ In y (flat_map (next_pairs G O nodes roots) (R n)) → Came n y
      go (inl a) = inl a
      go (inr a) = inr (flat_in (next_pairs G O nodes roots) (R n) y a)

  first_from : (y : Pair G) → In y (R zero) → In y (first_pairs G O nodes roots S)
  first_from y i = as_set_in (pair_lt G) (pair_order G L) y _ i

  one_step : (n : ℕ) (y : Pair G) → In y (R n) → In y (R (suc n))
  one_step zero y i = enter_first (suc zero) y (first_from y i)
  one_step (suc n) y i = go (came n y i) (one_step n)
    where
      go : Came n y → ((x : Pair G) → In x (R n) → In x (R (suc n))) → In y (R (suc (suc n)))
      go (inl a) more = enter_first (suc (suc n)) y a
      go (inr a) more = enter_next (suc n) a.0 y (more a.0 a.1) a.2

  up_to : (n m : ℕ) (y : Pair G) → m ≤ n → In y (R m) → In y (R n)
  up_to zero m y h i = let e : m ≡ zero = omega arith in subst (λ k. In y (R k)) e i
  up_to (suc n) m y h i = go (cases_lt n m) (λ l. up_to n m y l i)
    where
      go : (n < m) ⊎ (m ≤ n) → (m ≤ n → In y (R n)) → In y (R (suc n))
      go (inl l) r = let e : m ≡ suc n = omega arith in subst (λ k. In y (R k)) e i
      go (inr l) r = one_step n y (r l)

  once_within : (n : ℕ) → IsOnce (R n)
  once_within zero = once_set (pair_lt G) (pair_order G L) (first_pairs G O nodes roots S)
  once_within (suc n) = once_set (pair_lt G) (pair_order G L) (first_pairs G O nodes roots S ++ flat_map (next_pairs G O nodes roots) (R n))

  within_least : (n : ℕ) (T : List (Pair G)) → IsClosed G O nodes roots S T → (y : Pair G) → In y (R n) → In y T
  within_least zero T c y i = c.first y (first_from y i)
  within_least (suc n) T c y i = go (came n y i) (within_least n T c)
    where
      go : Came n y → ((x : Pair G) → In x (R n) → In x T) → In y T
      go (inl a) r = c.first y a
      go (inr a) r = c.next a.0 y (r a.0 a.1) a.2

  module _ (below : AreBelow nodes) (roots_below : (r : O.Root × ℕ) → In r roots → r.1 < length nodes) where
    -- each step leads to a lower node
    pub lower : (x y : Pair G) → In y (next_pairs G O nodes roots x) → y.0 < x.0
    lower x y i = go (slice_get nodes x.0) refl i
      where
        go : (o : Option (Node G.Move G.Key)) → slice_get nodes x.0 ≡ o → In y (next_of G o x.1) → y.0 < x.0
        go None e j = absurd j
        go (Some n) e j = next_lower G x.0 n (below x.0 n e) x.1 y j

    -- what comes first is at one of the nodes
    pub first_there : (y : Pair G) → In y (first_pairs G O nodes roots S) → y.0 < length nodes
    first_there y i =
        let p = flat_in (first_at G O nodes roots) S y i in
        let s = flat_in (λ s. pair_at G (first_to O.root_lt roots s.0) s.1) (O.starts p.0) y p.2 in
        first_below O.root_lt (length nodes) roots roots_below s.0.0 y.0 (at_number G (first_to O.root_lt roots s.0.0) s.0.1 y s.2)

    settled : (m : ℕ) (y : Pair G) → In y (R m) → (y.0 < length nodes) × In y (R (length nodes - suc y.0))
    settled zero y i = let f = first_from y i in (first_there y f, enter_first (length nodes - suc y.0) y f)
    settled (suc m) y i = go (came m y i) (settled m)
      where
        go : Came m y → ((x : Pair G) → In x (R m) → (x.0 < length nodes) × In x (R (length nodes - suc x.0))) → (y.0 < length nodes) × In y (R (length nodes - suc y.0))
        go (inl a) r = (first_there y a, enter_first (length nodes - suc y.0) y a)
        go (inr a) r =
            let s = r a.0 a.1 in
            let l = lower a.0 y a.2 in
            (omega (arith, l, s.0), up_to (length nodes - suc y.0) (suc (length nodes - suc a.0.0)) y (omega (arith, l, s.0)) (enter_next (length nodes - suc a.0.0) a.0 y s.1 a.2))

    closed_within : IsClosed G O nodes roots S (R (length nodes))
    closed_within = record {
      first = λ y i. enter_first (length nodes) y i;
      next = λ x y i j. up_to (length nodes) (length nodes - suc y.0) y (omega arith) (settled (suc (length nodes)) y (enter_next (length nodes) x y i j)).1;
    }

    there_within : (y : Pair G) → In y (R (length nodes)) → y.0 < length nodes
    there_within y i = (settled (length nodes) y i).0

module _ (G : Game) (L : IsGame G) (O : Outset G) where
  pub reached_is_once : ReachedIsOnce G O
  unfolding reached
  reached_is_once nodes roots S = once_within G L O nodes roots S (length nodes)

  pub reached_is_least : ReachedIsLeast G O
  unfolding reached
  reached_is_least nodes roots S T c y i = within_least G L O nodes roots S (length nodes) T c y i

  pub reached_is_closed : ReachedIsClosed G O
  unfolding reached
  reached_is_closed nodes roots S below roots_below = closed_within G L O nodes roots S below roots_below

  -- what is reached is at one of the nodes
  pub reached_there : (nodes : List (Node G.Move G.Key)) (roots : List (O.Root × ℕ)) (S : List G.Position) → AreBelow nodes → ((r : O.Root × ℕ) → In r roots → r.1 < length nodes) → (y : Pair G) → In y (reached G O nodes roots S) → y.0 < length nodes
  unfolding reached
  reached_there nodes roots S below roots_below y i = there_within G L O nodes roots S below roots_below y i
