-- The pairs that were taken so far, and those that wait: what they have taken of the units that all reached pairs take.
use Rattle.std.proofs.Common.{◌≡◌, ℕ, ◌+◌, ◌<◌, ◌≤◌, true, List, [], ◌∷◌, ◌⊎◌, inl, inr, length, sym, subst, arith}
use Rattle.std.proofs.lemmas.Bool.{both_ways}
use Rattle.krieg_theory.proofs.Lists.{flat_in, in_flat}
use Rattle.krieg_costs.proofs.Totals.{total_within}
use Rattle.krieg_judge.proofs.Common.{In, Game, IsGame, Outset, IsOnce, total, Node, AreBelow, Pair, pair_lt, next_pairs, first_at, first_pairs, IsClosed, reached, pair_cost}
use Rattle.krieg_judge.proofs.Reaching.{pair_order, lower_before, lower, reached_is_once, reached_is_least, reached_is_closed}

module _ (G : Game) (O : Outset G) (nodes : List (Node G.Move G.Key)) (roots : List (O.Root × ℕ)) (S : List G.Position) where
  -- T was taken, each pair once, and W waits, all of it before what was taken: together they have what comes first and
  -- what comes next behind a pair that was taken
  pub record AreTaken (T W : List (Pair G)) : Type 0 where
    pub once : IsOnce T
    pub taken_reached : (y : Pair G) → In y T → In y (reached G O nodes roots S)
    pub waiting_reached : (y : Pair G) → In y W → In y (reached G O nodes roots S)
    pub first : (y : Pair G) → In y (first_pairs G O nodes roots S) → In y T ⊎ In y W
    pub next : (x y : Pair G) → In x T → In y (next_pairs G O nodes roots x) → In y T ⊎ In y W
    pub before : (x y : Pair G) → In x T → In y W → pair_lt G y x ≡ true

  module _ (L : IsGame G) (below : AreBelow nodes) (roots_below : (r : O.Root × ℕ) → In r roots → r.1 < length nodes) where
    closed : IsClosed G O nodes roots S (reached G O nodes roots S)
    closed = reached_is_closed G L O nodes roots S below roots_below

    -- at first nothing was taken
    pub none_taken : (W : List (Pair G)) → ((y : Pair G) → In y W → In y (first_pairs G O nodes roots S)) → ((y : Pair G) → In y (first_pairs G O nodes roots S) → In y W) → AreTaken [] W
    none_taken W from into = record {
      once = tt;
      taken_reached = λ y i. absurd i;
      waiting_reached = λ y i. closed.first y (from y i);
      first = λ y i. inr (into y i);
      next = λ x y i j. absurd i;
      before = λ x y i j. absurd i;
    }

    module _ (T W V : List (Pair G)) (x : Pair G) (a : AreTaken T W) (there : In x W) (rest : (y : Pair G) → In y W → (y ≡ x) ⊎ In y V) (kept : (y : Pair G) → In y V → In y W) (less : (y : Pair G) → In y V → pair_lt G y x ≡ true) where
      abbrev order : Pair G → Pair G → Type 0
      order y z = pair_lt G y z ≡ true

      once_more : IsOnce (x ∷ T)
      once_more = ((λ i. both_ways (pair_lt G x x) ((pair_order G L).never_itself x) (a.before x x i there)), a.once)

      more_reached : (y : Pair G) → In y (x ∷ T) → In y (reached G O nodes roots S)
      more_reached y (inl e) = subst (λ z. In z (reached G O nodes roots S)) e (a.waiting_reached x there)
      more_reached y (inr i) = a.taken_reached y i

      -- what was taken, with the next pair, takes no more than all
      pub no_more : pair_cost G O nodes roots x + total (pair_cost G O nodes roots) T ≤ total (pair_cost G O nodes roots) (reached G O nodes roots S)
      no_more = total_within (pair_cost G O nodes roots) (pair_cost G O nodes roots) (x ∷ T) (reached G O nodes roots S) once_more more_reached (λ y. omega arith)

      -- the next pair is taken, and what comes next behind it waits
      pub one_taken : (U : List (Pair G)) → ((y : Pair G) → In y U → In y (next_pairs G O nodes roots x) ⊎ In y V) → ((y : Pair G) → In y (next_pairs G O nodes roots x) ⊎ In y V → In y U) → AreTaken (x ∷ T) U
      one_taken U from into = record {
        once = once_more;
        taken_reached = more_reached;
        waiting_reached = λ y i. reached_too y (from y i);
        first = λ y i. still y (a.first y i);
        next = λ z y i j. after z y i j;
        before = λ z y i j. earlier z y i (from y j);
      }
        where
          reached_too : (y : Pair G) → In y (next_pairs G O nodes roots x) ⊎ In y V → In y (reached G O nodes roots S)
          reached_too y (inl i) = closed.next x y (a.waiting_reached x there) i
          reached_too y (inr i) = a.waiting_reached y (kept y i)

          left : (y : Pair G) → (y ≡ x) ⊎ In y V → In y (x ∷ T) ⊎ In y U
          left y (inl e) = inl (inl (sym e))
          left y (inr i) = inr (into y (inr i))

          still : (y : Pair G) → In y T ⊎ In y W → In y (x ∷ T) ⊎ In y U
          still y (inl i) = inl (inr i)
          still y (inr i) = left y (rest y i)

          after : (z y : Pair G) → In z (x ∷ T) → In y (next_pairs G O nodes roots z) → In y (x ∷ T) ⊎ In y U
          after z y (inl e) j = inr (into y (inl (subst (λ w. In y (next_pairs G O nodes roots w)) (sym e) j)))
          after z y (inr i) j = still y (a.next z y i j)

          under : (y : Pair G) → In y (next_pairs G O nodes roots x) ⊎ In y V → pair_lt G y x ≡ true
          under y (inl i) = lower_before G L y x (lower G L O nodes roots S below roots_below x y i)
          under y (inr i) = less y i

          earlier : (z y : Pair G) → In z (x ∷ T) → In y (next_pairs G O nodes roots x) ⊎ In y V → pair_lt G y z ≡ true
          earlier z y (inl e) j = subst (λ w. pair_lt G y w ≡ true) e (under y j)
          earlier z y (inr i) j = (pair_order G L).trans y x z (under y j) (a.before z x i there)

    -- where nothing waits all reached pairs were taken
    pub all_taken : (T W : List (Pair G)) → AreTaken T W → ((y : Pair G) → In y W → ⊥) → total (pair_cost G O nodes roots) T ≡ total (pair_cost G O nodes roots) (reached G O nodes roots S)
    all_taken T W a none =
        let one = total_within (pair_cost G O nodes roots) (pair_cost G O nodes roots) T (reached G O nodes roots S) a.once a.taken_reached (λ y. omega arith) in
        let two = total_within (pair_cost G O nodes roots) (pair_cost G O nodes roots) (reached G O nodes roots S) T (reached_is_once G L O nodes roots S)
        (λ y i. reached_is_least G L O nodes roots S T (record { first = λ z j. only z (a.first z j); next = λ z w j k. only w (a.next z w j k) }) y i) (λ y. omega arith) in
        omega (arith, one, two)
      where
        only : (y : Pair G) → In y T ⊎ In y W → In y T
        only y (inl i) = i
        only y (inr i) = absurd (none y i)

-- lists with the same positions reach pairs that take as much
module _ (G : Game) (L : IsGame G) (O : Outset G) (nodes : List (Node G.Move G.Key)) (roots : List (O.Root × ℕ)) (below : AreBelow nodes) (roots_below : (r : O.Root × ℕ) → In r roots → r.1 < length nodes) where
  part_total : (S S' : List G.Position) → ((p : G.Position) → In p S → In p S') → total (pair_cost G O nodes roots) (reached G O nodes roots S) ≤ total (pair_cost G O nodes roots) (reached G O nodes roots S')
  part_total S S' f =
      let closed = reached_is_closed G L O nodes roots S' below roots_below in
      total_within (pair_cost G O nodes roots) (pair_cost G O nodes roots) (reached G O nodes roots S) (reached G O nodes roots S') (reached_is_once G L O nodes roots S)
      (λ y i. reached_is_least G L O nodes roots S (reached G O nodes roots S') (record {
        first = λ z j. (let p = flat_in (first_at G O nodes roots) S z j in closed.first z (in_flat (first_at G O nodes roots) S' p.0 z (f p.0 p.1) p.2));
        next = λ z w j k. closed.next z w j k;
      }) y i) (λ y. omega arith)

  pub same_total : (S S' : List G.Position) → ((p : G.Position) → In p S → In p S') → ((p : G.Position) → In p S' → In p S) → total (pair_cost G O nodes roots) (reached G O nodes roots S) ≡ total (pair_cost G O nodes roots) (reached G O nodes roots S')
  same_total S S' f g = omega (arith, part_total S S' f, part_total S' S g)
