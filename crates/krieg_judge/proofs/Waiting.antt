-- What a demand adds to what waits.
use Rattle.std.proofs.Common.{◌≡◌, ℕ, zero, suc, ◌-◌, ◌≤◌, ◌<◌, Bool, true, false, ◌&&◌, List, [], ◌∷◌, ◌⊎◌, inl, inr, map, refl, sym, ap, ◌∙◌, subst, arith, Option, Some, None}
use Rattle.std.specs.Prelude.{max}
use Rattle.std.specs.List.{list_all}
use Rattle.std.specs.BTreeMap.{insert_entry}
use Rattle.std.specs.Map.{lookup}
use Rattle.std.specs.Ordering.{is_eq, nat_cmp, ordering_then}
use Rattle.std.specs.declared.cmp.Ordering.{Ordering}
use Rattle.std.specs.declared.cmp.Ordering.TheVariants.{Equal}
use Rattle.std.proofs.lemmas.Bool.{and_parts, and_from, cases_lt}
use Rattle.std.proofs.lemmas.Cmp.{ranked, by_ranked}
use Rattle.krieg_board.proofs.SameTests.{same_tests}
use Rattle.krieg_pack.specs.SameNumbers.{same_position}
use Rattle.krieg_game.proofs.KeyLaws.{both_equal}
use Rattle.krieg_theory.proofs.Lists.{all_at, all_from, in_map, map_in}
use Rattle.krieg_theory.proofs.Built.{wins_more}
use Rattle.krieg_judge.proofs.Common.{Pos, Move, Dialect, In, Maybe, Nothing, Just, wins_other, position_cmp, chess, Key, NodeTree, led_to, Adds, held, latest, waiting, within, pair_at, Findings}
use Rattle.krieg_judge.proofs.Inserting.{put_there, put_from, put_kept, looked_up}

-- the order of pairs of a number and a position
abbrev pub pair_cmp : ℕ × Pos → ℕ × Pos → Ordering
pair_cmp x y = ordering_then (nat_cmp x.0 y.0) (position_cmp x.1 y.1)

same_number : (a b : ℕ) → nat_cmp a b ≡ Equal → a ≡ b
same_number a b h = by_ranked (a < b) (a ≡ b) (b < a) (nat_cmp a b) (ranked a b (nat_cmp a b) refl) (λ e x. absurd cc) (λ e x. x) (λ e x. absurd cc)

pub pair_exact : (x y : ℕ × Pos) → pair_cmp x y ≡ Equal → x ≡ y
pair_exact x y h =
    let both = both_equal (nat_cmp x.0 y.0) (position_cmp x.1 y.1) h in
    let a = same_number x.0 y.0 both.0 in
    let b = same_position x.1 y.1 both.1 in
    λ i. (a i, b i)

and_first : (a b c : Bool) → (b && (a && c)) ≡ (a && (b && c))
and_first true true c = refl
and_first true false c = refl
and_first false true c = refl
and_first false false c = refl

module _ (d : Dialect) (trees : List NodeTree) where
  other_more : (o : Maybe Move Key) (p : Pos) (k : ℕ) → wins_other (chess d) o p k ≡ true → wins_other (chess d) o p (suc k) ≡ true
  other_more Nothing p k w = w
  other_more (Just n) p k w = wins_more (chess d) n p k w

  -- more moves do no harm
  pub other_upto : (o : Maybe Move Key) (p : Pos) (k j : ℕ) → j ≤ k → wins_other (chess d) o p j ≡ true → wins_other (chess d) o p k ≡ true
  other_upto o p zero j h w = subst (λ i. wins_other (chess d) o p i ≡ true) (omega arith) w
  other_upto o p (suc k) j h w = go (cases_lt k j) (λ l. other_upto o p k j l w)
    where
      go : (k < j) ⊎ (j ≤ k) → (j ≤ k → wins_other (chess d) o p k ≡ true) → wins_other (chess d) o p (suc k) ≡ true
      go (inl l) r = subst (λ i. wins_other (chess d) o p i ≡ true) (omega arith) w
      go (inr l) r = other_more o p k (r l)

  -- a pair that is reached later is harder to win
  later_held : (k : ℕ) (x : ℕ × Pos) (a b : ℕ) → a ≤ b → held d trees k (x, b) ≡ true → held d trees k (x, a) ≡ true
  later_held k x a b h w = other_upto (led_to trees (Some x.0)) x.1 (k - a) (k - b) (omega arith) w

  latest_held : (k : ℕ) (x : ℕ × Pos) (done : ℕ) (o : Option ℕ) → held d trees k (x, done) ≡ true → ((m : ℕ) → o ≡ Some m → held d trees k (x, m) ≡ true) → held d trees k (x, latest o done) ≡ true
  latest_held k x done None h f = h
  latest_held k x done (Some m) h f = go (cases_lt m done)
    where
      go : (m < done) ⊎ (done ≤ m) → held d trees k (x, max m done) ≡ true
      go (inl l) = subst (λ n. held d trees k (x, n) ≡ true) (omega arith) h
      go (inr l) = subst (λ n. held d trees k (x, n) ≡ true) (omega arith) (f m refl)

  latest_own : (o : Option ℕ) (done : ℕ) → done ≤ latest o done
  latest_own None done = omega arith
  latest_own (Some m) done = omega arith

  module _ (old new : Findings) (key : ℕ × Pos) (done : ℕ) (need : new.need ≡ old.need)
      (is : new.waiting.entries ≡ insert_entry pair_cmp old.waiting.entries key (latest (lookup (λ q. is_eq (pair_cmp key q)) old.waiting.entries) done)) where
    abbrev E : List ((ℕ × Pos) × ℕ)
    E = old.waiting.entries

    abbrev o : Option ℕ
    o = lookup (λ q. is_eq (pair_cmp key q)) old.waiting.entries

    abbrev v : ℕ
    v = latest o done

    abbrev E' : List ((ℕ × Pos) × ℕ)
    E' = insert_entry pair_cmp old.waiting.entries key v

    all_new : (k : ℕ) → list_all (held d trees k) E' ≡ (held d trees k (key, done) && list_all (held d trees k) E)
    all_new k = same_tests _ _
        (λ h.
        let here = all_at (held d trees k) E' h (key, v) (put_there pair_cmp pair_exact key v E) in
        and_from _ _ (later_held k key done v (latest_own o done) here) (all_from (held d trees k) E (λ y i. old_held h y (put_kept pair_cmp pair_exact key v E y i) here)))
        (λ h.
        let both = and_parts _ _ h in
        all_from (held d trees k) E' (λ y i. new_held both.0 both.1 y (put_from pair_cmp pair_exact key v E y i)))
      where
        old_held : list_all (held d trees k) E' ≡ true → (y : (ℕ × Pos) × ℕ) → In y E' ⊎ ((y.0 ≡ key) × (o ≡ Some y.1)) → held d trees k (key, v) ≡ true → held d trees k y ≡ true
        old_held h y (inl i) w = all_at (held d trees k) E' h y i
        old_held h y (inr a) w =
            let le : y.1 ≤ v = subst (λ r. y.1 ≤ latest r done) (sym a.1) (omega arith) in
            subst (λ x. held d trees k (x, y.1) ≡ true) (sym a.0) (later_held k key y.1 v le w)

        new_held : held d trees k (key, done) ≡ true → list_all (held d trees k) E ≡ true → (y : (ℕ × Pos) × ℕ) → ((key, v) ≡ y) ⊎ In y E → held d trees k y ≡ true
        new_held a b y (inl e) = subst (λ x. held d trees k x ≡ true) e (latest_held k key done o a (λ m h. all_at (held d trees k) E b (key, m) (looked_up pair_cmp pair_exact key v E m h)))
        new_held a b y (inr i) = all_at (held d trees k) E b y i

    pub put_adds : Adds d trees old new (λ k. held d trees k (key, done)) (key ∷ [])
    put_adds = record {
      enough_part = λ k small.
          (λ i. within (need i) k && list_all (held d trees k) (is i))
          ∙ ap (λ b. within old.need k && b) (all_new k)
          ∙ and_first (held d trees k (key, done)) (within old.need k) (list_all (held d trees k) E);
      pairs_part = λ y. (to y, back y);
    }
      where
        to : (y : ℕ × Pos) → In y (waiting new) → In y (key ∷ []) ⊎ In y (waiting old)
        to y i = go (map_in (λ e. e.0) E' y (subst (λ es. In y (map (λ e. e.0) es)) is i))
          where
            go : (e : (ℕ × Pos) × ℕ) × In e E' × (e.0 ≡ y) → In y (key ∷ []) ⊎ In y (waiting old)
            go e = by_place (put_from pair_cmp pair_exact key v E e.0 e.1)
              where
                by_place : ((key, v) ≡ e.0) ⊎ In e.0 E → In y (key ∷ []) ⊎ In y (waiting old)
                by_place (inl a) = inl (inl (ap (λ (x : (ℕ × Pos) × ℕ). x.0) a ∙ e.2))
                by_place (inr a) = inr (subst (λ x. In x (waiting old)) e.2 (in_map (λ (x : (ℕ × Pos) × ℕ). x.0) E e.0 a))

        there : In key (map (λ (e : (ℕ × Pos) × ℕ). e.0) E')
        there = in_map (λ (e : (ℕ × Pos) × ℕ). e.0) E' (key, v) (put_there pair_cmp pair_exact key v E)

        back : (y : ℕ × Pos) → In y (key ∷ []) ⊎ In y (waiting old) → In y (waiting new)
        back y a = subst (λ es. In y (map (λ (e : (ℕ × Pos) × ℕ). e.0) es)) (sym is) (go a)
          where
            by_place : (e : (ℕ × Pos) × ℕ) → e.0 ≡ y → In e E' ⊎ ((e.0 ≡ key) × (o ≡ Some e.1)) → In y (map (λ (e : (ℕ × Pos) × ℕ). e.0) E')
            by_place e at (inl i) = subst (λ x. In x (map (λ (e : (ℕ × Pos) × ℕ). e.0) E')) at (in_map (λ (x : (ℕ × Pos) × ℕ). x.0) E' e i)
            by_place e at (inr b) = subst (λ x. In x (map (λ (e : (ℕ × Pos) × ℕ). e.0) E')) (sym b.0 ∙ at) there

            go : In y (key ∷ []) ⊎ In y (waiting old) → In y (map (λ (e : (ℕ × Pos) × ℕ). e.0) E')
            go (inl (inl e)) = subst (λ x. In x (map (λ (e : (ℕ × Pos) × ℕ). e.0) E')) e there
            go (inl (inr i)) = absurd i
            go (inr i) = let e = map_in (λ (e : (ℕ × Pos) × ℕ). e.0) E y i in by_place e.0 e.2 (put_kept pair_cmp pair_exact key v E e.0 e.1)

-- a demand at a node that is there, and where there is none
pub lead_some : (to : Option ℕ) (node : ℕ) (p : Pos) (done : ℕ) (old new : Findings) → to ≡ Some node →
    ((d : Dialect) (trees : List NodeTree) → Adds d trees old new (λ k. wins_other (chess d) (led_to trees (Some node)) p (k - done)) ((node, p) ∷ [])) →
    (d : Dialect) (trees : List NodeTree) → Adds d trees old new (λ k. wins_other (chess d) (led_to trees to) p (k - done)) (pair_at (chess d) to p)
lead_some to node p done old new is h d trees = subst (λ o. Adds d trees old new (λ k. wins_other (chess d) (led_to trees o) p (k - done)) (pair_at (chess d) o p)) (sym is) (h d trees)

pub lead_none : (to : Option ℕ) (p : Pos) (done : ℕ) (old new : Findings) → to ≡ None → ((d : Dialect) (trees : List NodeTree) → Adds d trees old new (λ k. within None k) []) →
    (d : Dialect) (trees : List NodeTree) → Adds d trees old new (λ k. wins_other (chess d) (led_to trees to) p (k - done)) (pair_at (chess d) to p)
lead_none to p done old new is h d trees = subst (λ o. Adds d trees old new (λ k. wins_other (chess d) (led_to trees o) p (k - done)) (pair_at (chess d) o p)) (sym is) (h d trees)
