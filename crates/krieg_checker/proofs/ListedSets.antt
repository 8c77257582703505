-- A list of positions and its set start the same games.
use Rattle.std.proofs.Common.{◌≡◌, ℕ, Bool, List, map, subst}
use Rattle.std.specs.List.{list_all}
use Rattle.krieg_board.proofs.SameTests.{same_tests}
use Rattle.krieg_checker.proofs.Common.{In, IsOrder, as_set, at_key, Game, Outset, Plan, all_starts, openings, opening_set, mates}
use Rattle.krieg_theory.proofs.Ascending.{same_set, as_set_ascending, in_as_set, as_set_in}
use Rattle.krieg_theory.proofs.Keys.{at_key_in, in_at_key}
use Rattle.krieg_theory.proofs.Lists.{all_at, all_from, in_flat, flat_in, in_map, map_in}

same_as_set : {X : Type 0} (lt : X → X → Bool) (o : IsOrder lt) (xs ys : List X) → ((x : X) → In x xs → In x ys) → ((x : X) → In x ys → In x xs) → as_set lt xs ≡ as_set lt ys
same_as_set lt o xs ys f g =
    same_set lt o (as_set lt xs) (as_set lt ys) (as_set_ascending lt o xs) (as_set_ascending lt o ys)
    (λ x i. in_as_set lt o x ys (f x (as_set_in lt o x xs i))) (λ x i. in_as_set lt o x xs (g x (as_set_in lt o x ys i)))

-- what stands under a key in one list does in another with all its members
kept_at : {K X : Type 0} (lt : K → K → Bool) (o : IsOrder lt) (key : K) (xs ys : List (K × X)) → ((a : K × X) → In a xs → In a ys) → (x : X) → In x (at_key lt key xs) → In x (at_key lt key ys)
kept_at lt o key xs ys f x i =
    let a = at_key_in lt o key xs x i in
    subst (λ y. In y (at_key lt key ys)) a.3 (in_at_key lt o key ys a.0 (f a.0 a.1) a.2)

kept_key : {K X : Type 0} (xs ys : List (K × X)) → ((a : K × X) → In a xs → In a ys) → (k : K) → In k (map (λ a. a.0) xs) → In k (map (λ a. a.0) ys)
kept_key xs ys f k i = let a = map_in (λ a. a.0) xs k i in subst (λ j. In j (map (λ a. a.0) ys)) a.2 (in_map (λ a. a.0) ys a.0 (f a.0 a.1))

module _ (G : Game) (O : Outset G) (ro : IsOrder O.root_lt) (xo : IsOrder G.position_lt) (S : List G.Position) where
  abbrev B : List G.Position
  B = as_set G.position_lt S

  starts_in : (s : O.Root × G.Position) → In s (all_starts G O B) → In s (all_starts G O S)
  starts_in s i = let p = flat_in O.starts B s i in in_flat O.starts S p.0 s (as_set_in G.position_lt xo p.0 S p.1) p.2

  in_starts : (s : O.Root × G.Position) → In s (all_starts G O S) → In s (all_starts G O B)
  in_starts s i = let p = flat_in O.starts S s i in in_flat O.starts B p.0 s (in_as_set G.position_lt xo p.0 S p.1) p.2

  pub same_openings : openings G O B ≡ openings G O S
  same_openings = same_as_set O.root_lt ro _ _ (kept_key (all_starts G O B) (all_starts G O S) starts_in) (kept_key (all_starts G O S) (all_starts G O B) in_starts)

  pub same_opening_set : (key : O.Root) → opening_set G O B key ≡ opening_set G O S key
  same_opening_set key = same_as_set G.position_lt xo _ _ (kept_at O.root_lt ro key (all_starts G O B) (all_starts G O S) starts_in) (kept_at O.root_lt ro key (all_starts G O S) (all_starts G O B) in_starts)

  all_set : (f : G.Position → Bool) → list_all f B ≡ list_all f S
  all_set f = same_tests _ _
      (λ e. all_from f S (λ p i. all_at f B e p (in_as_set G.position_lt xo p S i)))
      (λ e. all_from f B (λ p i. all_at f S e p (as_set_in G.position_lt xo p S i)))

  pub same_mates : (plan : Plan G O) (k : ℕ) → mates G O plan B k ≡ mates G O plan S k
  same_mates plan k = all_set _
