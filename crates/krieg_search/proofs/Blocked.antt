-- What blocks a try that does not fail at once, by its parts.
use Rattle.std.proofs.Common.{◌≡◌, ℕ, suc, Bool, true, false, not, ◌&&◌, ◌||◌, ◌⊎◌, List, ◌∷◌, map, find, Option, Some, None, refl, sym, ap, inl, inr, ◌∙◌}
use Rattle.std.specs.Prelude.{◌==◌, option_map, if◌then◌else◌}
use Rattle.std.proofs.lemmas.Bool.{cases_Bool, cond-true, cond-false, eqb-true, not_from_true, not_from_false}
use Rattle.krieg_search.proofs.Common.{Pos, Move, Dialect, is_nil, refused, stale_in_some, keys, class, can, Lives, Stale, LostRefused, NoBlock, lives_in_some, by_class, block, Key, chess, class_pair, Remainder, Leaves}
use Rattle.krieg_costs.specs.Block.{LostClass}
use Rattle.krieg_accounts.proofs.TryEnds.{find_map}
use Rattle.krieg_game.specs.declared.classes.Class.{Class}

-- a key that is found beside its set
pub keyed_some : (f : Key → List Pos) (o : Option Key) (key : Key) (C : List Pos) → option_map {T = Key} {U = Key × List Pos} (λ k. (k, f k)) o ≡ Some (key, C) → (o ≡ Some key) × (f key ≡ C)
keyed_some f None key C e = let q : ◌≡◌ {A = Option (Key × List Pos)} None (Some (key, C)) = e in absurd (cc)
keyed_some f (Some k) key C e =
    let q : ◌≡◌ {A = Option (Key × List Pos)} (Some (k, f k)) (Some (key, C)) = e in
    let s : ◌≡◌ {A = Key × List Pos} (k, f k) (key, C) = cc in
    (ap (λ (x : Key × List Pos). Some x.0) s, ap (λ (x : Key × List Pos). f x.0) (sym s) ∙ ap (λ (x : Key × List Pos). x.1) s)

pub keyed_none : (f : Key → List Pos) (o : Option Key) → option_map {T = Key} {U = Key × List Pos} (λ k. (k, f k)) o ≡ None → o ≡ None
keyed_none f None e = refl
keyed_none f (Some k) e = let q : ◌≡◌ {A = Option (Key × List Pos)} (Some (k, f k)) None = e in absurd (cc)

module _ (d : Dialect) where
  abbrev pub is_lost : ℕ → Key × List Pos → Bool
  is_lost j c = not (can (chess d) j c.1)

  -- the first of some classes that is lost, where those before are won
  module _ (j : ℕ) (cs : List Class) (c : Class) (rest : List Class) (e : find (is_lost j) (map class_pair cs) ≡ find (is_lost j) (map class_pair (c ∷ rest))) where
    pub first_here : can (chess d) j c.belief ≡ false → find (is_lost j) (map class_pair cs) ≡ Some (class_pair c)
    first_here h = e ∙ cond-true (is_lost j (class_pair c)) (Some (class_pair c)) (find (is_lost j) (map class_pair rest)) (not_from_false _ h)

    pub first_later : can (chess d) j c.belief ≡ true → find (is_lost j) (map class_pair cs) ≡ find (is_lost j) (map class_pair rest)
    first_later h = e ∙ cond-false (is_lost j (class_pair c)) (Some (class_pair c)) (find (is_lost j) (map class_pair rest)) (not_from_true _ h)

  module _ (B : List Pos) (t : Move) (i : ℕ) (l : Remainder) (a : Leaves d B t (suc i) l) where
    pub alive : ((i == 0) && lives_in_some (chess d) B t) ≡ false
    alive = go (cases_Bool (i == 0))
      where
        go : ((i == 0) ≡ true) ⊎ ((i == 0) ≡ false) → ((i == 0) && lives_in_some (chess d) B t) ≡ false
        go (inl z) = let e = a.none_lives (ap suc (eqb-true i 0 z)) in λ k. z k && e k
        go (inr n) = ap (λ (b : Bool). b && lives_in_some (chess d) B t) n

    abbrev first_class : Option Key
    first_class = find (λ key. is_lost i (key, class (chess d) B t key)) (keys (chess d) B t)

    by_parts : block (chess d) (suc i) B t ≡ by_class (chess d) (suc i) B t first_class
    by_parts =
        cond-false ((i == 0) && lives_in_some (chess d) B t) Lives (if stale_in_some (chess d) B t then Stale else by_class (chess d) (suc i) B t first_class) alive
        ∙ cond-false (stale_in_some (chess d) B t) Stale (by_class (chess d) (suc i) B t first_class) a.none_stale

    found : find (is_lost i) (map class_pair l.classes.items) ≡ option_map {T = Key} {U = Key × List Pos} (λ key. (key, class (chess d) B t key)) first_class
    found = ap (find (is_lost i)) a.classes_part ∙ find_map (is_lost i) (λ key. (key, class (chess d) B t key)) (keys (chess d) B t)

    pub class_blocks : (key : Key) (C : List Pos) → find (is_lost i) (map class_pair l.classes.items) ≡ Some (key, C) → (block (chess d) (suc i) B t ≡ LostClass key) × (C ≡ class (chess d) B t key)
    class_blocks key C e =
        let f = keyed_some (class (chess d) B t) first_class key C (sym found ∙ e) in
        (by_parts ∙ ap (by_class (chess d) (suc i) B t) f.0, sym f.1)

    pub refused_blocks : find (is_lost i) (map class_pair l.classes.items) ≡ None → is_nil (refused (chess d) B t) ≡ false → can (chess d) (suc i) (refused (chess d) B t) ≡ false → block (chess d) (suc i) B t ≡ LostRefused
    refused_blocks e some n =
        let f = keyed_none (class (chess d) B t) first_class (sym found ∙ e) in
        by_parts ∙ ap (by_class (chess d) (suc i) B t) f ∙ cond-false (is_nil (refused (chess d) B t) || can (chess d) (suc i) (refused (chess d) B t)) NoBlock LostRefused (λ k. some k || n k)
