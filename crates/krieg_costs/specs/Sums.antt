-- Sums over lists, and lists without repeats.
use Rattle.std.specs.Prelude.{ℕ, zero, suc, ◌+◌, ◌==◌, ◌&&◌, Bool, true, false, List, [], ◌∷◌, ⊤, if◌then◌else◌}
use Rattle.std.specs.List.{list_any}
use Rattle.krieg_theory.specs.Sets.{In, same}
use Rattle.krieg_theory.specs.Game.{Game}

-- the sum of a number over a list
abbrev pub total : {X : Type 0} → (X → ℕ) → List X → ℕ
total f [] = 0
total f (x ∷ xs) = f x + total f xs

-- the numbers from 1 to n
abbrev pub numbers_to : ℕ → List ℕ
numbers_to zero = []
numbers_to (suc n) = suc n ∷ numbers_to n

-- all up to the first that passes, with it; all of them where none does
abbrev pub up_to : {X : Type 0} → (X → Bool) → List X → List X
up_to f [] = []
up_to f (x ∷ xs) = x ∷ (if f x then [] else up_to f xs)

-- nothing stands twice in the list
abbrev pub IsOnce : {X : Type 0} → List X → Type 0
IsOnce [] = ⊤
IsOnce (x ∷ xs) = (In x xs → ⊥) × IsOnce xs

-- the same members at the same places
abbrev pub same_list : {X : Type 0} → (X → X → Bool) → List X → List X → Bool
same_list lt [] [] = true
same_list lt [] (y ∷ ys) = false
same_list lt (x ∷ xs) [] = false
same_list lt (x ∷ xs) (y ∷ ys) = same lt x y && same_list lt xs ys

module _ (G : Game) where
  -- a set of positions, and a number of own moves
  abbrev pub Pair : Type 0
  Pair = List G.Position × ℕ

  -- the same set and the same number
  abbrev pub same_pair : Pair → Pair → Bool
  same_pair a b = (a.1 == b.1) && same_list G.position_lt a.0 b.0

  -- each pair of the list, once
  abbrev pub once : List Pair → List Pair
  once [] = []
  once (q ∷ qs) = if list_any (same_pair q) qs then once qs else q ∷ once qs
