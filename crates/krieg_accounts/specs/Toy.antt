-- Tables of results for the small game of krieg_theory.
use Rattle.std.specs.Prelude.{ℕ, List, [], ◌∷◌, Option, Some, None}
use Rattle.krieg_theory.specs.Toy.{toy}
use Rattle.krieg_accounts.specs.Sound.{Table}

-- a result: the set is lost within j moves
abbrev pub lost_within : List ℕ → ℕ → (List ℕ × ℕ) × Option ℕ
lost_within B j = ((B, j), None)

-- a result: the set is won within j moves by that try
abbrev pub won_within : List ℕ → ℕ → ℕ → (List ℕ × ℕ) × Option ℕ
won_within B j t = ((B, j), Some t)

-- what a search stores for the set of 2 with two moves: it is lost with one, then both classes of the try 0 are won
abbrev pub of_two : Table toy
of_two = lost_within (2 ∷ []) 1 ∷ won_within (0 ∷ []) 1 0 ∷ won_within (1 ∷ []) 1 1 ∷ won_within (2 ∷ []) 2 0 ∷ []

-- and for the set of 0 and 5: with each number the try 0 is refused in 5, which cannot be won
abbrev pub of_nought_and_five : Table toy
of_nought_and_five = lost_within (5 ∷ []) 1 ∷ lost_within (0 ∷ 5 ∷ []) 1 ∷ lost_within (5 ∷ []) 2 ∷ lost_within (0 ∷ 5 ∷ []) 2 ∷ []
