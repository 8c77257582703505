-- The recursion over sets: a set can be won within j own moves. No trees.
use Rattle.std.specs.Prelude.{ℕ, zero, suc, Bool, false, not, ◌&&◌, ◌||◌, List, length, find, Option, if◌then◌else◌}
use Rattle.std.specs.List.{list_all, list_any}
use Rattle.krieg_theory.specs.Sets.{is_nil}
use Rattle.krieg_theory.specs.Game.{Game}
use Rattle.krieg_theory.specs.Split.{refused, legal_in_some, stale_in_some, keys, class}

module _ (G : Game) where
  -- The conditions of a try: it is legal in some member and stalemates in none, after it each class can be won
  -- with one move less, and so can the members that refuse it with the same number.
  abbrev pub begins_with : (List G.Position → Bool) → (List G.Position → Bool) → List G.Position → G.Move → Bool
  begins_with less here B t =
      legal_in_some G B t && (not (stale_in_some G B t) && (list_all (λ key. less (class G B t key)) (keys G B t) && (is_nil (refused G B t) || here (refused G B t))))

  -- some try meets them, for a set of at most n members. The refused part has fewer.
  abbrev pub within : (List G.Position → Bool) → ℕ → List G.Position → Bool
  within less zero B = false
  within less (suc n) B = list_any (begins_with less (within less n) B) G.moves

  -- the set can be won within j own moves
  abbrev pub can : ℕ → List G.Position → Bool
  can zero B = false
  can (suc j) B = within (can j) (length B) B

  -- the try meets its conditions at the number j
  abbrev pub begins : ℕ → List G.Position → G.Move → Bool
  begins zero B t = false
  begins (suc j) B t = begins_with (can j) (can (suc j)) B t

  -- the first try that meets its conditions, where there is one
  abbrev pub first_try : ℕ → List G.Position → Option G.Move
  first_try j B = find (begins j B) G.moves

  -- the least number within which the set can be won, where it can be won within j
  abbrev pub least : ℕ → List G.Position → ℕ
  least zero B = zero
  least (suc j) B = if can j B then least j B else suc j
