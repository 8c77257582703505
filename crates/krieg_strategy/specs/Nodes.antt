-- The nodes of a strategy, over any moves and keys: each leads to others by number. The first one has the number 0.
use Rattle.std.specs.Prelude.{ℕ, Bool, List, [], ◌∷◌, Option, Some, None, if◌then◌else◌}
use Rattle.krieg_theory.specs.Sets.{same}

-- a try; the number of the node to go on with if the umpire calls it illegal; and those to go on with by what is heard
-- if it is legal
pub record Node (M K : Type 0) : Type 0 where
  pub mv : M
  pub no : Option ℕ
  pub edges : List (K × ℕ)

-- the number at the first edge or root with the key, by the order of keys
abbrev pub first_to : {K : Type 0} → (K → K → Bool) → List (K × ℕ) → K → Option ℕ
first_to lt [] key = None
first_to lt (e ∷ es) key = if same lt e.0 key then Some e.1 else first_to lt es key
