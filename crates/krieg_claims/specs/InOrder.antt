-- Which sets are claimed to be lost, each with a number of moves, and in which order.
use Rattle.std.specs.Prelude.{ℕ, zero, suc, List, [], ◌∷◌, ◌++◌, length, flat_map, if◌then◌else◌}
use Rattle.std.specs.List.{list_any}
use Rattle.krieg_theory.specs.Game.{Game}
use Rattle.krieg_theory.specs.Split.{tries}
use Rattle.krieg_costs.specs.Sums.{Pair, same_pair}
use Rattle.krieg_costs.specs.Block.{block}
use Rattle.krieg_costs.specs.Backing.{behind}

module _ (G : Game) where
  -- For a set of at most n members that cannot be won within j + 1: what stands behind the block of each try, one try after
  -- the other, and then the set itself. A pair stands here as often as it is cited.
  abbrev pub claimed_within : ℕ → (List G.Position → List (Pair G)) → ℕ → List G.Position → List (Pair G)
  claimed_within j less zero B = []
  claimed_within j less (suc n) B = flat_map (λ t. behind G less (claimed_within j less n) B t (block G (suc j) B t)) (tries G B) ++ (B, suc j) ∷ []

  -- the same for any set that cannot be won within j
  abbrev pub claimed : ℕ → List G.Position → List (Pair G)
  claimed zero B = []
  claimed (suc j) B = claimed_within j (claimed j) (length B) B

  -- a pair is put last, unless it stands there already
  abbrev pub add_once : List (Pair G) → Pair G → List (Pair G)
  add_once qs q = if list_any (same_pair G q) qs then qs else qs ++ q ∷ []

  -- some pairs are put last, one after the other, each unless it stands there already
  abbrev pub add_all : List (Pair G) → List (Pair G) → List (Pair G)
  add_all qs [] = qs
  add_all qs (p ∷ ps) = add_all (add_once qs p) ps

  -- each distinct pair at the first place where it is claimed: behind all that it cites, and the set itself last
  abbrev pub in_order : ℕ → List G.Position → List (Pair G)
  in_order j B = add_all [] (claimed j B)
