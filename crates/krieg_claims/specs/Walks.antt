-- A walk that claims one set after another.
use Rattle.std.specs.Prelude.{◌≡◌, ℕ, suc, List, [], flat_map}
use Rattle.krieg_theory.specs.Game.{Game}
use Rattle.krieg_costs.specs.Sums.{Pair}
use Rattle.krieg_costs.specs.Block.{block}
use Rattle.krieg_costs.specs.Backing.{behind}
use Rattle.krieg_claims.specs.InOrder.{claimed, add_all}
use Rattle.krieg_claims.specs.Written.{place_of}
use Rattle.krieg_claims.specs.Standing.{HasTries, Stands}

module _ (G : Game) where
  -- what a try adds, where the set cannot be won within j + 1
  abbrev pub behind_try : ℕ → List G.Position → G.Move → List (Pair G)
  behind_try j B t = behind G (claimed G j) (claimed G (suc j)) B t (block G (suc j) B t)

  -- from the pairs qs the walk came to qs', where the set is claimed with the number and has the place
  pub record Walks (qs qs' : List (Pair G)) (B : List G.Position) (j place : ℕ) : Type 0 where
    pub all : qs' ≡ add_all G qs (claimed G j B)
    pub stands : Stands G [] qs'
    pub at : place ≡ place_of G qs' (B, j)

  -- from the pairs qs the walk came to qs', and has what the tries ts of the set add
  pub record WalksTries (qs qs' : List (Pair G)) (B : List G.Position) (j : ℕ) (ts : List G.Move) : Type 0 where
    pub all : qs' ≡ add_all G qs (flat_map (behind_try j B) ts)
    pub stands : Stands G [] qs'
    pub has : HasTries G qs' B (suc j) ts
