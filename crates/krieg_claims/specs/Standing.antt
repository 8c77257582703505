-- Pairs each of which stands on those before it.
use Rattle.std.specs.Prelude.{◌≡◌, ℕ, ◌<◌, ⊤, true, false, List, [], ◌∷◌, ◌++◌, IfSome}
use Rattle.krieg_theory.specs.Sets.{In, is_nil}
use Rattle.krieg_theory.specs.Game.{Game}
use Rattle.krieg_theory.specs.Split.{legal_in_some}
use Rattle.krieg_theory.specs.Can.{can}
use Rattle.krieg_costs.specs.Sums.{Pair}
use Rattle.krieg_costs.specs.Block.{block_pair}

module _ (G : Game) where
  -- a set with members that cannot be won within a number of moves
  pub record IsLostPair (q : Pair G) : Type 0 where
    pub some : is_nil q.0 ≡ false
    pub number : 0 < q.1
    pub lost : can G q.1 q.0 ≡ false

  -- what blocks each try of the set is among the pairs
  abbrev pub HasBlocks : List (Pair G) → List G.Position → ℕ → Type 0
  HasBlocks qs B j = (t : G.Move) → legal_in_some G B t ≡ true → IfSome (block_pair G j B t) (λ q. In q qs)

  -- the same for some tries alone
  abbrev pub HasTries : List (Pair G) → List G.Position → ℕ → List G.Move → Type 0
  HasTries qs B j ts = (t : G.Move) → In t ts → IfSome (block_pair G j B t) (λ q. In q qs)

  -- each pair cannot be won, and what blocks its tries stands before it
  abbrev pub Stands : List (Pair G) → List (Pair G) → Type 0
  Stands before [] = ⊤
  Stands before (q ∷ qs) = IsLostPair q × HasBlocks before q.0 q.1 × Stands (before ++ q ∷ []) qs
