-- The laws, each a statement that a function of this crate has as its contract.
use Rattle.std.specs.Prelude.{◌≡◌, ℕ, zero, suc, ◌<◌, ◌≤◌, ◌↔◌, true, false, List, ◌⊎◌, IfSome}
use Rattle.krieg_theory.specs.Sets.{In, is_nil}
use Rattle.krieg_theory.specs.Game.{Game}
use Rattle.krieg_theory.specs.Split.{legal_in_some}
use Rattle.krieg_theory.specs.Can.{can, begins, least}
use Rattle.krieg_theory.specs.Plans.{Outset, Plan, mates}
use Rattle.krieg_costs.specs.Sums.{Pair, total, numbers_to, IsOnce, once}
use Rattle.krieg_costs.specs.Cost.{cost, round, cost_of}
use Rattle.krieg_costs.specs.Reach.{reach_of, fresh, IsReach}
use Rattle.krieg_costs.specs.Block.{NoBlock, block, block_pair}
use Rattle.krieg_costs.specs.Backing.{backing, floor}
use Rattle.krieg_costs.specs.BackingRules.{IsBacking}
use Rattle.krieg_costs.specs.Refutation.{Claim, refutes}

module _ (G : Game) where
  -- a list without its repeats has the same pairs, and none of them twice
  abbrev pub OnceIsOnce : Type 0
  OnceIsOnce = (R : List (Pair G)) → IsOnce (once G R) × ((q : Pair G) → In q (once G R) ↔ In q R)

  -- what one number adds to the cost of a set
  abbrev pub round_at : ℕ → List G.Position → ℕ
  round_at zero B = 0
  round_at (suc j) B = round G (cost G j) (cost G (suc j)) B

  -- the cost of a set is the sum over the numbers from 1 on
  abbrev pub CostIsSum : Type 0
  CostIsSum = (B : List G.Position) (k : ℕ) → cost G k B ≡ total (λ j. round_at j B) (numbers_to k)

  -- a try has no block exactly where it begins a node that wins
  abbrev pub BlockIsThere : Type 0
  BlockIsThere = (B : List G.Position) (j : ℕ) (t : G.Move) → 0 < j → legal_in_some G B t ≡ true → (block G j B t ≡ NoBlock) ↔ (begins G j B t ≡ true)

  -- the pair of a block has members and a number, and cannot be won
  abbrev pub BlockIsLost : Type 0
  BlockIsLost = (B : List G.Position) (j : ℕ) (t : G.Move) → IfSome (block_pair G j B t) (λ q. (is_nil q.0 ≡ false) × (0 < q.1) × (can G q.1 q.0 ≡ false))

module _ (G : Game) (O : Outset G) where
  -- what is reached keeps the rules of reach, and is in each list that keeps them
  abbrev pub ReachIsLeast : Type 0
  ReachIsLeast = (n : ℕ) (S : List G.Position) → IsReach G O n S (reach_of G O n S) × ((R : List (Pair G)) → IsReach G O n S R → (q : Pair G) → In q (reach_of G O n S) → In q R)

  -- what is reached has members, and a number from 1 to n
  abbrev pub ReachIsOfSets : Type 0
  ReachIsOfSets = (n : ℕ) (S : List G.Position) (q : Pair G) → In q (reach_of G O n S) → (is_nil q.0 ≡ false) × (0 < q.1) × (q.1 ≤ n)

  -- what is fresh is at most the cost
  abbrev pub FreshIsAtMostCost : Type 0
  FreshIsAtMostCost = (n : ℕ) (S : List G.Position) → fresh G O n S ≤ cost_of G O n S

  -- backing keeps its rules, and is in each list that keeps them
  abbrev pub BackingIsLeast : Type 0
  BackingIsLeast = (n : ℕ) (S : List G.Position) → IsBacking G O n S (backing G O n S) × ((R : List (Pair G)) → IsBacking G O n S R → (q : Pair G) → In q (backing G O n S) → In q R)

  -- each pair of backing cannot be won, or is at its least number; and it is reached
  abbrev pub BackingIsReached : Type 0
  BackingIsReached = (n : ℕ) (S : List G.Position) (q : Pair G) → In q (backing G O n S) → ((can G q.1 q.0 ≡ false) ⊎ ((can G q.1 q.0 ≡ true) × (least G q.1 q.0 ≡ q.1))) × In q (reach_of G O n S)

  -- the floor is at most what is fresh
  abbrev pub FloorIsAtMostFresh : Type 0
  FloorIsAtMostFresh = (n : ℕ) (S : List G.Position) → floor G O n S ≤ fresh G O n S

  -- claims that hold exclude every plan
  abbrev pub RefutationExcludes : Type 0
  RefutationExcludes = (n : ℕ) (S : List G.Position) (cs : List (Claim G)) → refutes G O n S cs ≡ true → (plan : Plan G O) → mates G O plan S n ≡ false
