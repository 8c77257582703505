-- What a search for a strategy answers, and what it takes.
use Rattle.std.specs.Prelude.{◌≤◌, ◌≡◌, ℕ, ◌<◌, ◌⊎◌, Bool, List, length, map, Result, Ok, Err, ⊤}
use Rattle.krieg_board.specs.Pos.{Pos}
use Rattle.krieg_board.specs.declared.men.Move.{Move}
use Rattle.krieg_board.specs.declared.men.Side.{Side}
use Rattle.krieg_words.specs.declared.dialects.Dialect.{Dialect}
use Rattle.krieg_theory.specs.Can.{least}
use Rattle.krieg_theory.specs.Plans.{greatest}
use Rattle.krieg_costs.specs.Sums.{total}
use Rattle.krieg_costs.specs.Reach.{fresh}
use Rattle.krieg_game.specs.Keys.{Key, RootKey}
use Rattle.krieg_game.specs.Chess.{chess}
use Rattle.krieg_game.specs.Outset.{outset}
use Rattle.krieg_plan.specs.Trees.{PlanTrees}
use Rattle.krieg_strategy.specs.Nodes.{Node}
use Rattle.krieg_strategy.specs.Roots.{root_of}
use Rattle.krieg_strategy.specs.Unfolded.{unfold_plan}
use Rattle.krieg_strategy.specs.WellFormed.{HaveOrder, IsStrategy}
use Rattle.krieg_strategy.specs.declared.limits.TheConstants.{MOST_NODES, MOST_EDGES, MOST_ROOTS}
use Rattle.krieg_search.specs.declared.stop.SearchStop.{SearchStop}
use Rattle.krieg_search.specs.declared.stop.SearchStop.TheVariants.{Spent, Large, NoMemory}
use Rattle.krieg_search.specs.Decision.{IsAccount}
use Rattle.krieg_solve.specs.Solutions.{IsBest, NoneMates}
use Rattle.krieg_share.specs.declared.answer.Answer.{Answer}
use Rattle.krieg_share.specs.declared.answer.Answer.TheVariants.{Mates, None}
use Rattle.krieg_share.specs.Sharing.{nothing_shared, shared, shared_roots}
use Rattle.krieg_share.specs.Parts.{share_sets, numbered, IsOver}

-- there are not more nodes, edges and roots than a strategy may have
pub record IsFit (nodes : List (Node Move Key)) (roots : List (RootKey × ℕ)) : Type 0 where
  pub few_nodes : length nodes ≤ MOST_NODES
  pub few_edges : total (λ n. length n.edges) nodes ≤ MOST_EDGES
  pub few_roots : length roots ≤ MOST_ROOTS

-- sets that can be won within j, each under what is heard before
module _ (d : Dialect) (j : ℕ) (cs : List (RootKey × List Pos)) where
  -- these are their nodes and numbers, and the greatest of their least numbers
  pub record IsSharedAs (worst : ℕ) (nodes : List (Node Move Key)) (roots : List (RootKey × ℕ)) : Type 0 where
    pub greatest_least : worst ≡ greatest (λ (c : RootKey × List Pos). least (chess d) j c.1) cs
    pub nodes_are : nodes ≡ (share_sets (chess d) j cs (nothing_shared (chess d))).nodes
    pub have_order : HaveOrder nodes
    pub fits : IsFit nodes roots
    pub roots_are : roots ≡ numbered (chess d) (share_sets (chess d) j cs (nothing_shared (chess d))).sets cs

  -- the same, or they have too many nodes or edges, or are too many
  abbrev pub IsShared : Result Answer SearchStop → Type 0
  IsShared (Ok (Mates worst nodes roots)) = IsSharedAs worst nodes (map root_of roots.items)
  IsShared (Ok None) = ⊥
  IsShared (Err Spent) = ⊥
  IsShared (Err Large) =
      IsOver (chess d) MOST_NODES MOST_EDGES (share_sets (chess d) j cs (nothing_shared (chess d))) ⊎ (MOST_ROOTS < length cs)
  IsShared (Err NoMemory) = ⊤

-- where there is some root, the nodes and roots make a strategy with that worst case
abbrev pub MakesStrategy : Answer → Type 0
MakesStrategy (Mates worst nodes roots) = 0 < length roots.items → IsStrategy nodes (map root_of roots.items) worst
MakesStrategy None = ⊤

module _ (d : Dialect) (who : Side) (S : List Pos) (n : ℕ) where
  -- It unfolds to the best plan, which is canonical: it mates within n, and no plan mates within fewer moves than it. Its nodes and roots
  -- are those of that plan, one for each set of positions that is reached.
  pub record IsBestStrategy (worst : ℕ) (nodes : List (Node Move Key)) (roots : List (RootKey × ℕ)) : Type 0 where
    pub best : IsBest d who S n worst (unfold_plan nodes roots)
    pub nodes_are : nodes ≡ (shared (chess d) (outset d who) (unfold_plan nodes roots) S).nodes
    pub roots_are : roots ≡ shared_roots (chess d) (outset d who) (unfold_plan nodes roots) S
    pub fits : IsFit nodes roots

  -- the nodes of the best plan are too many, or the edges that they have, or its roots
  pub record IsLargeStrategy : Type 0 where
    pub plan : PlanTrees
    pub worst : ℕ
    pub best : IsBest d who S n worst plan
    pub large : IsOver (chess d) MOST_NODES MOST_EDGES (shared (chess d) (outset d who) plan S) ⊎ (MOST_ROOTS < length plan)

  -- What each answer says. Since no two of the first three can hold at once, each comes exactly where it holds and nothing was wanting.
  abbrev pub IsStrategyAnswer : Result Answer SearchStop → Type 0
  IsStrategyAnswer (Ok (Mates worst nodes roots)) = IsBestStrategy worst nodes (map root_of roots.items)
  IsStrategyAnswer (Ok None) = NoneMates d who S n
  IsStrategyAnswer (Err Large) = IsLargeStrategy
  IsStrategyAnswer (Err Spent) = ⊤
  IsStrategyAnswer (Err NoMemory) = ⊤

  -- What it takes is what the search for the plan takes, whether it may cut tries or not: the strategy takes no units of its own.
  abbrev pub TakesAsPlan : Bool → Result Answer SearchStop → ℕ → ℕ → Type 0
  TakesAsPlan cut (Ok a) had has = IsAccount d who S n cut had has
  TakesAsPlan cut (Err Large) had has = IsAccount d who S n cut had has
  TakesAsPlan cut (Err Spent) had has = (had < fresh (chess d) (outset d who) n S) × (has ≡ had)
  TakesAsPlan cut (Err NoMemory) had has = has ≡ had
