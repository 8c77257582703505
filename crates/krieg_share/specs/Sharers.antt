-- Nodes that are made for sets of a table.
use Rattle.std.specs.Prelude.{◌≡◌, ℕ, ◌<◌, ◌≤◌, true, List, length, map, Option, Result, Ok, Err, ⊤}
use Rattle.krieg_board.specs.Pos.{Pos}
use Rattle.krieg_words.specs.declared.dialects.Dialect.{Dialect}
use Rattle.krieg_board.specs.declared.men.Move.{Move}
use Rattle.krieg_theory.specs.Sets.{In}
use Rattle.krieg_game.specs.Keys.{Key}
use Rattle.krieg_strategy.specs.Nodes.{Node}
use Rattle.krieg_strategy.specs.Edges.{edge_of}
use Rattle.krieg_strategy.specs.WellFormed.{HaveOrder}
use Rattle.krieg_strategy.specs.declared.edge.StrategyEdge.{StrategyEdge}
use Rattle.krieg_costs.specs.Sums.{total}
use Rattle.krieg_game.specs.Chess.{chess}
use Rattle.krieg_table.specs.SetRows.{set_at}
use Rattle.krieg_strategy.specs.declared.limits.TheConstants.{MOST_NODES, MOST_EDGES}
use Rattle.krieg_search.specs.declared.stop.SearchStop.{SearchStop}
use Rattle.krieg_search.specs.declared.stop.SearchStop.TheVariants.{Spent, Large, NoMemory}
use Rattle.krieg_search.specs.Openings.{AddsSets}
use Rattle.krieg_search.specs.WonSets.{IsPaidFor}
use Rattle.krieg_share.specs.declared.sharer.Sharer.{Sharer}
use Rattle.krieg_share.specs.Sharing.{Shared, AreShared, number_of}
use Rattle.krieg_share.specs.Parts.{IsOver}

-- a node by what the code has of it
abbrev pub node_by : Move → Option ℕ → List StrategyEdge → Node Move Key
node_by t next es = record { mv = t; no = next; edges = map edge_of es }

-- the sets that have nodes
abbrev pub sets_with_nodes : Sharer → List (List Pos)
sets_with_nodes s = map (set_at s.table) s.placed.keys

-- each of them has its number in the table
abbrev pub AreInTable : Sharer → Type 0
AreInTable s = (i : ℕ) → In i s.placed.keys → i < length s.table

module _ (d : Dialect) where
  -- the sets that have nodes, with these
  abbrev pub shared_by : Sharer → Shared (chess d)
  shared_by s = record { sets = sets_with_nodes s; nodes = s.nodes }

  -- what holds between any two steps: the results are right, and each set has one node, whose tree is the canonical one
  pub record IsSharing (s : Sharer) : Type 0 where
    pub paid : IsPaidFor d true s.table
    pub in_table : AreInTable s
    pub counted : s.edges ≡ total (λ n. length n.edges) s.nodes
    pub have_order : HaveOrder s.nodes
    pub few_nodes : length s.nodes ≤ MOST_NODES
    pub few_edges : s.edges ≤ MOST_EDGES
    pub shared : AreShared (chess d) (shared_by s)

  -- the set has the node with that number
  pub record HasNumber (s : Sharer) (B : List Pos) (number : ℕ) : Type 0 where
    pub there : In B (sets_with_nodes s)
    pub is : number ≡ number_of (chess d) B (sets_with_nodes s)

  -- Nodes have come, so that all are those of the goal, and only sets have come to the table. Or the goal is too large.
  abbrev pub Shares : {A : Type 0} → Result A SearchStop → (A → Type 0) → Sharer → Sharer → Shared (chess d) → Type 0
  Shares (Ok x) holds s s' aim = holds x × IsSharing s' × AddsSets s.table s'.table × (shared_by s' ≡ aim)
  Shares (Err Spent) holds s s' aim = ⊥
  Shares (Err Large) holds s s' aim = IsOver (chess d) MOST_NODES MOST_EDGES aim
  Shares (Err NoMemory) holds s s' aim = ⊤
