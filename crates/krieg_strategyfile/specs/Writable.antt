-- Which strategies have a text.
use Rattle.std.specs.Prelude.{◌≡◌, ◌≤◌, ℕ, List, length, is_some}
use Rattle.std.specs.List.{All}
use Rattle.krieg_board.specs.Validity.{IsValid}
use Rattle.krieg_board.specs.declared.men.Move.{Move}
use Rattle.krieg_fen.specs.MoveText.{IsOnBoard}
use Rattle.krieg_fen.specs.declared.forms.TheConstants.{MOST_LISTED}
use Rattle.krieg_words.specs.declared.dialects.Dialect.{Dialect}
use Rattle.krieg_costs.specs.Sums.{total}
use Rattle.krieg_game.specs.Keys.{Key, RootKey}
use Rattle.krieg_planfile.specs.NodeText.{IsToldKey}
use Rattle.krieg_planfile.specs.PlanFiles.{AreAlike, IsToldRoot, waits}
use Rattle.krieg_strategy.specs.Nodes.{Node}
use Rattle.krieg_strategy.specs.WellFormed.{IsStrategy}
use Rattle.krieg_strategy.specs.declared.limits.TheConstants.{MOST_EDGES, MOST_ROOTS}
use Rattle.krieg_strategyfile.specs.Strategies.{StrategyState}

-- its try is a move of the board, and the words of its edges can be told
pub record IsToldNode (d : Dialect) (n : Node Move Key) : Type 0 where
  pub on_board : IsOnBoard n.mv
  pub told : All (λ (e : Key × ℕ). IsToldKey d e.0) n.edges

-- the edges of all nodes
abbrev pub edges_in : List (Node Move Key) → ℕ
edges_in ns = total (λ (n : Node Move Key). length n.edges) ns

-- It can be written: its nodes and roots make a strategy within the limits, its positions have one hand, its words can be told,
-- and its roots have words of the opponent's move exactly where he is to move.
pub record CanBeWritten (s : StrategyState) : Type 0 where
  pub some_listed : 1 ≤ length s.list
  pub few_listed : length s.list ≤ MOST_LISTED
  pub valid : All IsValid s.list
  pub alike : AreAlike s.side s.list
  pub well_formed : IsStrategy s.nodes s.roots s.worst
  pub few_edges : edges_in s.nodes ≤ MOST_EDGES
  pub told : All (IsToldNode s.dialect) s.nodes
  pub some_roots : 1 ≤ length s.roots
  pub few_roots : length s.roots ≤ MOST_ROOTS
  pub roots_told : All (λ (r : RootKey × ℕ). IsToldRoot s.dialect r.0) s.roots
  pub roots : All (λ (r : RootKey × ℕ). is_some r.0.1 ≡ waits s.side s.list) s.roots
