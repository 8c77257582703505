-- The readers of the parts of a strategy file, as its description has them.
use Rattle.std.specs.Prelude.{◌≡◌, ◌<◌, ℕ, Bool, true, List, length, map, Option, Some, None, Ok, unwrap_or}
use Rattle.krieg_board.specs.Pos.{Pos}
use Rattle.krieg_board.specs.declared.men.Move.{Move}
use Rattle.krieg_board.specs.declared.men.Side.{Side}
use Rattle.krieg_text.specs.Outcomes.{◌>>=◌}
use Rattle.krieg_text.specs.Reading.{LineReader, taken}
use Rattle.krieg_words.specs.declared.dialects.Dialect.{Dialect}
use Rattle.krieg_theory.specs.Sets.{In}
use Rattle.krieg_costs.specs.Sums.{total}
use Rattle.krieg_game.specs.Keys.{Key, RootKey, root_lt}
use Rattle.krieg_plan.specs.Order.{is_ascending}
use Rattle.krieg_strategy.specs.Edges.{edge_of}
use Rattle.krieg_strategy.specs.Nodes.{Node}
use Rattle.krieg_strategy.specs.WellFormed.{AreBelow, HaveOrder}
use Rattle.krieg_strategy.specs.declared.edge.StrategyEdge.{StrategyEdge}
use Rattle.krieg_format.specs.Lines.{tested}
use Rattle.krieg_format.specs.Descriptions.{line}
use Rattle.krieg_format.specs.Readers.{repeated, reader}
use Rattle.krieg_strategyfile.specs.declared.forms.Play.{Play}
use Rattle.krieg_strategyfile.specs.StrategyFormat.{node_format, none_yet}
use Rattle.krieg_strategyfile.specs.StrategyLines.{a_version, a_dialect, a_side, a_list, a_position, a_count, an_edge, a_root_count, a_root, listed, Counts, with_node, edged, rooted}

-- the version and the dialect
abbrev pub heading_at : LineReader Dialect
heading_at p = taken a_version.form p >>= λ v. taken a_dialect.form v.1

-- n listed positions
abbrev pub list_at : Side → ℕ → LineReader (List Pos)
list_at who n p = repeated n (λ first. reader (line (tested a_position (listed who first)))) (λ first x. Some (unwrap_or first x)) None p

-- whose strategy it is, and the listed positions
abbrev pub listing_at : LineReader (Side × List Pos)
listing_at p = do
  who ← taken a_side.form p
  k ← taken a_list.form who.1
  list ← list_at who.0 k.0 k.1
  Ok ((who.0, list.0), list.1)

-- an edge of the node with that number, after the one with the last key
abbrev pub edge_at : Dialect → ℕ → Option Key → LineReader (Key × ℕ)
edge_at d own last = reader (line (tested (an_edge d) (edged own last)))

-- n edges of the node with that number
abbrev pub edges_at : Dialect → ℕ → ℕ → LineReader (List (Key × ℕ))
edges_at d own n p = repeated n (edge_at d own) (λ last e. Some e.0) None p

-- a node behind these
abbrev pub node_at : Dialect → Counts → LineReader (Node Move Key)
node_at d s = reader (node_format d s)

-- a node by its line and its edges
abbrev pub node_with : Play → List StrategyEdge → Node Move Key
node_with p es = record { mv = p.mv; no = p.no; edges = map edge_of es }

-- how many nodes there are, and how many edges they have
abbrev pub counts_of : List (Node Move Key) → Counts
counts_of ns = record { nodes = length ns; edges = total (λ (n : Node Move Key). length n.edges) ns }

-- n nodes
abbrev pub nodes_at : Dialect → ℕ → LineReader (List (Node Move Key))
nodes_at d n p = repeated n (node_at d) with_node none_yet p

-- so many nodes as they may stand in a strategy
pub record AreFormed (n : ℕ) (ns : List (Node Move Key)) : Type 0 where
  pub count : length ns ≡ n
  pub below : AreBelow ns
  pub have_order : HaveOrder ns

-- the number of nodes, and these
abbrev pub all_nodes_at : Dialect → LineReader (List (Node Move Key))
all_nodes_at d p = taken a_count.form p >>= λ n. nodes_at d n.0 n.1

-- a root after the one with the last key
abbrev pub root_at : Dialect → Bool → ℕ → Option RootKey → LineReader (RootKey × ℕ)
root_at d waiting nodes last = reader (line (tested (a_root d) (rooted waiting nodes last)))

-- n roots
abbrev pub roots_at : Dialect → Bool → ℕ → ℕ → LineReader (List (RootKey × ℕ))
roots_at d waiting nodes n p = repeated n (root_at d waiting nodes) (λ last r. Some r.0) None p

-- the number of roots, and these
abbrev pub all_roots_at : Dialect → Bool → ℕ → LineReader (List (RootKey × ℕ))
all_roots_at d waiting nodes p = taken a_root_count.form p >>= λ r. roots_at d waiting nodes r.0 r.1

-- roots as they may stand in a strategy with so many nodes
pub record AreRoots (nodes : ℕ) (rs : List (RootKey × ℕ)) : Type 0 where
  pub below : (r : RootKey × ℕ) → In r rs → r.1 < nodes
  pub ascend : is_ascending root_lt (map (λ (r : RootKey × ℕ). r.0) rs) ≡ true
