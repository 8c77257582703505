-- The lines of the parts of a strategy file.
use Rattle.std.specs.Prelude.{ℕ, List, [], ◌∷◌, ◌++◌, codes, map, length}
use Rattle.std.specs.List.{flat_map}
use Rattle.krieg_board.specs.declared.men.Move.{Move}
use Rattle.krieg_text.specs.Writing.{Pieces, alone}
use Rattle.krieg_fen.specs.ListText.{listing_lines}
use Rattle.krieg_wordtext.specs.Versions.{dialect_line}
use Rattle.krieg_words.specs.declared.dialects.Dialect.{Dialect}
use Rattle.krieg_game.specs.Keys.{Key, RootKey}
use Rattle.krieg_strategy.specs.Nodes.{Node}
use Rattle.krieg_strategyfile.specs.Strategies.{StrategyState}
use Rattle.krieg_strategyfile.specs.StrategyFormat.{play_of}
use Rattle.krieg_strategyfile.specs.LineForms.{numbered, play_line, edge_line, root_to_line}

-- a node, and its edges
abbrev pub node_lines : Dialect → Node Move Key → List Pieces
node_lines d n = play_line (play_of n) ∷ map (edge_line d) n.edges

-- the number of nodes, and these
abbrev pub nodes_lines : Dialect → List (Node Move Key) → List Pieces
nodes_lines d ns = numbered (codes "nodes ") (length ns) ∷ flat_map (node_lines d) ns

-- the number of roots, and these
abbrev pub roots_lines : Dialect → List (RootKey × ℕ) → List Pieces
roots_lines d rs = numbered (codes "roots ") (length rs) ∷ map (root_to_line d) rs

-- the version and the dialect
abbrev pub heading_lines : Dialect → List Pieces
heading_lines d = numbered (codes "krieg strategy ") 1 ∷ alone (dialect_line d) ∷ []

-- all parts in their order
abbrev pub strategy_lines : StrategyState → List Pieces
strategy_lines s =
    heading_lines s.dialect
    ++ (listing_lines s.side s.list
    ++ (numbered (codes "worst ") s.worst ∷ (nodes_lines s.dialect s.nodes ++ (roots_lines s.dialect s.roots ++ (alone (codes "end") ∷ [])))))
