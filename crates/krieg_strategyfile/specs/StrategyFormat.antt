-- The format of a strategy file, described once: its reader, the lines that spell a strategy, and its grammar.
use Rattle.std.specs.Prelude.{ℕ, Bool, List, length, Some, None, unwrap_or}
use Rattle.krieg_board.specs.Pos.{Pos}
use Rattle.krieg_board.specs.declared.men.Move.{Move}
use Rattle.krieg_board.specs.declared.men.Side.{Side}
use Rattle.krieg_text.specs.FirstBad.{Has}
use Rattle.krieg_text.specs.Languages.{Language, One, Any, ◌⨾◌}
use Rattle.krieg_text.specs.Reading.{LineReader}
use Rattle.krieg_fen.specs.Forms.{side_form, position_form}
use Rattle.krieg_words.specs.declared.dialects.Dialect.{Dialect}
use Rattle.krieg_game.specs.Keys.{Key, RootKey}
use Rattle.krieg_planfile.specs.PlanFiles.{waits}
use Rattle.krieg_strategy.specs.Nodes.{Node}
use Rattle.krieg_format.specs.Lines.{tested, which, telling}
use Rattle.krieg_format.specs.Descriptions.{Format, line, told, counted, also, made, times, Power}
use Rattle.krieg_format.specs.Readers.{reader}
use Rattle.krieg_format.specs.Tables.{table}
use Rattle.krieg_strategyfile.specs.Strategies.{StrategyState}
use Rattle.krieg_strategyfile.specs.declared.forms.Play.{Play}
use Rattle.krieg_strategyfile.specs.LineForms.{edge_form, root_form}
use Rattle.krieg_strategyfile.specs.StrategyLines.{a_version, a_dialect, a_side, a_list, a_position, a_worst, a_count, a_play, an_edge, a_root_count, a_root, an_end, listed, Counts, with_node, played, edged, rooted}

-- ---- a node

-- The grammar: the line of a node, and so many edges in any order that lead anywhere.
abbrev pub NodeGrammar : Dialect → Language
NodeGrammar d = Any (λ (p : Play). One (λ t. a_play.says t p) ⨾ Power p.edges (One (Has (edge_form d))))

-- n edges of the node with that number, each after the one before it
abbrev pub edges_format : (d : Dialect) → ℕ → (n : ℕ) → Format (List (Key × ℕ)) (Power n (One (Has (edge_form d))))
edges_format d own n = times n (λ last. line (tested (an_edge d) (edged own last))) (λ last e. Some e.0) None

-- the line of a node behind these, and its edges
abbrev pub node_parts : (d : Dialect) → Counts → Format (Play × List (Key × ℕ)) (NodeGrammar d)
node_parts d s = told (telling a_play (played s)) (λ p. edges_format d s.nodes p.edges)

-- the line of a node
abbrev pub play_of : Node Move Key → Play
play_of n = record { mv = n.mv; no = n.no; edges = length n.edges }

-- the same parts, made into a node
abbrev pub node_format : (d : Dialect) → Counts → Format (Node Move Key) (NodeGrammar d)
node_format d s = made (λ x. record { mv = x.0.mv; no = x.0.no; edges = x.1 }) (λ n. (play_of n, n.edges)) (node_parts d s)

-- ---- the file

-- The grammar: version and dialect, side and texts of positions, valid or not, and nodes and roots in any order that lead
-- anywhere.
abbrev pub StrategyGrammar : Language
StrategyGrammar =
    One (Has a_version.form)
    ⨾ Any (λ (d : Dialect). One (λ t. a_dialect.says t d)
    ⨾ One (Has side_form)
    ⨾ Any (λ (k : ℕ). One (λ t. a_list.says t k)
    ⨾ Power k (One (Has position_form))
    ⨾ One (Has a_worst.form)
    ⨾ Any (λ (n : ℕ). One (λ t. a_count.says t n)
    ⨾ Power n (NodeGrammar d)
    ⨾ Any (λ (r : ℕ). One (λ t. a_root_count.says t r)
    ⨾ Power r (One (Has (root_form d)))
    ⨾ One (Has an_end.form)))))

-- n listed positions
abbrev pub list_format : Side → (n : ℕ) → Format (List Pos) (Power n (One (Has position_form)))
list_format who n = times n (λ first. line (tested a_position (listed who first))) (λ first p. Some (unwrap_or first p)) None

-- no node
abbrev pub none_yet : Counts
none_yet = record { nodes = 0; edges = 0 }

-- n nodes behind these
abbrev pub nodes_format : (d : Dialect) → (n : ℕ) → Counts → Format (List (Node Move Key)) (Power n (NodeGrammar d))
nodes_format d n s = times n (node_format d) with_node s

-- n roots that lead to some of so many nodes, each after the one before it
abbrev pub roots_format : (d : Dialect) → Bool → ℕ → (n : ℕ) → Format (List (RootKey × ℕ)) (Power n (One (Has (root_form d))))
roots_format d waiting nodes n = times n (λ last. line (tested (a_root d) (rooted waiting nodes last))) (λ last r. Some r.0) None

-- the parts in their order
abbrev pub strategy_parts : Format (ℕ × (Dialect × (Side × (List Pos × (ℕ × (List (Node Move Key) × (List (RootKey × ℕ) × Unit {0}))))))) StrategyGrammar
strategy_parts =
    also (line a_version) (λ v.
    told (which a_dialect) (λ d.
    also (line a_side) (λ who.
    counted (λ y. length y.0) (which a_list) (λ k.
    also (list_format who k) (λ list.
    also (line a_worst) (λ w.
    counted (λ y. length y.0) (which a_count) (λ n.
    also (nodes_format d n none_yet) (λ nodes.
    counted (λ y. length y.0) (which a_root_count) (λ r.
    also (roots_format d (waits who list) (length nodes) r) (λ roots.
    line an_end))))))))))

-- the same parts, made into a strategy
abbrev pub strategy_format : Format StrategyState StrategyGrammar
strategy_format =
    made (λ x. record { dialect = x.1.0; side = x.1.1.0; list = x.1.1.1.0; worst = x.1.1.1.1.0; nodes = x.1.1.1.1.1.0; roots = x.1.1.1.1.1.1.0 })
    (λ s. (1, (s.dialect, (s.side, (s.list, (s.worst, (s.nodes, (s.roots, tt)))))))) strategy_parts

-- the strategy that lines spell, read line by line
unfoldable pub strategy_at : LineReader StrategyState
strategy_at p = reader strategy_format p

-- which lines spell it: only its positions have more than one spelling
unfoldable pub SpellsStrategy : StrategyState → Language
SpellsStrategy s = table strategy_format s
