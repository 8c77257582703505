-- The words of specs/, of this crate and of those below it, that its proofs cite: passed on from one place.
unfoldable pub use Rattle.krieg_board.specs.Hand.{same_hand}
pub use Rattle.krieg_board.specs.Pos.{Pos}
pub use Rattle.krieg_board.specs.Validity.{IsValid}
pub use Rattle.krieg_board.specs.declared.men.Move.{Move}
pub use Rattle.krieg_board.specs.declared.men.Side.{Side}
pub use Rattle.krieg_board.specs.declared.men.Side.TheVariants.{White}
pub use Rattle.krieg_text.specs.Decimals.{number_between, number_text}
pub use Rattle.krieg_text.specs.FirstBad.{Has, is_beyond_form}
pub use Rattle.krieg_text.specs.Formats.{Always, IsReading}
unfoldable pub use Rattle.krieg_text.specs.Forms.{number_form}
pub use Rattle.krieg_text.specs.Forms.{ranged}
pub use Rattle.krieg_text.specs.Lines.{is_line, lines}
unfoldable pub use Rattle.krieg_text.specs.Names.{behind, cut_last}
pub use Rattle.krieg_text.specs.Names.{cut}
pub use Rattle.krieg_text.specs.Outcomes.{◌>>=◌}
pub use Rattle.krieg_text.specs.Reading.{Gives, GivesOn, Place, taken, whole}
pub use Rattle.krieg_text.specs.Writing.{HasLines, Pieces, PutsLines, Written, alone, joined, put_lines}
pub use Rattle.krieg_text.specs.declared.fault.TextFault.{TextFault}
pub use Rattle.krieg_text.specs.declared.fault.TextKind.{TextKind}
pub use Rattle.krieg_text.specs.declared.fault.TextKind.TheVariants.{Count, Differs, Large, OutOfPlace, Syntax, Version}
pub use Rattle.krieg_text.specs.declared.number.NumberFault.{NumberFault}
pub use Rattle.krieg_text.specs.declared.number.NumberFault.TheVariants.{NotPlain, OutOfRange}
unfoldable pub use Rattle.krieg_fen.specs.Forms.{position_form, side_form}
pub use Rattle.krieg_fen.specs.Forms.{side_line}
pub use Rattle.krieg_fen.specs.ListText.{listing_lines, position_line}
unfoldable pub use Rattle.krieg_fen.specs.MoveText.{move_text}
pub use Rattle.krieg_fen.specs.MoveText.{IsOnBoard, move_of}
pub use Rattle.krieg_format.specs.Readers.{reader, repeated}
pub use Rattle.krieg_format.specs.Written.{EachFits, Fits, each_text, written}
pub use Rattle.krieg_words.specs.Dialects.{unnamed_dialect}
pub use Rattle.krieg_words.specs.ToldWords.{no_kinds}
unfoldable pub use Rattle.krieg_wordtext.specs.Versions.{dialect_form}
pub use Rattle.krieg_wordtext.specs.Versions.{dialect_line}
pub use Rattle.krieg_words.specs.Words.{Said}
unfoldable pub use Rattle.krieg_wordtext.specs.WordsText.{words_text}
pub use Rattle.krieg_words.specs.declared.dialects.Dialect.{Dialect}
pub use Rattle.krieg_words.specs.declared.dialects.Dialect.TheVariants.{Anytry, Wild16}
pub use Rattle.krieg_words.specs.declared.words.End.TheVariants.{Goes}
pub use Rattle.krieg_theory.specs.Sets.{In}
pub use Rattle.krieg_costs.specs.Sums.{total}
pub use Rattle.krieg_game.specs.Keys.{Key, RootKey, key_lt, root_lt}
pub use Rattle.krieg_plan.specs.Order.{is_ascending}
pub use Rattle.krieg_planfile.specs.NodeForms.{any_on_form, follows}
pub use Rattle.krieg_planfile.specs.NodeText.{IsToldIn, IsToldKey, on_line}
pub use Rattle.krieg_planfile.specs.PlanFiles.{AreAlike, IsToldRoot, waits}
pub use Rattle.krieg_planfile.specs.PlanReading.{any_root_form, is_root_of}
pub use Rattle.krieg_planfile.specs.PlanText.{root_line}
pub use Rattle.krieg_strategy.specs.Nodes.{Node}
pub use Rattle.krieg_strategy.specs.WellFormed.{AreBelow, HasOrder, HaveOrder, IsBelow, IsStrategy}
pub use Rattle.krieg_strategy.specs.declared.limits.TheConstants.{MOST_EDGES, MOST_NODES, MOST_WORST}
unfoldable pub use Rattle.krieg_strategyfile.specs.LineForms.{edge_form, play_form, root_form}
pub use Rattle.krieg_strategyfile.specs.LineForms.{after_no, edge_line, leading, led, moved_form, no_or_edges, no_pieces, numbered, play_line, played_form, root_to_line, to_form, with_no, with_to, without_no}
unfoldable pub use Rattle.krieg_strategyfile.specs.StrategyFormat.{SpellsStrategy, strategy_at}
pub use Rattle.krieg_strategyfile.specs.StrategyFormat.{NodeGrammar, StrategyGrammar, edges_format, list_format, node_format, nodes_format, none_yet, play_of, roots_format, strategy_format}
pub use Rattle.krieg_strategyfile.specs.StrategyLines.{Counts, IsLed, IsPlay, LeadsToSome, a_count, a_dialect, a_list, a_play, a_position, a_root, a_root_count, a_side, a_version, a_worst, an_edge, an_end, edged, leads_below, listed, played, rooted, where_not, with_node}
unfoldable pub use Rattle.krieg_strategyfile.specs.StrategyText.{strategy_text}
pub use Rattle.krieg_strategyfile.specs.StrategyText.{text_bound}
pub use Rattle.krieg_strategyfile.specs.Strategies.{StrategyState, state_of}
pub use Rattle.krieg_strategyfile.specs.Writable.{CanBeWritten, IsToldNode, edges_in}
pub use Rattle.krieg_strategyfile.specs.declared.forms.Play.{Play}
pub use Rattle.krieg_strategyfile.specs.Parts.{heading_lines, node_lines, nodes_lines, roots_lines, strategy_lines}
pub use Rattle.krieg_strategy.specs.Edges.{edge_of}
pub use Rattle.krieg_strategy.specs.Roots.{root_of}
pub use Rattle.krieg_strategy.specs.Seen.{node_of}
pub use Rattle.krieg_strategyfile.specs.ReadParts.{all_nodes_at, all_roots_at, counts_of, edge_at, edges_at, heading_at, list_at, listing_at, node_at, node_with, nodes_at, root_at, roots_at, AreFormed, AreRoots}
