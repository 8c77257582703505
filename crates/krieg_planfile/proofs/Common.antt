-- The words of specs/, of this crate and of those below it, that its proofs cite: passed on from one place.
pub use Rattle.krieg_board.specs.Board.{Board}
unfoldable pub use Rattle.krieg_board.specs.Hand.{same_hand}
pub use Rattle.krieg_board.specs.Men.{is_same_side}
pub use Rattle.krieg_board.specs.Pos.{Pos}
pub use Rattle.krieg_board.specs.Validity.{IsValid}
pub use Rattle.krieg_board.specs.declared.men.Man.{Man}
pub use Rattle.krieg_board.specs.declared.men.Move.{Move}
pub use Rattle.krieg_board.specs.declared.men.Promo.{Promo}
pub use Rattle.krieg_board.specs.declared.men.Promo.TheVariants.{Bishop, Knight, Queen, Rook}
pub use Rattle.krieg_board.specs.declared.men.Rights.{Rights}
pub use Rattle.krieg_board.specs.declared.men.Side.{Side}
pub use Rattle.krieg_board.specs.declared.men.Side.TheVariants.{Black, White}
pub use Rattle.krieg_text.specs.Decimals.{number_between, number_text}
pub use Rattle.krieg_text.specs.FirstBad.{Has, IsGoodTo, is_beyond_form}
pub use Rattle.krieg_text.specs.Formats.{Always, IsReading}
pub use Rattle.krieg_text.specs.Forms.{ranged}
pub use Rattle.krieg_text.specs.Languages.{Language, One, ◌⨾◌}
pub use Rattle.krieg_text.specs.Lines.{AreLines, ended_line, is_line, lines, onto_line, with_ends}
unfoldable pub use Rattle.krieg_text.specs.Names.{behind}
pub use Rattle.krieg_text.specs.Names.{cut}
pub use Rattle.krieg_text.specs.Outcomes.{◌>>=◌}
pub use Rattle.krieg_text.specs.Reading.{Gives, GivesOn, LineReader, Place, ended, on, place, taken, whole}
pub use Rattle.krieg_text.specs.Writing.{HasLines, Pieces, PutsLines, Written, alone, joined, put_lines}
pub use Rattle.krieg_text.specs.declared.fault.TextFault.{TextFault}
pub use Rattle.krieg_text.specs.declared.fault.TextFault.TheVariants.{At, NoMemory}
pub use Rattle.krieg_text.specs.declared.fault.TextKind.{TextKind}
pub use Rattle.krieg_text.specs.declared.fault.TextKind.TheVariants.{Count, Deep, Large, OutOfPlace, Syntax, Version}
pub use Rattle.krieg_text.specs.declared.number.NumberFault.{NumberFault}
pub use Rattle.krieg_text.specs.declared.number.NumberFault.TheVariants.{NotPlain, OutOfRange}
unfoldable pub use Rattle.krieg_fen.specs.FenText.{board_text, position_text, rights_text, state_text}
pub use Rattle.krieg_fen.specs.FenText.{held_text, mark_text, or_dash, rank_at, rank_text, ranks_text, row_text, run, side_text}
pub use Rattle.krieg_fen.specs.Fields.{is_clock}
unfoldable pub use Rattle.krieg_fen.specs.Forms.{listing_at}
pub use Rattle.krieg_fen.specs.Forms.{has_turn, side_line}
pub use Rattle.krieg_fen.specs.Letters.{letter, man_of}
pub use Rattle.krieg_fen.specs.ListText.{head_lines, listing_lines, position_line}
pub use Rattle.krieg_fen.specs.Listing.{ListingGrammar, SpellList, SpellsListing, list_head}
unfoldable pub use Rattle.krieg_fen.specs.MoveText.{move_text}
pub use Rattle.krieg_fen.specs.MoveText.{IsOnBoard, move_of, promo_text, square_text}
pub use Rattle.krieg_fen.specs.Ranks.{Row, onto_row, row_of, squares_at}
pub use Rattle.krieg_fen.specs.Spelling.{AreClocks, SpellRanks, Spells}
pub use Rattle.krieg_fen.specs.declared.forms.Turn.{Turn}
pub use Rattle.krieg_words.specs.Dialects.{dialect_rules, unnamed_dialect}
unfoldable pub use Rattle.krieg_wordtext.specs.LineReading.{line_in}
pub use Rattle.krieg_wordtext.specs.Parts.{Part, joined_by, text_if, texts}
pub use Rattle.krieg_words.specs.ToldWords.{no_kinds}
unfoldable pub use Rattle.krieg_wordtext.specs.Versions.{dialect_form}
pub use Rattle.krieg_wordtext.specs.Versions.{dialect_at, dialect_line}
pub use Rattle.krieg_words.specs.Words.{IsSaid, Said}
unfoldable pub use Rattle.krieg_wordtext.specs.WordsReading.{words_in}
unfoldable pub use Rattle.krieg_wordtext.specs.WordsText.{words_text}
pub use Rattle.krieg_wordtext.specs.WordsText.{checks_text, end_text, kind_names, spelled, took_text, tries_text, words_parts}
pub use Rattle.krieg_words.specs.declared.dialects.ChecksTold.{ChecksTold}
pub use Rattle.krieg_words.specs.declared.dialects.ChecksTold.TheVariants.{Bare, ByKind}
pub use Rattle.krieg_words.specs.declared.dialects.Dialect.{Dialect}
pub use Rattle.krieg_words.specs.declared.dialects.Dialect.TheVariants.{Anytry, Wild16}
pub use Rattle.krieg_words.specs.declared.dialects.MenTold.{MenTold}
pub use Rattle.krieg_words.specs.declared.dialects.MenTold.TheVariants.{Alike, Apart}
pub use Rattle.krieg_words.specs.declared.dialects.TriesTold.{TriesTold}
pub use Rattle.krieg_words.specs.declared.dialects.TriesTold.TheVariants.{Number, Untold}
pub use Rattle.krieg_wordtext.specs.declared.line.Line.{Line}
pub use Rattle.krieg_words.specs.declared.words.End.{End}
pub use Rattle.krieg_words.specs.declared.words.End.TheVariants.{Goes, Mate, Stalemate}
pub use Rattle.krieg_words.specs.declared.words.Took.{Took}
pub use Rattle.krieg_words.specs.declared.words.Took.TheVariants.{Pawn, Piece}
pub use Rattle.krieg_theory.specs.Canonical.{edge_keys}
pub use Rattle.krieg_theory.specs.Tree.{Edges, Just, Maybe, NoEdges, Try, depth, depth_edges, depth_other, size, size_edges, size_other}
pub use Rattle.krieg_game.specs.Keys.{Key, RootKey, key_lt, root_lt}
pub use Rattle.krieg_plan.specs.Nodes.{as_edges, as_other, edge_of, edge_step, node_step, tree_of}
pub use Rattle.krieg_plan.specs.Order.{are_ordered, are_ordered_roots, is_ascending, is_ordered, is_ordered_other, is_ordered_plan}
pub use Rattle.krieg_plan.specs.Roots.{root_of}
pub use Rattle.krieg_plan.specs.Trees.{NodeTree, PlanTrees, edges_in, plan_depth, plan_size}
pub use Rattle.krieg_plan.specs.declared.limits.TheConstants.{MOST_NODES, MOST_ON_PATH}
pub use Rattle.krieg_plan.specs.declared.node.Edge.{out-Edge}
pub use Rattle.krieg_plan.specs.declared.node.Edge.TheFolds.{fold_out-Edge, fold_out-Node, map-Node}
pub use Rattle.krieg_plan.specs.declared.node.Edge.TheOpen.{Node-F}
pub use Rattle.krieg_plan.specs.declared.node.Edge.TheViews.{out-Node}
pub use Rattle.krieg_plan.specs.declared.node.Node.{Node}
pub use Rattle.krieg_plan.specs.declared.plan.Root.{Root}
unfoldable pub use Rattle.krieg_planfile.specs.HeardReading.{heard_plan}
pub use Rattle.krieg_planfile.specs.HeardReading.{HeardState, all_by, heard_by, heard_form}
pub use Rattle.krieg_planfile.specs.HeardSpelling.{FirstBadHeard, IsHeardReading, SpellsHeard, SpellsLines}
pub use Rattle.krieg_planfile.specs.HeardStates.{heard_state_of}
unfoldable pub use Rattle.krieg_planfile.specs.NodeForms.{any_on_form, any_play_form}
pub use Rattle.krieg_planfile.specs.NodeForms.{both, edges_form, follows, key_across, key_in, moved_form, no_or_edges, on_form, or_syntax, placed, play_form, play_with, played_form, unspaced, words_at}
unfoldable pub use Rattle.krieg_planfile.specs.NodeReading.{node_at}
pub use Rattle.krieg_planfile.specs.NodeReading.{NodeReader, below_by, branch_by, branches_by, deep_form, other_by}
pub use Rattle.krieg_planfile.specs.NodeText.{AreTold, AreToldBranches, IsTold, IsToldIn, IsToldKey, IsToldOther, branches_lines, edge_count, edges_lines, is_just, no_text, node_lines, on_line, other_in, other_lines, play_line}
pub use Rattle.krieg_planfile.specs.PlanFiles.{AreAlike, AreRootsOf, AreToldRoots, CanBeWritten, IsPlanFile, IsToldRoot, PlanState, state_of, waits}
unfoldable pub use Rattle.krieg_planfile.specs.PlanReading.{any_root_form, claim_at, end_form, heading_at, plan_at, plan_version_form, roots_form, worst_form}
pub use Rattle.krieg_planfile.specs.PlanReading.{is_root_of, read_bound, root_form, root_in, root_placed, root_with, turn_in}
pub use Rattle.krieg_planfile.specs.PlanSpelling.{BranchesGrammar, ClaimGrammar, HasFewEdges, HasFewOther, HaveFewBranches, HaveFewEdges, IsRootOf, IsVersion, NodeGrammar, PlanGrammar, RootsGrammar, SpellsPlan}
unfoldable pub use Rattle.krieg_planfile.specs.PlanText.{plan_text}
pub use Rattle.krieg_planfile.specs.PlanText.{claim_lines, count_line, heading, plan_lines, root_line, roots_lines, text_bound, worst_line}
pub use Rattle.krieg_planfile.specs.declared.forms.Play.{Play}
