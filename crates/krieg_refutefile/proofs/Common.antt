-- The words of specs/, of this crate and of those below it, that its proofs cite: passed on from one place.
unfoldable pub use Rattle.krieg_board.specs.Hand.{same_hand}
pub use Rattle.krieg_board.specs.Men.{is_same_side}
pub use Rattle.krieg_board.specs.Order.{move_lt}
pub use Rattle.krieg_board.specs.Pos.{Pos}
pub use Rattle.krieg_board.specs.Validity.{IsValid}
pub use Rattle.krieg_board.specs.declared.limits.TheConstants.{MOST_MOVES}
pub use Rattle.krieg_board.specs.declared.men.Move.{Move}
pub use Rattle.krieg_board.specs.declared.men.Side.{Side}
pub use Rattle.krieg_board.specs.declared.men.Side.TheVariants.{White}
pub use Rattle.krieg_text.specs.Decimals.{number_between, number_text}
pub use Rattle.krieg_text.specs.FirstBad.{Has, is_beyond_form}
pub use Rattle.krieg_text.specs.Formats.{Always, IsReading}
unfoldable pub use Rattle.krieg_text.specs.Forms.{number_form}
pub use Rattle.krieg_text.specs.Forms.{ranged, word_form}
pub use Rattle.krieg_text.specs.Lines.{is_line, lines}
unfoldable pub use Rattle.krieg_text.specs.Names.{behind, cut_last}
pub use Rattle.krieg_text.specs.Names.{cut}
pub use Rattle.krieg_text.specs.Outcomes.{◌>>=◌}
pub use Rattle.krieg_text.specs.Reading.{Gives, GivesOn, Place, taken, whole}
pub use Rattle.krieg_text.specs.Writing.{HasLines, Pieces, PutsLines, Written, Wrote, alone, joined, put_lines}
pub use Rattle.krieg_text.specs.declared.fault.TextFault.{TextFault}
pub use Rattle.krieg_text.specs.declared.fault.TextKind.{TextKind}
pub use Rattle.krieg_text.specs.declared.fault.TextKind.TheVariants.{Count, Differs, Large, OutOfPlace, Version}
pub use Rattle.krieg_text.specs.declared.number.NumberFault.{NumberFault}
pub use Rattle.krieg_text.specs.declared.number.NumberFault.TheVariants.{NotPlain, OutOfRange}
unfoldable pub use Rattle.krieg_fen.specs.Forms.{position_form, side_form}
pub use Rattle.krieg_fen.specs.Forms.{has_turn}
pub use Rattle.krieg_fen.specs.ListText.{position_line}
unfoldable pub use Rattle.krieg_fen.specs.MoveText.{move_text}
pub use Rattle.krieg_fen.specs.MoveText.{move_of}
pub use Rattle.krieg_fen.specs.declared.forms.Turn.TheVariants.{Own}
pub use Rattle.krieg_fen.specs.declared.forms.TheConstants.{MOST_LISTED}
pub use Rattle.krieg_format.specs.Readers.{reader, repeated}
pub use Rattle.krieg_format.specs.Tables.{table}
pub use Rattle.krieg_format.specs.Written.{EachFits, Fits, each_text, written}
pub use Rattle.krieg_words.specs.Dialects.{unnamed_dialect}
unfoldable pub use Rattle.krieg_wordtext.specs.Versions.{dialect_form}
pub use Rattle.krieg_wordtext.specs.Versions.{dialect_line}
unfoldable pub use Rattle.krieg_wordtext.specs.WordsText.{words_text}
pub use Rattle.krieg_words.specs.declared.dialects.Dialect.{Dialect}
pub use Rattle.krieg_words.specs.declared.dialects.Dialect.TheVariants.{Anytry, Wild16}
pub use Rattle.krieg_theory.specs.Sets.{Ascending, In, IsOrder}
pub use Rattle.krieg_costs.specs.Cost.{price}
pub use Rattle.krieg_costs.specs.Refutation.{ByClass, ByLife, ByRefused, ByStalemate}
pub use Rattle.krieg_costs.specs.Sums.{total}
unfoldable pub use Rattle.krieg_pack.specs.Members.{set_of}
pub use Rattle.krieg_pack.specs.Members.{IsAscending}
pub use Rattle.krieg_pack.specs.Order.{position_lt}
pub use Rattle.krieg_game.specs.Chess.{chess}
pub use Rattle.krieg_game.specs.Keys.{Key}
pub use Rattle.krieg_game.specs.Outset.{outset}
pub use Rattle.krieg_planfile.specs.NodeForms.{follows, key_in}
pub use Rattle.krieg_planfile.specs.PlanFiles.{AreAlike}
pub use Rattle.krieg_refutation.specs.Refutations.{claim_of, claims_of, claims_price, is_own_turn, reason_of, refutes, why_of}
pub use Rattle.krieg_refutation.specs.declared.refutation.Claim.{Claim}
pub use Rattle.krieg_refutation.specs.declared.refutation.Reason.{Reason}
pub use Rattle.krieg_refutation.specs.declared.refutation.Refutation.{Refutation}
pub use Rattle.krieg_refutation.specs.declared.refutation.TheConstants.{MOST_CLAIMED, MOST_CLAIMS}
pub use Rattle.krieg_refutation.specs.declared.refutation.Why.{Why}
pub use Rattle.krieg_refutation.specs.declared.refutation.Why.TheVariants.{Class, Lives, Refused, Stale}
unfoldable pub use Rattle.krieg_refutefile.specs.LineForms.{claim_form, reason_form}
pub use Rattle.krieg_refutefile.specs.LineForms.{both_numbers, citing_form, claim_line, class_form, class_with, numbered, place_form, reason_by, reason_line, sizes_by, sizes_form, why_form, why_pieces}
pub use Rattle.krieg_refutefile.specs.Parts.{AreTold, IsTold, claim_at, claim_lines, claims_at, head_lines, last_in, last_move, list_at, listed_at, member_at, reason_at, reasons_at, set_at, totals_of}
unfoldable pub use Rattle.krieg_refutefile.specs.RefutationFormat.{SpellsRefutation, refutation_at}
pub use Rattle.krieg_refutefile.specs.RefutationFormat.{RefutationGrammar, claim_format, claims_format, list_format, none_yet, reasons_format, refutation_format, set_format}
pub use Rattle.krieg_refutefile.specs.RefutationLines.{AreSizes, Totals, a_claim, a_claims, a_dialect, a_list, a_moves, a_position, a_reason, a_side, a_tries, a_version, argued, ascending, cites_below, listed, where_not, with_claim}
unfoldable pub use Rattle.krieg_refutefile.specs.RefutationText.{refutation_text}
pub use Rattle.krieg_refutefile.specs.RefutationText.{text_bound}
pub use Rattle.krieg_refutefile.specs.Refutations.{ClaimState, NoneMates, RefutationState, claim_from, claim_state_of, claims_in, file_of, is_refutation, reason_from, refutation_price, state_from, state_of, state_of_denial, why_from}
pub use Rattle.krieg_refutefile.specs.Writable.{AreToldClaims, CanBeWritten, CitesBelow, IsToldClaim, IsToldReason, IsToldWhy, IsTurnOf, positions_in, reasons_in}
