-- The words of specs/, of this crate and of those below it, that its proofs cite: passed on from one place.
pub use Rattle.krieg_board.specs.Men.{is_same_side, other}
pub use Rattle.krieg_board.specs.Order.{move_cmp, move_lt}
pub use Rattle.krieg_board.specs.Pos.{Pos}
pub use Rattle.krieg_board.specs.declared.men.Move.{Move}
pub use Rattle.krieg_board.specs.declared.men.Side.{Side}
pub use Rattle.krieg_board.specs.declared.men.Side.TheVariants.{Black, White}
unfoldable pub use Rattle.krieg_moves.specs.After.{after}
unfoldable pub use Rattle.krieg_moves.specs.Legal.{is_legal}
unfoldable pub use Rattle.krieg_moves.specs.Moves.{moves, is_ended}
pub use Rattle.krieg_text.specs.Writing.{HasLines, Pieces, PutsLines, Written, put_lines}
pub use Rattle.krieg_fen.specs.declared.forms.TheConstants.{MOST_LISTED}
pub use Rattle.krieg_wordtext.specs.Line.{told_line}
pub use Rattle.krieg_words.specs.ToldMoves.{are_told, after_told, after_told_if_legal}
pub use Rattle.krieg_words.specs.ToldWords.{told}
unfoldable pub use Rattle.krieg_words.specs.Words.{words_cmp}
pub use Rattle.krieg_words.specs.Words.{Said}
unfoldable pub use Rattle.krieg_words.specs.WordsOfMoves.{opening, words}
pub use Rattle.krieg_words.specs.declared.dialects.Dialect.{Dialect}
pub use Rattle.krieg_wordtext.specs.declared.line.Line.{Line}
pub use Rattle.krieg_wordtext.specs.declared.line.Line.TheVariants.{Done, Early, Heard, Illegal, Opens, Over}
pub use Rattle.krieg_sheet.specs.Games.{Gives, OpensWith, IsConsistent}
pub use Rattle.krieg_sheet.specs.Lists.{differs, list_fault, other_hand}
pub use Rattle.krieg_sheet.specs.Places.{IsSheet}
pub use Rattle.krieg_sheet.specs.Sheets.{SheetState}
pub use Rattle.krieg_sheet.specs.Turns.{are_in_place, may_stand, over_after, turn_after}
pub use Rattle.krieg_sheet.specs.declared.sheet.SheetFault.TheVariants.{Count}
pub use Rattle.krieg_umpire.specs.Games.{judge, judged, last}
pub use Rattle.krieg_umpire.specs.Hearing.{line_for, lines_for, others_line, own_line}
pub use Rattle.krieg_umpire.specs.SessionText.{event_line}
unfoldable pub use Rattle.krieg_umpire.specs.Verdicts.{verdict}
pub use Rattle.krieg_umpire.specs.Verdicts.{is_done, next, position_after}
pub use Rattle.krieg_umpire.specs.declared.verdict.Event.{Event}
pub use Rattle.krieg_umpire.specs.declared.verdict.Verdict.{Verdict}
pub use Rattle.krieg_theory.specs.Sets.{In, Ascending}
unfoldable pub use Rattle.krieg_pack.specs.Members.{set_of}
pub use Rattle.krieg_pack.specs.Members.{IsAscending}
pub use Rattle.krieg_pack.specs.Order.{position_cmp, position_eq, position_lt}
pub use Rattle.krieg_pack.specs.OrderLaws.{position_total}
pub use Rattle.krieg_pack.specs.SameNumbers.{equal_position, same_position}
pub use Rattle.krieg_play.specs.Games.{tries_of, try_of}
pub use Rattle.krieg_belief.specs.Explained.{AreShown, Explains, IsLeast, ShownState, is_shown, last_of, shown_cmp, state_of, their_moves}
pub use Rattle.krieg_belief.specs.GamesText.{game_lines}
pub use Rattle.krieg_belief.specs.Laws.{ShownAreOnce}
pub use Rattle.krieg_belief.specs.Limits.{AllWithin, IsFirstExcess, IsLateStop, IsStop, stopped}
pub use Rattle.krieg_belief.specs.Links.{Adds, AreKept, Entries, Grounded, IsFound, IsOver, Numbered, add_all, added, entry_at, game_of, kept, longer, nowhere, number_of, numbered_tale, place_of, stands_in, tale_of, tales_of, with_entry}
pub use Rattle.krieg_belief.specs.Possible.{HaveOneHand, IsPossible, Within, line_of, list_line, prefix}
pub use Rattle.krieg_belief.specs.Retold.{events_by, shown_of}
pub use Rattle.krieg_belief.specs.Staying.{has_opening, stays}
pub use Rattle.krieg_belief.specs.Steps.{after_opening, nexts, run, step}
pub use Rattle.krieg_belief.specs.Tales.{Tale, after_reply, begun, elsewhere, firsts, standing, stands_of, tale_cmp, tale_lt, tales_after, tell, tell_all}
pub use Rattle.krieg_belief.specs.declared.beliefs.BeliefStop.{BeliefStop}
pub use Rattle.krieg_belief.specs.declared.links.Link.{Link}
pub use Rattle.krieg_belief.specs.declared.steps.StepStop.{StepStop}
