-- The words of specs/, of this crate and of those below it, that its proofs cite: passed on from one place.
pub use Rattle.krieg_ports.specs.Faults.{Rose, many_more, one_more}
pub use Rattle.krieg_board.specs.Pos.{Pos}
pub use Rattle.krieg_board.specs.declared.men.Move.{Move}
pub use Rattle.krieg_board.specs.declared.men.Side.{Side}
pub use Rattle.krieg_board.specs.declared.men.Side.TheVariants.{Black, White}
unfoldable pub use Rattle.krieg_moves.specs.Moves.{is_ended}
pub use Rattle.krieg_wordtext.specs.Line.{told_line}
unfoldable pub use Rattle.krieg_words.specs.WordsOfMoves.{opening}
pub use Rattle.krieg_words.specs.declared.dialects.Dialect.TheVariants.{Wild16}
pub use Rattle.krieg_wordtext.specs.declared.line.Line.{Line}
pub use Rattle.krieg_wordtext.specs.declared.line.Line.TheVariants.{Opens}
pub use Rattle.krieg_umpire.specs.Games.{GameState, judge, judged, last}
pub use Rattle.krieg_umpire.specs.Hearing.{heard, line_for, lines_for}
pub use Rattle.krieg_umpire.specs.Verdicts.{next}
pub use Rattle.krieg_umpire.specs.declared.verdict.Event.{Event}
pub use Rattle.krieg_umpire.specs.declared.verdict.Judged.{Judged}
pub use Rattle.krieg_umpire.specs.declared.verdict.Stop.{Stop}
pub use Rattle.krieg_umpire.specs.declared.verdict.Stop.TheVariants.{AsksUsed, Ended, Left}
pub use Rattle.krieg_seats.specs.Accounts.{Account, Asked, Told}
pub use Rattle.krieg_seats.specs.declared.seat.Say.{Say}
pub use Rattle.krieg_seats.specs.declared.seat.Say.TheVariants.{Leave, Try}
pub use Rattle.krieg_seats.specs.declared.seat.SeatFault.{SeatFault}
pub use Rattle.krieg_seats.specs.declared.seat.SeatFault.TheVariants.{Failed}
pub use Rattle.krieg_play.specs.Benches.{roster_sides}
pub use Rattle.krieg_play.specs.Broken.{Breaks, EndsAt, IsBroken, IsUntold, Refuses}
pub use Rattle.krieg_play.specs.Calls.{AfterTelling, AfterTurn, AsksTeam, BreaksOff, EndsTurn, FirstChanges, IsLastOnes, IsReady, Relieves, TakesTurn, Tells, TellsTeam, ToldAll, lines_to, once_more, one_try, relieved_turn, seat_counts}
pub use Rattle.krieg_play.specs.Games.{AreOnTurn, IsGameFrom, events_of, tries_of, try_of}
pub use Rattle.krieg_play.specs.Passes.{AfterAsk, AfterBoth, AfterPass, AsksOne, ComesTo, HasTried, Judges, Passes, PlaysOn, TellsBoth, fault_of, seat_count}
pub use Rattle.krieg_play.specs.Players.{AsksOf, BothHear, Follows, IsStepped, TakesTurns, due_in, next_turn}
pub use Rattle.krieg_play.specs.Played.{Courses, IsAskedWithin, IsPlayed, IsUnderway, IsWhole, LastAsk, Sides, StopsBy, all_relieved, by_side, last_ask, last_turns, leaver, lines_of, relieved, seats_of, seen, seen_team, sides, turns_so_far, turns_then, used_up}
pub use Rattle.krieg_play.specs.Teams.{AreRelieved, BrokenCourse, Course, HasFailed, HasLeft, IsGone, IsRelieved, IsService, MayBeShort, Serves, Service, Stays, Team, Turns, all_asks, asks_of, entry_of, known_behind, now_of, said_of, team, team_of, turns_of, turns_since}
pub use Rattle.krieg_play.specs.declared.outcome.PlayFault.{PlayFault}
pub use Rattle.krieg_play.specs.declared.outcome.PlayFault.TheVariants.{Seat, Vacant}
pub use Rattle.krieg_play.specs.declared.ask_outcome.AskOutcome.{AskOutcome}
pub use Rattle.krieg_play.specs.declared.ask_outcome.AskOutcome.TheVariants.{Relieved, Tried}
