-- The words of specs/, of this crate and of those below it, that its proofs cite: passed on from one place.
pub use Rattle.krieg_ports.specs.Faults.{Rose, one_more}
pub use Rattle.krieg_board.specs.Men.{is_same_side, other}
pub use Rattle.krieg_board.specs.Order.{move_numbers}
pub use Rattle.krieg_board.specs.Pos.{Pos}
pub use Rattle.krieg_board.specs.declared.men.Move.{Move}
pub use Rattle.krieg_board.specs.declared.men.Side.{Side}
pub use Rattle.krieg_board.specs.declared.men.Side.TheVariants.{Black, White}
unfoldable pub use Rattle.krieg_moves.specs.After.{after}
unfoldable pub use Rattle.krieg_moves.specs.Legal.{is_legal}
unfoldable pub use Rattle.krieg_moves.specs.Moves.{all_moves, in_check, is_ended, is_mate, is_stalemate, moves}
pub use Rattle.krieg_wordtext.specs.Line.{told_line}
pub use Rattle.krieg_words.specs.ToldWords.{told}
pub use Rattle.krieg_words.specs.Words.{Said}
unfoldable pub use Rattle.krieg_words.specs.WordsOfMoves.{opening, words}
pub use Rattle.krieg_words.specs.declared.dialects.Dialect.{Dialect}
pub use Rattle.krieg_wordtext.specs.declared.line.Line.{Line}
pub use Rattle.krieg_wordtext.specs.declared.line.Line.TheVariants.{Opens}
pub use Rattle.krieg_words.specs.declared.words.End.TheVariants.{Mate, Stalemate}
pub use Rattle.krieg_umpire.specs.Games.{GameState, judge, judged, last}
pub use Rattle.krieg_umpire.specs.Hearing.{heard, line_for, lines_for, others_line, own_line}
unfoldable pub use Rattle.krieg_umpire.specs.Verdicts.{verdict}
pub use Rattle.krieg_umpire.specs.Verdicts.{is_done, next, position_after}
pub use Rattle.krieg_umpire.specs.declared.verdict.Event.{Event}
pub use Rattle.krieg_umpire.specs.declared.verdict.Judged.{Judged}
pub use Rattle.krieg_umpire.specs.declared.verdict.Stop.{Stop}
pub use Rattle.krieg_umpire.specs.declared.verdict.Stop.TheVariants.{AsksUsed, Ended, Left}
pub use Rattle.krieg_umpire.specs.declared.verdict.Verdict.{Verdict}
pub use Rattle.krieg_umpire.specs.declared.verdict.Verdict.TheVariants.{Done, Early, Illegal, Over}
pub use Rattle.krieg_theory.specs.Sets.{In}
pub use Rattle.krieg_theory.specs.Tree.{Edges, Just, Maybe, Nothing, Try}
pub use Rattle.krieg_theory.specs.Wins.{wins, wins_other}
pub use Rattle.krieg_seats.specs.Accounts.{Account, new_account, once_asked}
pub use Rattle.krieg_play.specs.Games.{AreOnTurn, IsGameFrom, events_of, tries_of, try_of}
pub use Rattle.krieg_play.specs.Played.{once, played_counts}
pub use Rattle.krieg_play.specs.Players.{IsStepped, due_in}
pub use Rattle.krieg_play.specs.Teams.{HasLeft, Serves}
pub use Rattle.krieg_game.specs.Chess.{chess}
pub use Rattle.krieg_game.specs.Keys.{Key}
pub use Rattle.krieg_game.specs.Laws.{is_answered}
pub use Rattle.krieg_game.specs.OutsetLaws.{mates_from}
pub use Rattle.krieg_plan.specs.OneTurn.{IsOneTurn}
pub use Rattle.krieg_plan.specs.Nodes.{as_other, tree_of}
pub use Rattle.krieg_plan.specs.Plans.{plan_of}
pub use Rattle.krieg_plan.specs.Trees.{NodeTree, PlanTrees, first_edge_in, first_root_in}
pub use Rattle.krieg_robot.specs.Guides.{Guidance}
pub use Rattle.krieg_robot.specs.Followers.{Follower, follow_guide, is_first, said_so, stand_of}
pub use Rattle.krieg_robot.specs.Laws.{MatingPlanWins}
pub use Rattle.krieg_robot.specs.Leading.{AreTried, Breaks, IsBroken, IsLed, IsTried, LastAsk, LeadStops, broken_counts, is_own_move, lines_of, own_moves, stand_after}
pub use Rattle.krieg_robot.specs.Places.{behind, changed, node_at, node_on, node_with, stand_at, try_there}
pub use Rattle.krieg_robot.specs.Stands.{At, Lost, Opened, Sent, Stand, Unopened, Won, after_try, at, follow, follow_on, is_mated, is_try, next_try, node_try, opened, step}
pub use Rattle.krieg_robot.specs.Turns.{AfterPass, BothTold, HasTried, HearsPart, IsLeft, IsUnderway, LeadsOn, Passes, TurnAsked, fault_counts, hearing, lead, lead_fault, next_pass}
pub use Rattle.krieg_robot.specs.declared.led.LeadFault.{LeadFault}
pub use Rattle.krieg_robot.specs.declared.led.LeadFault.TheVariants.{NoMemory, Seat}
pub use Rattle.krieg_robot.specs.declared.place.Change.{Change}
pub use Rattle.krieg_robot.specs.declared.place.Place.{Place}
pub use Rattle.krieg_robot.specs.declared.guide.Step.{Step}
