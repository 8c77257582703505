-- The words of specs/, of this crate and of those below it, that its proofs cite: passed on from one place.
unfoldable pub use Rattle.krieg_board.specs.Hand.{same_hand}
pub use Rattle.krieg_board.specs.Men.{is_same_side, other}
pub use Rattle.krieg_board.specs.Order.{move_lt}
pub use Rattle.krieg_board.specs.Pos.{Pos}
pub use Rattle.krieg_board.specs.Validity.{IsValid}
pub use Rattle.krieg_board.specs.declared.limits.TheConstants.{MOST_MOVES, MOST_UNITS}
pub use Rattle.krieg_board.specs.declared.men.Move.{Move}
pub use Rattle.krieg_board.specs.declared.men.Side.{Side}
pub use Rattle.krieg_board.specs.declared.men.Side.TheVariants.{White}
unfoldable pub use Rattle.krieg_moves.specs.After.{after}
unfoldable pub use Rattle.krieg_moves.specs.Legal.{is_legal}
unfoldable pub use Rattle.krieg_moves.specs.Moves.{all_moves, moves}
pub use Rattle.krieg_text.specs.Lines.{lines}
pub use Rattle.krieg_text.specs.Reading.{whole}
pub use Rattle.krieg_text.specs.Writing.{HasLines, put_lines}
pub use Rattle.krieg_text.specs.declared.fault.TextFault.{TextFault}
pub use Rattle.krieg_fen.specs.ListText.{position_line}
pub use Rattle.krieg_fen.specs.MoveText.{IsOnBoard}
pub use Rattle.krieg_fen.specs.declared.forms.TheConstants.{MOST_LISTED}
pub use Rattle.krieg_words.specs.ToldWords.{told}
unfoldable pub use Rattle.krieg_words.specs.WordsOfMoves.{opening, words}
pub use Rattle.krieg_words.specs.declared.dialects.Dialect.{Dialect}
pub use Rattle.krieg_words.specs.declared.dialects.Dialect.TheVariants.{Wild16}
pub use Rattle.krieg_wordtext.specs.declared.line.Line.{Line}
pub use Rattle.krieg_wordtext.specs.declared.line.Line.TheVariants.{Done, Early, Heard, Illegal, Opens, Over}
pub use Rattle.krieg_umpire.specs.Games.{judge}
pub use Rattle.krieg_sheet.specs.Games.{IsConsistent, Gives}
pub use Rattle.krieg_sheet.specs.Places.{IsSheet}
pub use Rattle.krieg_sheet.specs.Sheets.{SheetState, new_sheet}
pub use Rattle.krieg_sheet.specs.Turns.{first_turn, is_my_turn, is_over, turn_behind, turn_of}
unfoldable pub use Rattle.krieg_umpire.specs.SessionText.{session_text}
pub use Rattle.krieg_theory.specs.Can.{begins, can, least}
pub use Rattle.krieg_theory.specs.Canonical.{AreCanon, IsCanon, IsCanonOther, edge_keys}
pub use Rattle.krieg_theory.specs.Game.{Game}
pub use Rattle.krieg_theory.specs.Plans.{AreCanonRoots, IsCanonPlan, IsWorst, all_starts, can_plan, canon_plan, mates, opening_set, openings, wins_root}
pub use Rattle.krieg_theory.specs.Sets.{Ascending, In, is_nil, same}
pub use Rattle.krieg_theory.specs.Split.{class, keys, legal_in_some, refused, tries}
pub use Rattle.krieg_theory.specs.Tree.{Edge, Edges, Just, Maybe, NoEdges, Nothing, Try}
pub use Rattle.krieg_theory.specs.Wins.{wins}
pub use Rattle.krieg_costs.specs.Backing.{behind, first_lost}
pub use Rattle.krieg_costs.specs.Block.{Block, Lives, LostClass, LostRefused, NoBlock, Stale, block}
pub use Rattle.krieg_costs.specs.Refutation.{ByClass, ByLife, ByRefused, ByStalemate, Reason, are_reasons, cited, claim_holds, claims_hold, holds, is_shown}
pub use Rattle.krieg_costs.specs.Sums.{Pair}
pub use Rattle.krieg_claims.specs.InOrder.{claimed, claimed_within, in_order}
pub use Rattle.krieg_claims.specs.Sizes.{AreFew}
pub use Rattle.krieg_claims.specs.Written.{claim_of, claims_from, denial, reason_at}
unfoldable pub use Rattle.krieg_pack.specs.Members.{set_of}
pub use Rattle.krieg_pack.specs.Members.{IsAscending}
pub use Rattle.krieg_pack.specs.Order.{position_lt}
pub use Rattle.krieg_belief.specs.Limits.{AllWithin, IsFirstExcess, IsStop}
pub use Rattle.krieg_belief.specs.Possible.{HaveOneHand, IsPossible}
pub use Rattle.krieg_seats.specs.Accounts.{Account}
pub use Rattle.krieg_play.specs.Broken.{Refuses}
pub use Rattle.krieg_play.specs.Calls.{FirstChanges}
pub use Rattle.krieg_play.specs.Played.{Sides}
pub use Rattle.krieg_play.specs.declared.outcome.PlayFault.{PlayFault}
pub use Rattle.krieg_play.specs.declared.outcome.PlayFault.TheVariants.{Vacant}
pub use Rattle.krieg_belief.specs.Explained.{AreShown, ShownState}
unfoldable pub use Rattle.krieg_belief.specs.GamesText.{games_text}
pub use Rattle.krieg_game.specs.Chess.{chess}
pub use Rattle.krieg_game.specs.Keys.{Key, RootKey, root_lt}
pub use Rattle.krieg_game.specs.Laws.{ComesAbout}
unfoldable pub use Rattle.krieg_game.specs.Outset.{starts}
pub use Rattle.krieg_game.specs.Outset.{outset}
pub use Rattle.krieg_game.specs.OutsetLaws.{ComesFirst}
pub use Rattle.krieg_plan.specs.OneTurn.{IsOneTurn}
pub use Rattle.krieg_plan.specs.Plans.{plan_of}
pub use Rattle.krieg_plan.specs.Trees.{NodeTree, PlanTrees, plan_size}
pub use Rattle.krieg_plan.specs.declared.limits.TheConstants.{MOST_NODES}
pub use Rattle.krieg_plan.specs.declared.plan.PlanFile.{PlanFile}
pub use Rattle.krieg_planfile.specs.NodeText.{AreTold, IsToldIn, IsToldKey, IsToldOther}
pub use Rattle.krieg_planfile.specs.PlanFiles.{AreAlike, AreRootsOf, AreToldRoots, IsToldRoot, PlanState, waits}
pub use Rattle.krieg_parting.specs.declared.stop.PartStop.{PartStop}
pub use Rattle.krieg_parting.specs.Charges.{Charges}
pub use Rattle.krieg_checker.specs.Verdict.{IsVerdict}
pub use Rattle.krieg_parting.specs.Turns.{IsOthersTurn, IsOwnTurn}
pub use Rattle.krieg_split.specs.Units.{IsPaid}
pub use Rattle.krieg_search.specs.Decision.{IsBetween}
pub use Rattle.krieg_solve.specs.BuiltPlan.{IsFit}
pub use Rattle.krieg_solve.specs.KeyTries.{AreKeys, IsKeyAnswer, IsWithinFresh, Told, key_tries, key_try, keys_of, told_of}
pub use Rattle.krieg_solve.specs.Solutions.{IsAnswer, IsBest, IsCharged, IsChargedAtMost}
pub use Rattle.krieg_solve.specs.declared.best_plan.Answer.{Answer}
pub use Rattle.krieg_solve.specs.declared.keys.KeyTry.{KeyTry}
pub use Rattle.krieg_solve.specs.declared.keys.KeysAt.{KeysAt}
pub use Rattle.krieg_solve.specs.declared.keys.Keys.{Keys as FoundKeys}
pub use Rattle.krieg_search.specs.declared.stop.SearchStop.{SearchStop}
pub use Rattle.krieg_refutation.specs.Refutations.{claims_price, most_claimed, most_claims, refutes}
pub use Rattle.krieg_refute.specs.RefuteAnswers.{IsDenial, IsDenied, IsMated, IsOneSide, IsTaken, side_of}
pub use Rattle.krieg_refutation.specs.declared.refutation.Refutation.{Refutation}
pub use Rattle.krieg_refute.specs.declared.refuting.Denied.TheVariants.{Denial, Exists}
unfoldable pub use Rattle.krieg_refutefile.specs.RefutationFormat.{refutation_at}
unfoldable pub use Rattle.krieg_refutefile.specs.RefutationText.{refutation_text}
pub use Rattle.krieg_refutefile.specs.RefutationText.{text_bound}
pub use Rattle.krieg_refutefile.specs.Refutations.{RefutationState, claim_from, is_refutation, reason_from, state_from, why_from}
pub use Rattle.krieg_refutefile.specs.Writable.{AreToldClaims, CitesBelow, IsToldClaim, IsToldReason, IsToldWhy, IsTurnOf}
pub use Rattle.krieg_robot.specs.Guides.{Guidance}
pub use Rattle.krieg_robot.specs.Leading.{BrokenFrom, IsWon, LedFrom}
pub use Rattle.krieg_robot.specs.declared.led.LeadFault.{LeadFault}
pub use Rattle.krieg_robot.specs.declared.led.Led.{Led}
pub use Rattle.krieg_make.specs.MadeSessions.{made_session}
pub use Rattle.krieg_make.specs.MadeSheets.{made_list, made_sheet}
pub use Rattle.krieg_args.specs.declared.command.Command.{Command}
pub use Rattle.krieg_args.specs.declared.command.Command.TheVariants.{Conduct, Lead}
pub use Rattle.krieg_args.specs.declared.command.TheConstants.{MOST_FIND_MOVES}
pub use Rattle.krieg_outcome.specs.Asked.{IsGiven, Leaves, OfPossible, OfSheet, Search, has_no_turn}
unfoldable pub use Rattle.krieg_outcome.specs.Check.{worst_text}
pub use Rattle.krieg_outcome.specs.Check.{check_cost}
pub use Rattle.krieg_outcome.specs.Judge.{JudgedSo}
pub use Rattle.krieg_share.specs.Answers.{IsBestStrategy, IsStrategyAnswer, MakesStrategy, TakesAsPlan}
unfoldable pub use Rattle.krieg_outcome.specs.Deny.{refuted_text}
pub use Rattle.krieg_outcome.specs.Deny.{Judged}
unfoldable pub use Rattle.krieg_outcome.specs.Job.{summary_text}
pub use Rattle.krieg_outcome.specs.Job.{IsFound, Plans, Summarizes, checked_line, found_lines, mates_line, summary_lines}
pub use Rattle.krieg_outcome.specs.Guides.{guided, plan_guide, strategy_guide}
pub use Rattle.krieg_outcome.specs.Lead.{HasLed, IsGivenUp, IsLedTo, Leads, LeadsFrom}
unfoldable pub use Rattle.krieg_outcome.specs.Keys.{keys_text}
pub use Rattle.krieg_outcome.specs.Keys.{AreKeysAt, AreSetKeys, Begins, IsKeysText, Keyed, TellsKeys, heard_lines, try_line}
pub use Rattle.krieg_outcome.specs.Live.{HasBegunBy, is_live}
pub use Rattle.krieg_outcome.specs.Parts.{ByKind, Decides, LeavesSeats, SearchedBy, ending_of, of_lead, of_part, of_play, of_search}
pub use Rattle.krieg_outcome.specs.Play.{PlaysFrom, PlaysWhole}
pub use Rattle.krieg_outcome.specs.Refute.{CanBeListed, Claimed, IsDenialText, denial_file}
pub use Rattle.krieg_outcome.specs.Share.{SharedBy, strategy_of}
pub use Rattle.krieg_outcome.specs.Solve.{IsBestFile, IsTooLarge, Searched, Tells, file_of, least_units}
pub use Rattle.krieg_outcome.specs.VerdictCounts.{verdict_counts}
pub use Rattle.krieg_outcome.specs.Why.{HasGames, Shows}
pub use Rattle.krieg_outcome.specs.declared.commands.job.Finding.{Finding}
pub use Rattle.krieg_outcome.specs.declared.commands.job.Finding.TheVariants.{Plan}
pub use Rattle.krieg_outcome.specs.declared.commands.job.verdict_counts.VerdictCounts.{VerdictCounts}
pub use Rattle.krieg_outcome.specs.declared.commands.search.SearchKind.{SearchKind}
pub use Rattle.krieg_outcome.specs.declared.ending.Ending.{Ending}
pub use Rattle.krieg_outcome.specs.declared.ending.Ending.TheVariants.{Refused}
pub use Rattle.krieg_outcome.specs.declared.limits.TheConstants.{JOB_MOVES, MOST_INPUT}
pub use Rattle.krieg_outcome.specs.declared.refusal.Refusal.{Refusal}
pub use Rattle.krieg_outcome.specs.declared.refusal.Refusal.TheVariants.{AnswerTooLong, NonePossible, NotThePlayersTurn, PlanExists, RefutationFails, TooMany}
