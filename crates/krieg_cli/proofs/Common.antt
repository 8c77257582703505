-- The words of specs/, of this crate and of those below it, that its proofs cite: passed on from one place.
pub use Rattle.krieg_ports.specs.Bytes.{AppendsPrefix}
pub use Rattle.krieg_board.specs.Pos.{Pos}
pub use Rattle.krieg_board.specs.declared.men.Side.{Side}
pub use Rattle.krieg_board.specs.declared.men.Side.TheVariants.{Black, White}
pub use Rattle.krieg_text.specs.Lines.{lines}
pub use Rattle.krieg_text.specs.Reading.{whole}
pub use Rattle.krieg_text.specs.declared.fault.TextFault.{TextFault}
pub use Rattle.krieg_text.specs.declared.fault.TextKind.{TextKind}
pub use Rattle.krieg_wordtext.specs.Line.{told_line}
pub use Rattle.krieg_words.specs.ToldWords.{told}
unfoldable pub use Rattle.krieg_words.specs.WordsOfMoves.{opening}
pub use Rattle.krieg_words.specs.declared.dialects.Dialect.{Dialect}
pub use Rattle.krieg_words.specs.declared.dialects.Dialect.TheVariants.{Wild16}
pub use Rattle.krieg_wordtext.specs.declared.line.Line.{Line}
unfoldable pub use Rattle.krieg_record.specs.RecordReading.{record_at}
pub use Rattle.krieg_umpire.specs.declared.verdict.Event.{Event}
unfoldable pub use Rattle.krieg_sheet.specs.SheetReading.{sheet_at}
unfoldable pub use Rattle.krieg_sheet.specs.SheetText.{sheet_text}
pub use Rattle.krieg_sheet.specs.Sheets.{SheetState}
pub use Rattle.krieg_sheet.specs.Turns.{is_over}
pub use Rattle.krieg_umpire.specs.Laws.{IsGame}
unfoldable pub use Rattle.krieg_umpire.specs.SessionReading.{session_at}
pub use Rattle.krieg_umpire.specs.SessionReading.{start_at}
unfoldable pub use Rattle.krieg_umpire.specs.SessionText.{session_text}
pub use Rattle.krieg_umpire.specs.Sessions.{SessionState}
pub use Rattle.krieg_umpire.specs.Scores.{record_of, san_of, unsan_of}
pub use Rattle.krieg_theory.specs.Sets.{is_nil}
pub use Rattle.krieg_seats.specs.Accounts.{Account}
pub use Rattle.krieg_play.specs.Played.{Sides, seen, seen_team}
pub use Rattle.krieg_play.specs.Teams.{BrokenCourse, HasFailed, Service, Team, Turns, entry_of, now_of}
pub use Rattle.krieg_play.specs.declared.outcome.PlayFault.TheVariants.{Vacant}
pub use Rattle.krieg_planfile.specs.PlanFiles.{PlanState}
unfoldable pub use Rattle.krieg_planfile.specs.PlanReading.{plan_at}
unfoldable pub use Rattle.krieg_refutefile.specs.RefutationFormat.{refutation_at}
pub use Rattle.krieg_refutefile.specs.Refutations.{RefutationState}
pub use Rattle.krieg_robot.specs.Guides.{Guidance}
pub use Rattle.krieg_robot.specs.declared.led.LeadFault.{LeadFault}
pub use Rattle.krieg_robot.specs.declared.led.Led.{Led}
pub use Rattle.krieg_make.specs.MadeSheets.{made_sheet}
pub use Rattle.krieg_args.specs.Command.{takes_input}
pub use Rattle.krieg_args.specs.declared.command.Command.{Command}
pub use Rattle.krieg_args.specs.declared.command.Command.TheVariants.{Advise, Believe, Check, Conduct, Deny, Find, Job, Judge, Keys, Lead, Make, Next, Play, Refute, San, Share, Solve, Umpire, Unsan, Why}
pub use Rattle.krieg_outcome.specs.Asked.{Leaves, OfPossible, OfSheet, Search, Searches, has_no_turn}
pub use Rattle.krieg_outcome.specs.Believe.{Believed}
unfoldable pub use Rattle.krieg_outcome.specs.Check.{worst_text}
pub use Rattle.krieg_outcome.specs.Judge.{JudgedSo}
pub use Rattle.krieg_cli.specs.WholeStrategies.{JudgesStrategies}
unfoldable pub use Rattle.krieg_strategyfile.specs.StrategyFormat.{strategy_at}
pub use Rattle.krieg_cli.specs.Complete.{BenchHolds, CanBeChecked, CanBeDenied, CanBeJudged, CanBeSearched, CanBeShown, CanBeSummed, CanPlay, ClaimsFit, Completes, HoldsText, KeysFit, MustAnswer, NoneFailed, PlanFits, StrategyFits, seats_since}
pub use Rattle.krieg_outcome.specs.Deny.{Judged}
pub use Rattle.krieg_outcome.specs.Ending.{line_of, status}
pub use Rattle.krieg_cli.specs.Headline.{AnswersBy, FindsSheets, HasSheet, ListsKeys, SharesPlans, SolvesSheets, WritesKeys, WritesNone, WritesPlan, WritesStrategy, Writing}
pub use Rattle.krieg_cli.specs.Input.{WasRead}
pub use Rattle.krieg_outcome.specs.Job.{Plans, Summarizes}
pub use Rattle.krieg_outcome.specs.Guides.{guided, plan_guide, plan_guide_in, strategy_guide, strategy_guide_in}
pub use Rattle.krieg_outcome.specs.Lead.{HasLedBy, IsGivenUp, IsLedTo, Leads, LeadsFrom, LeadsWhole, OpponentChanges}
pub use Rattle.krieg_cli.specs.LedGames.{ConductsToMate, IsWonGame, LeadsToMate, MatesBy}
pub use Rattle.krieg_cli.specs.Limits.{AreLimits, FitInputs}
pub use Rattle.krieg_outcome.specs.Keys.{Keyed, TellsKeys}
pub use Rattle.krieg_outcome.specs.Live.{HasBegunBy, LivesBy}
pub use Rattle.krieg_outcome.specs.Next.{Says}
pub use Rattle.krieg_outcome.specs.Outcome.{HasOutcome, LiveOutcome}
pub use Rattle.krieg_outcome.specs.Play.{HasBegun, PlaysFrom, PlaysWhole}
pub use Rattle.krieg_outcome.specs.Refusal.{OfText, refusal_status, text_status}
pub use Rattle.krieg_outcome.specs.Refute.{Claimed, IsDenialText}
pub use Rattle.krieg_outcome.specs.Share.{SharedBy, TellsShared}
pub use Rattle.krieg_outcome.specs.Solve.{NoneMates, Searched, Tells, fresh_units, mates_all, none_text}
pub use Rattle.krieg_cli.specs.Top.{Answers, ComesTo, Ends, Gets, IsRun, LeavesBench, Reports, Runs}
pub use Rattle.krieg_outcome.specs.Umpire.{told_text}
pub use Rattle.krieg_cli.specs.WholeGames.{BelievesGames, EndsOnHeard, IsHeard, IsUmpired, TellsGame, UmpiresGames, heard_sheet, standing, stripped}
pub use Rattle.krieg_cli.specs.WholePlans.{ChecksSolutions, EndsOnSolution, IsSolution}
pub use Rattle.krieg_cli.specs.WholeRecords.{EndsOnRecord, IsScored, ReturnsGames, done_session}
pub use Rattle.krieg_cli.specs.WholeRefutations.{DeniesRefutations, EndsOnRefutation, IsRefutation, RefutesSheets, WritesRefutation, sheet_file}
pub use Rattle.krieg_outcome.specs.Why.{Shows}
pub use Rattle.krieg_cli.specs.World.{FaultsRose, NoFault, Stream, World, stream}
pub use Rattle.krieg_outcome.specs.declared.ending.Ending.{Ending}
pub use Rattle.krieg_outcome.specs.declared.ending.Ending.TheVariants.{Answered, Refused, WriteFault}
pub use Rattle.krieg_outcome.specs.declared.limits.TheConstants.{MOST_INPUT}
pub use Rattle.krieg_outcome.specs.declared.refusal.Refusal.{Refusal}
pub use Rattle.krieg_outcome.specs.declared.refusal.Refusal.TheVariants.{BadText, BudgetSpent, NoSeat, NoSuchPosition, PlanFails, RefutationFails, SeatFault, TooMany}
