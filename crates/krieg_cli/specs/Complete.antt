-- When a command must answer: where its input is good and nothing is refused for a cause, the status is 0, or memory ran out.
use Rattle.std.specs.Prelude.{◌≡◌, ◌≤◌, ◌<◌, ◌⊎◌, ◌++◌, ℕ, Bool, true, false, List, [], ◌∷◌, length, drop, map, Option, Some, Ok, MatchBool}
use Rattle.krieg_board.specs.Pos.{Pos}
use Rattle.krieg_board.specs.declared.men.Side.{Side}
use Rattle.krieg_board.specs.declared.men.Side.TheVariants.{White}
use Rattle.krieg_board.specs.declared.limits.TheConstants.{MOST_UNITS}
use Rattle.krieg_text.specs.Lines.{lines}
use Rattle.krieg_text.specs.Reading.{whole}
use Rattle.krieg_ports.specs.Faults.{Rose}
use Rattle.krieg_words.specs.declared.dialects.Dialect.{Dialect}
use Rattle.krieg_words.specs.declared.dialects.Dialect.TheVariants.{Wild16}
use Rattle.krieg_make.specs.MadeSheets.{made_sheet}
use Rattle.krieg_sheet.specs.Sheets.{SheetState}
use Rattle.krieg_sheet.specs.SheetReading.{sheet_at}
use Rattle.krieg_sheet.specs.Turns.{is_over}
use Rattle.krieg_belief.specs.Possible.{IsPossible}
use Rattle.krieg_belief.specs.Limits.{AllWithin}
use Rattle.krieg_belief.specs.Explained.{ShownState, AreShown}
use Rattle.krieg_belief.specs.GamesText.{games_text}
use Rattle.krieg_umpire.specs.Sessions.{SessionState}
use Rattle.krieg_umpire.specs.SessionReading.{session_at, start_at}
use Rattle.krieg_record.specs.Records.{RecordState}
use Rattle.krieg_record.specs.RecordReading.{record_at}
use Rattle.krieg_planfile.specs.PlanFiles.{PlanState}
use Rattle.krieg_planfile.specs.PlanReading.{plan_at}
use Rattle.krieg_refutefile.specs.Refutations.{RefutationState, is_refutation, refutation_price}
use Rattle.krieg_refutefile.specs.RefutationFormat.{refutation_at}
use Rattle.krieg_planfile.specs.HeardReading.{HeardState, heard_plan}
use Rattle.krieg_seats.specs.Accounts.{Account}
use Rattle.krieg_play.specs.Teams.{Team}
use Rattle.krieg_play.specs.Played.{Sides}
use Rattle.krieg_args.specs.Command.{takes_input}
use Rattle.krieg_args.specs.declared.command.Command.{Command}
use Rattle.krieg_args.specs.declared.command.Command.TheVariants.{Solve, Check, Refute, Deny, Believe, Why, Umpire, San, Unsan, Play, Lead, Next, Find, Keys, Share, Judge, Advise, Conduct, Make, Job}
use Rattle.krieg_cli.specs.World.{Stream, World, FaultsRose}
use Rattle.krieg_outcome.specs.Asked.{Leaves, has_no_turn}
use Rattle.krieg_outcome.specs.Solve.{mates_all, fresh_units, NoneMates, IsBestFile, IsTooLarge}
use Rattle.krieg_outcome.specs.Refute.{AreTooMany}
use Rattle.krieg_strategyfile.specs.Strategies.{StrategyState}
use Rattle.krieg_share.specs.Answers.{IsLargeStrategy}
use Rattle.krieg_strategyfile.specs.StrategyFormat.{strategy_at}
use Rattle.krieg_strategyfile.specs.HeardStrategies.{heard_strategy}
use Rattle.krieg_outcome.specs.Check.{check_cost}
use Rattle.krieg_outcome.specs.Judge.{judge_cost, unfolded}
use Rattle.krieg_outcome.specs.Job.{IsBest}
use Rattle.krieg_outcome.specs.declared.limits.TheConstants.{JOB_MOVES, MOST_INPUT}

-- ---- the input

-- the input holds the text that a command takes, and it is not too long; a command that takes none has no text
abbrev pub HoldsText : Command → Stream → List ℕ → Type 0
HoldsText c input text = MatchBool (takes_input c) ((input.bytes ≡ Some text) × (length text ≤ MOST_INPUT)) (text ≡ [])

-- the best plan within n own moves, where there is one, is not too large for a plan file
abbrev pub PlanFits : Dialect → Side → List Pos → ℕ → Type 0
PlanFits d who S n = (f : PlanState) → IsBestFile d who S n f → IsTooLarge f → ⊥

-- no answer of `keys` is too large
abbrev pub KeysFit : Dialect → Side → List Pos → ℕ → Type 0
KeysFit d who S n = Unit {0}

-- the best plan, where there is one, has not too many nodes, edges and roots for a strategy
abbrev pub StrategyFits : Dialect → Side → List Pos → ℕ → Type 0
StrategyFits d who S n = IsLargeStrategy d who S n → ⊥

-- no plan mates, and the claims are not too many for a refutation file
abbrev pub ClaimsFit : Dialect → Side → List Pos → ℕ → Type 0
ClaimsFit d who S n = NoneMates d who S n × (AreTooMany d who S n → ⊥)

-- The sheet leaves some position possible and asks something of it, the budget is as much as a search may take, and the answer fits.
pub record CanBeSearched (rests : SheetState → Bool) (Fits : Dialect → Side → List Pos → ℕ → Type 0)
    (n budget limit : ℕ) (text : List ℕ) : Type 0 where
  pub sheet : SheetState
  pub positions : List Pos
  pub spelled : whole sheet_at (lines text) ≡ Ok sheet
  pub leaves : Leaves limit sheet positions
  pub goes_on : rests sheet ≡ false
  pub enough : fresh_units sheet.dialect sheet.side positions n ≤ budget
  pub fits : Fits sheet.dialect sheet.side positions n

-- The plan mates from each listed position within the number that the file states, and the budget is as much as a check takes.
pub record CanBeChecked (budget : ℕ) (text : List ℕ) : Type 0 where
  pub file : PlanState
  pub spelled : whole plan_at (lines text) ≡ Ok file
  pub enough : check_cost file ≤ budget
  pub mates : mates_all file.dialect file.side file.list file.plan file.worst ≡ true

-- The plan that the strategy unfolds to mates from each listed position within the number that the file states, and the budget is as
-- much as a judgement takes.
pub record CanBeJudged (budget : ℕ) (text : List ℕ) : Type 0 where
  pub strategy : StrategyState
  pub spelled : whole strategy_at (lines text) ≡ Ok strategy
  pub enough : judge_cost strategy ≤ budget
  pub mates : mates_all strategy.dialect strategy.side strategy.list (unfolded strategy) strategy.worst ≡ true

-- The refutation holds, and the budget is as much as the look at all of its claims takes.
pub record CanBeDenied (budget : ℕ) (text : List ℕ) : Type 0 where
  pub file : RefutationState
  pub spelled : whole refutation_at (lines text) ≡ Ok file
  pub enough : refutation_price file ≤ budget
  pub holds : is_refutation file ≡ true

-- a sheet of which no part leaves more than the limit possible
pub record CanBeBelieved (limit : ℕ) (text : List ℕ) : Type 0 where
  pub sheet : SheetState
  pub spelled : whole sheet_at (lines text) ≡ Ok sheet
  pub within : AllWithin limit sheet

-- A sheet that leaves some position possible, of which no part leaves more than the limit possible, and the text of its games is
-- not too long.
pub record CanBeShown (limit : ℕ) (text : List ℕ) : Type 0 where
  pub sheet : SheetState
  pub spelled : whole sheet_at (lines text) ≡ Ok sheet
  pub within : AllWithin limit sheet
  pub some : IsPossible sheet [] → ⊥
  pub fits : (games : List ShownState) → AreShown sheet games → length (games_text sheet.dialect games) ≤ MOST_INPUT

-- The budget of a job is as much as a search may take and as much as the check of the best plan takes, and that plan is not too large.
pub record CanBeSummed (number : ℕ) : Type 0 where
  pub positions : List Pos
  pub possible : IsPossible (made_sheet number) positions
  pub enough : fresh_units Wild16 White positions JOB_MOVES ≤ MOST_UNITS
  pub enough_to_check : (f : PlanState) → IsBest positions f → check_cost f ≤ MOST_UNITS
  pub fits : (f : PlanState) → IsBest positions f → IsTooLarge f → ⊥

-- the input that a command must answer
abbrev pub MustAnswer : Command → List ℕ → Type 0
MustAnswer (Solve n budget limit) text = CanBeSearched is_over PlanFits n budget limit text
MustAnswer (Find n budget limit) text = CanBeSearched is_over PlanFits n budget limit text
MustAnswer (Keys n budget limit) text = CanBeSearched is_over KeysFit n budget limit text
MustAnswer (Share n budget limit) text = CanBeSearched is_over StrategyFits n budget limit text
MustAnswer (Check budget) text = CanBeChecked budget text
MustAnswer (Judge budget) text = CanBeJudged budget text
MustAnswer (Refute n budget limit) text = CanBeSearched has_no_turn ClaimsFit n budget limit text
MustAnswer (Deny budget) text = CanBeDenied budget text
MustAnswer (Believe limit) text = CanBeBelieved limit text
MustAnswer (Why limit) text = CanBeShown limit text
MustAnswer (Umpire who) text = (s : SessionState) × (whole session_at (lines text) ≡ Ok s)
MustAnswer San text = (s : SessionState) × (whole session_at (lines text) ≡ Ok s)
MustAnswer Unsan text = (r : RecordState) × (whole record_at (lines text) ≡ Ok r)
MustAnswer (Play asks) text = (start : Pos) × (whole start_at (lines text) ≡ Ok start)
MustAnswer (Lead asks number) text = (s : PlanState) × (whole plan_at (lines text) ≡ Ok s) × (number ≤ length s.list)
MustAnswer Next text = (h : HeardState PlanState) × (heard_plan (lines text) ≡ Ok h)
MustAnswer Advise text = (h : HeardState StrategyState) × (heard_strategy (lines text) ≡ Ok h)
MustAnswer (Conduct asks number) text = (s : StrategyState) × (whole strategy_at (lines text) ≡ Ok s) × (number ≤ length s.list)
MustAnswer (Make what number) text = Unit {0}
MustAnswer (Job number) text = CanBeSummed number

-- ---- the bench

-- no count of faults rose, seat by seat
abbrev pub NoneFailed : List Account → List Account → Type 0
NoneFailed (x ∷ xs) (y ∷ ys) = (Rose x.faults y.faults → ⊥) × NoneFailed xs ys
NoneFailed _ _ = Unit {0}

-- the seats that a list had on entry: those that were relieved since, and those that it still has
abbrev pub seats_since : {X : Type 0} → Team X → Team X → List X
seats_since entry now = drop (length entry.out) now.out ++ now.seats

-- a side that has a seat, of which no seat failed
pub record CanPlay {X : Type 0} (account : X → Account) (entry now : Team X) : Type 0 where
  pub some : 0 < length entry.seats
  pub none_failed : NoneFailed (map account entry.seats) (map account (seats_since entry now))

-- what is asked of the bench
abbrev pub BenchHolds : {X : Type 0} → (X → Account) → Command → Sides X → Sides X → Type 0
BenchHolds account (Play asks) entry now = CanPlay account entry.white now.white × CanPlay account entry.black now.black
BenchHolds account (Lead asks number) entry now = CanPlay account entry.white now.white
BenchHolds account (Conduct asks number) entry now = CanPlay account entry.white now.white
BenchHolds account _ entry now = Unit {0}

-- ---- the run

-- With the words of a command and an input that it must answer, where no stream and no seat fails, the status is 0 or 11.
abbrev pub Completes : {X : Type 0} → (X → Account) → Sides X → Sides X → Option Command → ℕ → World → World → Type 0
Completes account entry now asked code before after =
    (c : Command) (text : List ℕ) → asked ≡ Some c → HoldsText c before.input text → MustAnswer c text →
    (FaultsRose before.input after.input → ⊥) → (FaultsRose before.out after.out → ⊥) → BenchHolds account c entry now → (code ≡ 0) ⊎ (code ≡ 11)
