-- The headline. Given the positions in which a game may have started and what one player has heard since, `solve` and `find` write a
-- plan by which he mates wherever the hidden men are and whatever the opponent plays, within the number of own moves that the
-- plan states; no plan needs fewer at worst; and it writes that there is none only where no plan mates within the number of
-- moves that was asked for. Of the same positions `keys` writes each first try with which as few moves are enough as with any, and
-- `share` the plan of `find` as a strategy: what repeats itself in it is written once.
use Rattle.std.specs.Prelude.{◌≡◌, ◌≤◌, ◌⊎◌, ℕ, true, false, List, length, Option, Some, Ok}
use Rattle.std.specs.Io.KnownBytes.{Appends}
use Rattle.krieg_board.specs.Pos.{Pos}
use Rattle.krieg_text.specs.Lines.{lines}
use Rattle.krieg_text.specs.Reading.{whole}
use Rattle.krieg_sheet.specs.Sheets.{SheetState}
use Rattle.krieg_sheet.specs.SheetReading.{sheet_at}
use Rattle.krieg_belief.specs.Possible.{IsPossible}
use Rattle.krieg_theory.specs.Sets.{is_nil}
use Rattle.krieg_plan.specs.Trees.{PlanTrees}
use Rattle.krieg_planfile.specs.PlanFiles.{PlanState}
use Rattle.krieg_planfile.specs.PlanReading.{plan_at}
use Rattle.krieg_planfile.specs.PlanText.{plan_text}
use Rattle.krieg_strategyfile.specs.Strategies.{StrategyState}
use Rattle.krieg_strategyfile.specs.StrategyFormat.{strategy_at}
use Rattle.krieg_strategyfile.specs.StrategyText.{strategy_text}
use Rattle.krieg_args.specs.declared.command.Command.{Command}
use Rattle.krieg_args.specs.declared.command.Command.TheVariants.{Solve, Find, Keys, Share}
use Rattle.krieg_cli.specs.World.{Stream, World}
use Rattle.krieg_cli.specs.Input.{WasRead}
use Rattle.krieg_outcome.specs.Solve.{none_text, mates_all}
use Rattle.krieg_outcome.specs.Judge.{unfolded}
use Rattle.krieg_outcome.specs.Keys.{IsKeysText}
use Rattle.krieg_outcome.specs.Share.{IsShared}
use Rattle.krieg_outcome.specs.declared.limits.TheConstants.{MOST_INPUT}

-- The input was the text of this sheet, and these are the positions that are consistent with it, each once: there is one.
pub record HasSheet (s : SheetState) (S : List Pos) (before after : World) : Type 0 where
  pub text : List ℕ
  pub was_read : WasRead before.input after.input text
  pub spelled : whole sheet_at (lines text) ≡ Ok s
  pub possible : IsPossible s S
  pub some : is_nil S ≡ false

-- The answer is a plan file for these positions, in the sheet's dialect and for its player, is read as that file again, and is
-- short enough to be the input of `check`. The plan mates from each of the positions, against every reply, within the number
-- that the file states, which is at most n; and no plan has a smaller worst case.
pub record WritesPlan (n : ℕ) (s : SheetState) (S : List Pos) (before after : World) : Type 0 where
  pub file : PlanState
  pub dialect : file.dialect ≡ s.dialect
  pub side : file.side ≡ s.side
  pub list : file.list ≡ S
  pub mates : mates_all s.dialect s.side S file.plan file.worst ≡ true
  pub within : file.worst ≤ n
  pub least : (plan : PlanTrees) (k : ℕ) → mates_all s.dialect s.side S plan k ≡ true → file.worst ≤ k
  pub written : Appends before.out.bytes after.out.bytes (plan_text file)
  pub again : whole plan_at (lines (plan_text file)) ≡ Ok file
  pub short : length (plan_text file) ≤ MOST_INPUT

-- The answer is that there is none, and no plan mates from each of these positions within n own moves.
pub record WritesNone (n : ℕ) (s : SheetState) (S : List Pos) (before after : World) : Type 0 where
  pub none_mates : (plan : PlanTrees) → mates_all s.dialect s.side S plan n ≡ false
  pub written : Appends before.out.bytes after.out.bytes (none_text n)

-- The answer lists the keys of these positions: for each thing that may be heard before the first own turn, every try that begins as
-- short a mate as any.
pub record WritesKeys (n : ℕ) (s : SheetState) (S : List Pos) (before after : World) : Type 0 where
  pub answer : List ℕ
  pub keys : IsKeysText s.dialect s.side S n answer
  pub written : Appends before.out.bytes after.out.bytes answer

-- The answer is a strategy for these positions, is read as that strategy again, and is short enough to be the input of `judge`. The
-- plan that it unfolds to mates from each of the positions, against every reply, within the number that the strategy states, which is
-- at most n; and no plan has a smaller worst case. It is the canonical plan, and each set of positions that is reached has one node.
pub record WritesStrategy (n : ℕ) (s : SheetState) (S : List Pos) (before after : World) : Type 0 where
  pub strategy : StrategyState
  pub shared : IsShared s.dialect s.side S n strategy
  pub mates : mates_all s.dialect s.side S (unfolded strategy) strategy.worst ≡ true
  pub within : strategy.worst ≤ n
  pub least : (plan : PlanTrees) (k : ℕ) → mates_all s.dialect s.side S plan k ≡ true → strategy.worst ≤ k
  pub written : Appends before.out.bytes after.out.bytes (strategy_text strategy)
  pub again : whole strategy_at (lines (strategy_text strategy)) ≡ Ok strategy
  pub short : length (strategy_text strategy) ≤ MOST_INPUT

-- what may be written of a sheet that leaves these positions, asked for so many own moves
abbrev pub Writing : Type 1
Writing = ℕ → SheetState → List Pos → World → World → Type 0

-- a sheet was answered so, or by the line that there is none, and err stays as it was
abbrev pub AnswersSheet : Writing → ℕ → World → World → Stream → Stream → Type 0
AnswersSheet Writes n before after err err' =
    (s : SheetState) × (S : List Pos) × HasSheet s S before after
    × (Writes n s S before after ⊎ WritesNone n s S before after) × (err' ≡ err)

-- with the words of this command, status 0 is that answer
abbrev pub AnswersBy : (ℕ → ℕ → ℕ → Command) → Writing → Option Command → ℕ → World → World → Stream → Stream → Type 0
AnswersBy command Writes asked code before after err err' =
    (n budget limit : ℕ) → asked ≡ Some (command n budget limit) → code ≡ 0 → AnswersSheet Writes n before after err err'

-- of `solve`: a plan file
abbrev pub SolvesSheets : Option Command → ℕ → World → World → Stream → Stream → Type 0
SolvesSheets = AnswersBy Solve WritesPlan

-- of `find`: the same
abbrev pub FindsSheets : Option Command → ℕ → World → World → Stream → Stream → Type 0
FindsSheets = AnswersBy Find WritesPlan

-- of `keys`: the keys
abbrev pub ListsKeys : Option Command → ℕ → World → World → Stream → Stream → Type 0
ListsKeys = AnswersBy Keys WritesKeys

-- of `share`: a strategy
abbrev pub SharesPlans : Option Command → ℕ → World → World → Stream → Stream → Type 0
SharesPlans = AnswersBy Share WritesStrategy
