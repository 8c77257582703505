-- Where more positions are possible than a limit allows.
use Rattle.std.specs.Prelude.{◌≡◌, ℕ, suc, ◌+◌, ◌<◌, ◌≤◌, List, length, take}
use Rattle.krieg_board.specs.Pos.{Pos}
use Rattle.krieg_board.specs.declared.men.Side.{Side}
use Rattle.krieg_words.specs.declared.dialects.Dialect.{Dialect}
use Rattle.krieg_wordtext.specs.declared.line.Line.{Line}
use Rattle.krieg_sheet.specs.Sheets.{SheetState}
use Rattle.krieg_belief.specs.Steps.{run}
use Rattle.krieg_belief.specs.Possible.{prefix, line_of, Within, Exceeds}
use Rattle.krieg_belief.specs.declared.steps.StepStop.{StepStop}
use Rattle.krieg_belief.specs.declared.steps.StepStop.TheVariants as step
use Rattle.krieg_belief.specs.declared.beliefs.BeliefStop.{BeliefStop}
use Rattle.krieg_belief.specs.declared.beliefs.BeliefStop.TheVariants.{TooMany, NoMemory}

-- the first prefix of the sheet for which more positions are possible has this line
pub record IsFirstExcess (s : SheetState) (limit line : ℕ) : Type 0 where
  pub place : ℕ
  pub in_sheet : place ≤ suc (length s.entries)
  pub exceeds : Exceeds limit (prefix s place)
  pub before : (n : ℕ) → n < place → Within limit (prefix s n)
  pub line_is : line ≡ line_of s place

-- too many are possible only so; want of memory has no cause
abbrev pub IsStop : SheetState → ℕ → BeliefStop → Type 0
IsStop s limit (TooMany line) = IsFirstExcess s limit line
IsStop s limit NoMemory = Unit {0}

-- for no prefix of the sheet more positions are possible
abbrev pub AllWithin : ℕ → SheetState → Type 0
AllWithin limit s = (n : ℕ) → n ≤ suc (length s.entries) → Within limit (prefix s n)

-- Of the parts of the work.

-- a set that is too large, with the line of what it is after
abbrev pub stopped : StepStop → ℕ → BeliefStop
stopped step.TooMany line = TooMany line
stopped step.NoMemory line = NoMemory

-- the first entry after which there are more positions has this line, where the line before the entries is known
pub record IsLate (d : Dialect) (who : Side) (ls : List Line) (start : List Pos) (limit behind line : ℕ) : Type 0 where
  pub place : ℕ
  pub in_lines : place ≤ length ls
  pub exceeds : limit < length (run d who (take place ls) start)
  pub before : (n : ℕ) → n < place → length (run d who (take n ls) start) ≤ limit
  pub line_is : line ≡ behind + place

-- the same for what is answered
abbrev pub IsLateStop : Dialect → Side → List Line → List Pos → ℕ → ℕ → BeliefStop → Type 0
IsLateStop d who ls start limit behind (TooMany line) = IsLate d who ls start limit behind line
IsLateStop d who ls start limit behind NoMemory = Unit {0}
