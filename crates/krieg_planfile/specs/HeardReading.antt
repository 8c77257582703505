-- A file that tells a player what to try, and behind it what he heard: what a text of both says. Plan files are such files, and others.
use Rattle.std.specs.Prelude.{ℕ, ◌+◌, List, [], ◌∷◌, Result, Ok}
use Rattle.krieg_text.specs.declared.fault.TextFault.{TextFault}
use Rattle.krieg_text.specs.declared.fault.TextKind.{TextKind}
use Rattle.krieg_text.specs.Outcomes.{◌>>=◌}
use Rattle.krieg_text.specs.Reading.{LineReader, place, on}
use Rattle.krieg_wordtext.specs.LineReading.{line_in}
use Rattle.krieg_words.specs.declared.dialects.Dialect.{Dialect}
use Rattle.krieg_wordtext.specs.declared.line.Line.{Line}
use Rattle.krieg_planfile.specs.NodeForms.{or_syntax}
use Rattle.krieg_planfile.specs.PlanFiles.{PlanState}
use Rattle.krieg_planfile.specs.PlanReading.{plan_at}

-- a file, and the lines that its player heard, in order
pub record HeardState (A : Type 0) : Type 0 where
  pub file : A
  pub heard : List Line

-- a player's line of the dialect; any other is syntax
abbrev pub heard_form : Dialect → List ℕ → Result Line TextKind
heard_form d text = or_syntax (line_in d text)

-- what these lines give, each by the form, where the first of them has that number
abbrev pub all_by : {A : Type 0} → (List ℕ → Result A TextKind) → ℕ → List (List ℕ) → Result (List A) TextFault
all_by form number [] = Ok []
all_by form number (l ∷ ls) = do
  x ← on number (form l)
  xs ← all_by form (number + 1) ls
  Ok (x ∷ xs)

-- the file by its reader, and lines of its dialect up to the end of the text
abbrev pub heard_by : {A : Type 0} → LineReader A → (A → Dialect) → List (List ℕ) → Result (HeardState A) TextFault
heard_by read dialect ls = do
  file ← read (place 1 ls)
  heard ← all_by (heard_form (dialect file.0)) file.1.number file.1.left
  Ok (record { file = file.0; heard = heard })

-- the same of a plan file, which its line `end` ends
unfoldable pub heard_plan : List (List ℕ) → Result (HeardState PlanState) TextFault
heard_plan ls = heard_by plan_at (λ s. s.dialect) ls
