-- Formats: what a line's form takes, what a reader of whole texts promises, and that what is written is read back.
use Rattle.std.specs.Prelude.{◌≢◌, ℕ, List, [], ◌∷◌, Option, Some, None, Result, Ok, Err, IfOk, IfErr, if◌then◌else◌}
use Rattle.std.specs.Str.{bytes_eq}
use Rattle.krieg_text.specs.declared.fault.TextFault.{TextFault}
use Rattle.krieg_text.specs.declared.fault.TextFault.TheVariants.{NoMemory}
use Rattle.krieg_text.specs.declared.fault.TextKind.{TextKind}
use Rattle.krieg_text.specs.declared.fault.TextKind.TheVariants.{Syntax}
use Rattle.krieg_text.specs.Names.{behind}
use Rattle.krieg_text.specs.Reading.{LineReader, whole, Gives}
use Rattle.krieg_text.specs.Languages.{Language}
use Rattle.krieg_text.specs.FirstBad.{FirstBad}

-- ---- forms of lines

-- the form of the text after a name, where there is one
abbrev pub behind_or : {A : Type 0} → (List ℕ → Result A TextKind) → Option (List ℕ) → Result A TextKind
behind_or form None = Err Syntax
behind_or form (Some text) = form text

-- the form of what stands after a name
abbrev pub named : {A : Type 0} → List ℕ → (List ℕ → Result A TextKind) → List ℕ → Result A TextKind
named name form line = behind_or form (behind name line)

-- a table of words and what they mean
abbrev pub one_of : {A : Type 0} → List (List ℕ × A) → List ℕ → Option A
one_of [] line = None
one_of (w ∷ ws) line = if bytes_eq line w.0 then Some w.1 else one_of ws line

-- ---- whole texts

-- what holds of every value
abbrev pub Always : {A : Type 0} → A → Type 0
Always x = Unit {0}

-- The reader r reads what S says of a value of which K holds. What it answered, seen by view, is this.
pub record IsReading {X A : Type 0} (view : X → A) (r : LineReader A) (K : A → Type 0) (S : A → Language) (Grammar : Language) (ls : List (List ℕ)) (answer : Result X TextFault) : Type 0 where
  -- the value or the fault of the definition, unless memory ran out
  pub exact : Gives view answer (whole r ls)
  -- a fault is the first bad line
  pub first_bad : IfErr answer (λ e. e ≢ NoMemory → FirstBad (whole r) Grammar 1 ls e)
  -- what is read is said by the lines
  pub found : IfOk answer (λ x. S (view x) ls)
  -- what the lines say is read
  pub only : (x : A) → K x → S x ls → Gives view answer (Ok x)
