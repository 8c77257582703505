-- Reading a text line by line: where a reader stands, what it takes, and the first line that it refuses.
use Rattle.std.specs.Prelude.{◌≡◌, ◌⊎◌, ℕ, ◌+◌, List, [], ◌∷◌, ◌++◌, length, Result, Ok, Err}
use Rattle.krieg_text.specs.declared.fault.TextFault.{TextFault}
use Rattle.krieg_text.specs.declared.fault.TextFault.TheVariants.{At, NoMemory}
use Rattle.krieg_text.specs.declared.fault.TextKind.{TextKind}
use Rattle.krieg_text.specs.declared.fault.TextKind.TheVariants.{Syntax}
use Rattle.krieg_text.specs.Outcomes.{◌>>=◌}
use Rattle.krieg_text.specs.Lines.{lines}

-- the lines that are left, and the number of the first of them
pub record Place : Type 0 where
  pub number : ℕ
  pub left : List (List ℕ)

-- so many lines were taken, and these are left
abbrev pub place : ℕ → List (List ℕ) → Place
place number left = record { number = number; left = left }

-- the lines of a text are numbered from 1
abbrev pub begin : List ℕ → Place
begin text = place 1 (lines text)

-- some lines were given, and the number is that of the next one
pub record Passed (old new : Place) : Type 0 where
  pub given : List (List ℕ)
  pub is : old.left ≡ given ++ new.left
  pub number : new.number ≡ old.number + length given

-- the line with that number was refused, and it is the last that was given, or it is missing and no line is left
abbrev pub IsRefusedAt : ℕ → Place → Type 0
IsRefusedAt line new = (new.number ≡ line + 1) ⊎ ((new.number ≡ line) × (new.left ≡ []))

-- A reader of lines gives a value and goes on after the lines that it took, or refuses a line.
abbrev pub LineReader : Type 0 → Type 0
LineReader A = Place → Result (A × Place) TextFault

-- what a line of that number gives, or its kind of fault
abbrev pub on : {A : Type 0} → ℕ → Result A TextKind → Result A TextFault
on number (Ok x) = Ok x
on number (Err kind) = Err (At number kind)

-- the next line; where none is left the text is not complete, which is syntax at the number of lines plus 1
abbrev pub next_line : ℕ → List (List ℕ) → Result (List ℕ × Place) TextFault
next_line number [] = Err (At number Syntax)
next_line number (l ∷ ls) = Ok (l, place (number + 1) ls)

-- the next line
abbrev pub line_at : LineReader (List ℕ)
line_at p = next_line p.number p.left

-- the next line, of this form: what a form makes of one line, or the kind of its fault
abbrev pub taken : {A : Type 0} → (List ℕ → Result A TextKind) → LineReader A
taken form p = do
  line ← line_at p
  value ← on p.number (form line.0)
  Ok (value, line.1)

-- what one of many lines leads to: a new state, or the end with a value
pub data Step (S A : Type 0) : Type 0 where
  goes_on : S → Step S A
  stops : A → Step S A

-- line after line, each by the form of the state that the lines before it led to, up to the line that stops
abbrev pub up_to_last : {S A : Type 0} → (S → List ℕ → Result (Step S A) TextKind) → S → ℕ → List (List ℕ) → Result (A × Place) TextFault
up_to_last form s number [] = Err (At number Syntax)
up_to_last form s number (l ∷ ls) =
    on number (form s l) >>= λ step. elim step [ stops x ↦ Ok (x, place (number + 1) ls) | goes_on next ↦ up_to_last form next (number + 1) ls ]

-- no line is left; one that is there is syntax
abbrev pub ended : {A : Type 0} → A → ℕ → List (List ℕ) → Result A TextFault
ended value number [] = Ok value
ended value number (l ∷ ls) = Err (At number Syntax)

-- what all lines of a text give: the reader takes them from the first to the last
abbrev pub whole : {A : Type 0} → LineReader A → List (List ℕ) → Result A TextFault
whole r ls = r (place 1 ls) >>= λ x. ended x.0 x.1.number x.1.left

-- A fault that was answered is that of the definition, and want of memory may come at any time.
abbrev pub Fails : {Y : Type 0} → TextFault → Result Y TextFault → Type 0
Fails NoMemory read = Unit {0}
Fails (At line kind) read = read ≡ Err (At line kind)

-- what a reader of a whole text answered, seen by view, is what the definition gives, unless memory ran out
abbrev pub Gives : {X Y : Type 0} → (X → Y) → Result X TextFault → Result Y TextFault → Type 0
Gives view (Ok x) read = read ≡ Ok (view x)
Gives view (Err e) read = Fails e read

-- the same of a reader that stands at the place new after the lines that it took, the refused one among them
abbrev pub GivesOn : {X Y : Type 0} → (X → Y) → Result X TextFault → Place → Result (Y × Place) TextFault → Type 0
GivesOn view (Ok x) new read = read ≡ Ok (view x, new)
GivesOn view (Err NoMemory) new read = Unit {0}
GivesOn view (Err (At line kind)) new read = (read ≡ Err (At line kind)) × IsRefusedAt line new

-- What a reader of the next line answered, where form says what it may make of a line: for each function that computes the
-- same, it is what that function gives of the next line.
abbrev pub GivesTaken : {A : Type 0} → (List ℕ → Result A TextKind → Type 0) → Result A TextFault → Place → Place → Type 0
GivesTaken {A} form answer old new =
    (reads : List ℕ → Result A TextKind) → ((l : List ℕ) (r : Result A TextKind) → form l r → r ≡ reads l) → GivesOn (λ x. x) answer new (taken reads old)
