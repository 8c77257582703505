-- The first bad line of a text, or that the text is not whole.
use Rattle.std.specs.Prelude.{◌≡◌, ◌⊎◌, ◌≤◌, ℕ, ◌+◌, Bool, true, false, List, [], ◌∷◌, ◌++◌, length, Result, Ok, Err}
use Rattle.krieg_text.specs.declared.fault.TextFault.{TextFault}
use Rattle.krieg_text.specs.declared.fault.TextFault.TheVariants.{At, NoMemory}
use Rattle.krieg_text.specs.declared.fault.TextKind.{TextKind}
use Rattle.krieg_text.specs.declared.fault.TextKind.TheVariants.{Version, Syntax, Count, Position, Differs, OutOfPlace, Deep, Large}
use Rattle.krieg_text.specs.Languages.{Language, Begins}

-- the line has a form of its place, and what is wrong is something else: five kinds that the grammar of a format does not know
abbrev pub is_beyond_form : TextKind → Bool
is_beyond_form Version = false
is_beyond_form Syntax = false
is_beyond_form Count = false
is_beyond_form (Position fault) = true
is_beyond_form Differs = true
is_beyond_form OutOfPlace = true
is_beyond_form Deep = true
is_beyond_form Large = true

-- what a form gives of a line that has it: a value, or a kind of fault that is beyond the form
abbrev pub IsFormed : {A : Type 0} → Result A TextKind → Type 0
IsFormed (Ok x) = Unit {0}
IsFormed (Err kind) = is_beyond_form kind ≡ true

-- the line has the form
abbrev pub Has : {A : Type 0} → (List ℕ → Result A TextKind) → List ℕ → Type 0
Has form line = IsFormed (form line)

-- a text is read, or refused from that line on, by a kind that is beyond the form of the line
abbrev pub IsGoodTo : {A : Type 0} → ℕ → Result A TextFault → Type 0
IsGoodTo next (Ok x) = Unit {0}
IsGoodTo next (Err (At line kind)) = (next ≤ line) × (is_beyond_form kind ≡ true)
IsGoodTo next (Err NoMemory) = ⊥

-- None of the lines is bad: with more of them they are a text of the grammar, in which none of these is refused.
pub record GoesOn {A : Type 0} (read : List (List ℕ) → Result A TextFault) (Grammar : Language) (first : ℕ) (ls : List (List ℕ)) : Type 0 where
  pub more : List (List ℕ)
  pub whole : Grammar (ls ++ more)
  pub good : IsGoodTo (first + length ls) (read (ls ++ more))

-- The first bad line: none of the lines before it is bad, and with it they begin no text of the grammar, or what is wrong is
-- beyond its form. Whatever follows it, the fault is this one.
pub record IsFirstBad {A : Type 0} (read : List (List ℕ) → Result A TextFault) (Grammar : Language) (first : ℕ) (ls : List (List ℕ)) (line : ℕ) (kind : TextKind) : Type 0 where
  pub before : List (List ℕ)
  pub bad : List ℕ
  pub rest : List (List ℕ)
  pub is : ls ≡ before ++ bad ∷ rest
  pub number : line ≡ first + length before
  pub goes_on : GoesOn read Grammar first before
  pub stops : (Begins Grammar (before ++ bad ∷ []) → ⊥) ⊎ (is_beyond_form kind ≡ true)
  pub refused : (other : List (List ℕ)) → read (before ++ bad ∷ other) ≡ Err (At line kind)

-- no line is bad, and the text is not whole: that is told as a fault of syntax at the line that is missing
pub record IsUnfinished {A : Type 0} (read : List (List ℕ) → Result A TextFault) (Grammar : Language) (first : ℕ) (ls : List (List ℕ)) (line : ℕ) (kind : TextKind) : Type 0 where
  pub number : line ≡ first + length ls
  pub is_syntax : kind ≡ Syntax
  pub goes_on : GoesOn read Grammar first ls
  pub refused : read ls ≡ Err (At line kind)

-- the fault of a text of lines, the first of which has the number first
abbrev pub FirstBad : {A : Type 0} → (List (List ℕ) → Result A TextFault) → Language → ℕ → List (List ℕ) → TextFault → Type 0
FirstBad read Grammar first ls NoMemory = ⊥
FirstBad read Grammar first ls (At line kind) = IsFirstBad read Grammar first ls line kind ⊎ IsUnfinished read Grammar first ls line kind
