-- Lines that descriptions of formats are made of, and lines that tell which lines may follow.
use Rattle.std.specs.Prelude.{◌≡◌, ◌≤◌, ℕ, List, [], ◌∷◌, ◌++◌, Option, Some, None, Result, Ok, Err}
use Rattle.krieg_text.specs.declared.fault.TextKind.{TextKind}
use Rattle.krieg_text.specs.Decimals.{number_text}
use Rattle.krieg_text.specs.FirstBad.{Has}
use Rattle.krieg_text.specs.Forms.{number_form, word_form}
use Rattle.krieg_text.specs.Languages.{Language, One}
use Rattle.krieg_text.specs.Outcomes.{◌>>=◌}
use Rattle.krieg_text.specs.Reading.{LineReader, taken}
use Rattle.krieg_text.specs.Writing.{Pieces, alone}

-- One line of the grammar F: what it gives, which lines say a value, how a value is written, and which may be.
pub record Line (A : Type 0) (F : List ℕ → Type 0) : Type 1 where
  pub form : List ℕ → Result A TextKind
  pub says : List ℕ → A → Type 0
  pub text : A → Pieces
  pub fits : A → Type 0

-- Lines that tell which lines may follow, with a grammar for each value that they tell.
pub record Part (A : Type 0) (G : A → Language) : Type 1 where
  pub reader : LineReader A
  pub says : A → Language
  pub text : A → List Pieces
  pub fits : A → Type 0

-- ---- lines

-- a line whose grammar is that its form takes it, or refuses it by what is beyond the form
abbrev pub formed : {A : Type 0} → (form : List ℕ → Result A TextKind) → (List ℕ → A → Type 0) → (A → Pieces) → (A → Type 0) → Line A (Has form)
formed form says text fits = record { form = form; says = says; text = text; fits = fits }

-- a line with the one value that it may have
abbrev pub literal : (word : List ℕ) → Line (Unit {0}) (Has (word_form word))
literal word = formed (word_form word) (λ l u. l ≡ word) (λ u. alone word) (λ u. Unit {0})

-- a name and a number from least to most; a plain decimal outside is of the kind that is told
abbrev pub number_line : (outside : TextKind) (name : List ℕ) (least most : ℕ) → Line ℕ (Has (number_form outside name least most))
number_line outside name least most =
    formed (number_form outside name least most) (λ l n. (least ≤ n) × (n ≤ most) × (l ≡ name ++ number_text n)) (λ n. name ∷ number_text n ∷ []) (λ n. (least ≤ n) × (n ≤ most))

-- ---- a test of the value

-- a value, or what is wrong with it
abbrev pub unless : {A : Type 0} → A → Option TextKind → Result A TextKind
unless x None = Ok x
unless x (Some kind) = Err kind

-- the form of a line, and a test of what it gives
abbrev pub with_test : {A : Type 0} → (List ℕ → Result A TextKind) → (A → Option TextKind) → List ℕ → Result A TextKind
with_test form test line = form line >>= λ x. unless x (test x)

-- a line with a test of its value, which is beyond the form of the line
abbrev pub tested : {A : Type 0} {F : List ℕ → Type 0} → Line A F → (A → Option TextKind) → Line A F
tested l test = record {
  form = with_test l.form test;
  says = λ t x. l.says t x × (test x ≡ None);
  text = l.text;
  fits = λ x. l.fits x × (test x ≡ None);
}

-- ---- lines that tell

-- a line that tells which lines may follow
abbrev pub which : {A : Type 0} {F : List ℕ → Type 0} → (l : Line A F) → Part A (λ x. One (λ t. l.says t x))
which l = record { reader = taken l.form; says = λ x. One (λ t. l.says t x); text = λ x. l.text x ∷ []; fits = l.fits }

-- the same with a test: the form of the line tells it, also where the test refuses it
abbrev pub telling : {A : Type 0} {F : List ℕ → Type 0} → (l : Line A F) → (A → Option TextKind) → Part A (λ x. One (λ t. l.says t x))
telling l test = record {
  reader = taken (with_test l.form test);
  says = λ x. One (λ t. l.says t x × (test x ≡ None));
  text = λ x. l.text x ∷ [];
  fits = λ x. l.fits x × (test x ≡ None);
}
