-- Languages: which lines say something.
use Rattle.std.specs.Prelude.{◌≡◌, ℕ, List, [], ◌∷◌, ◌++◌, length}
use Rattle.std.specs.List.{All}

-- which lines say it
abbrev pub Language : Type 1
Language = List (List ℕ) → Type 0

-- no line
abbrev pub Nothing : Language
Nothing ls = ls ≡ []

-- one line, of this form
pub record One (F : List ℕ → Type 0) (ls : List (List ℕ)) : Type 0 where
  pub line : List ℕ
  pub is : ls ≡ line ∷ []
  pub says : F line

-- first lines that say the one thing, and then lines that say the other
pub record Then (P Q : Language) (ls : List (List ℕ)) : Type 0 where
  pub front : List (List ℕ)
  pub back : List (List ℕ)
  pub is : ls ≡ front ++ back
  pub first : P front
  pub second : Q back

infixr 5 ◌⨾◌
-- lines of the first, and behind them lines of the second
abbrev pub ◌⨾◌ : Language → Language → Language
P ⨾ Q = Then P Q

-- any number of lines of one form
abbrev pub Many : (List ℕ → Type 0) → Language
Many F ls = All F ls

-- n lines of one form
abbrev pub Times : ℕ → (List ℕ → Type 0) → Language
Times n F ls = (length ls ≡ n) × All F ls

-- a text of one of these languages
abbrev pub Any : {B : Type 0} → (B → Language) → Language
Any {B = B} G ls = (b : B) × G b ls

-- a name, and after it a text that says it
pub record Behind (name : List ℕ) (F : List ℕ → Type 0) (line : List ℕ) : Type 0 where
  pub text : List ℕ
  pub is : line ≡ name ++ text
  pub says : F text

-- the lines begin a text of the language
pub record Begins (L : Language) (ls : List (List ℕ)) : Type 0 where
  pub more : List (List ℕ)
  pub whole : L (ls ++ more)

-- after the items es a line for each of these, and the last line: what a line may say rests on the items before it
abbrev pub UpToLast : {A B : Type 0} → (List A → List ℕ → A → Type 0) → (List A → List ℕ → B → Type 0) → List A → List A → B → Language
UpToLast F L es [] last [] = ⊥
UpToLast F L es [] last (l ∷ ls) = L es l last × (ls ≡ [])
UpToLast F L es (x ∷ xs) last [] = ⊥
UpToLast F L es (x ∷ xs) last (l ∷ ls) = F es l x × UpToLast F L (es ++ x ∷ []) xs last ls
