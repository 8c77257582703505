-- A format described once: which lines stand in a text, in which order, and what they say.
use Rattle.std.specs.Prelude.{ℕ, zero, suc, List}
use Rattle.krieg_text.specs.Languages.{Language, One, Nothing, Any, ◌⨾◌}
use Rattle.krieg_format.specs.Lines.{Line, Part}

-- n texts of one grammar
abbrev pub Power : ℕ → Language → Language
Power zero G = Nothing
Power (suc n) G = G ⨾ Power n G

-- A format of values of A. The index is its grammar, in which the lines after a part rest on what is told alone.
pub data Format : Type 0 → Language → Type 1 where
  -- a line
  line : {A : Type 0} {F : List ℕ → Type 0} → Line A F → Format A (One F)
  -- a part that tells which lines may follow
  told : {A B : Type 0} {G H : A → Language} → Part A G → ((x : A) → Format B (H x)) → Format (A × B) (Any (λ (x : A). G x ⨾ H x))
  -- the same where the value of the lines after it tells it again, as a list its length
  counted : {A B : Type 0} {G H : A → Language} → (B → A) → Part A G → ((x : A) → Format B (H x)) → Format B (Any (λ (x : A). G x ⨾ H x))
  -- a format, and after it lines of one grammar, whatever it gave
  also : {A B : Type 0} {G H : Language} → Format A G → (A → Format B H) → Format (A × B) (G ⨾ H)
  -- the same lines, of which another value is made, and taken back
  made : {A B : Type 0} {G : Language} → (A → B) → (B → A) → Format A G → Format B G
  -- so many texts of one grammar, each by the state that those before it led to
  times : {S A : Type 0} {G : Language} → (n : ℕ) → (S → Format A G) → (S → A → S) → S → Format (List A) (Power n G)
