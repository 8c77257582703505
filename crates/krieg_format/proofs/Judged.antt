-- Lines and repeats as parts of a format.
use Rattle.std.proofs.Common.{◌≡◌, inl, inr, ℕ, zero, suc, true, List, [], ◌∷◌, length, Result, Ok, Err, refl, ap}
use Rattle.std.specs.Prelude.{◌⊎◌}
use Rattle.krieg_format.proofs.Common.{TextKind, is_beyond_form, Always, Language, One, ◌⨾◌, LineReader, taken, Line, Power, repeated, Each}
use Rattle.krieg_text.proofs.Formats.{line_format}
use Rattle.krieg_text.proofs.Goings.{line_goes}
use Rattle.krieg_text.proofs.Grammars.{untold}
use Rattle.krieg_format.proofs.Binds.{Lawful, bind_also, none_goes, none_format}

-- a line is read, or refused by what is beyond its form
abbrev pub Judgement : {A : Type 0} → Result A TextKind → Type 0
Judgement {A = A} r = ((x : A) × (r ≡ Ok x)) ⊎ ((kind : TextKind) × (is_beyond_form kind ≡ true) × (r ≡ Err kind))

-- What a line owes: it gives exactly the values that it says, has the grammar's form where it gives one, and where it has the
-- form and gives none, it is refused by what is beyond it.
pub record IsLine {A : Type 0} {F : List ℕ → Type 0} (l : Line A F) : Type 0 where
  pub found : (t : List ℕ) (x : A) → l.form t ≡ Ok x → l.says t x
  pub only : (t : List ℕ) (x : A) → l.says t x → l.form t ≡ Ok x
  pub said : (t : List ℕ) (x : A) → l.form t ≡ Ok x → F t
  pub judged : (t : List ℕ) → F t → Judgement (l.form t)

-- some line of the form, and some value
abbrev pub Sample : Type 0 → (List ℕ → Type 0) → Type 0
Sample A F = (t : List ℕ) × F t × A

pub line_law : {A : Type 0} {F : List ℕ → Type 0} (l : Line A F) → IsLine l → Sample A F → Lawful (taken l.form) (λ x. One (λ t. l.says t x)) (One F)
line_law {A = A} {F = F} l is some = record {
  format = line_format l.form l.says (record { found = is.found; only = is.only });
  goes = line_goes l.form Always untold (λ u. F) (record { holds = λ t x e. tt; said = is.said; judged = λ t b f. go t (is.judged t f) }) some.0 tt some.1 (λ b t f. (some.2, tt, refl));
}
  where
    go : (t : List ℕ) → Judgement (l.form t) → ((x : A) × (untold x ≡ tt) × (l.form t ≡ Ok x)) ⊎ ((kind : TextKind) × (is_beyond_form kind ≡ true) × (l.form t ≡ Err kind))
    go t (inl h) = inl (h.0, refl, h.1)
    go t (inr h) = inr h

-- ---- so many

pub times_law : {S A : Type 0} (n : ℕ) (item : S → LineReader A) (next : S → A → S) (T : S → A → Language) (G : Language) → ((s : S) → Lawful (item s) (T s) G) → (s : S) →
    Lawful (repeated n item next s) (Each n T next s) (Power n G)
times_law {S = S} {A = A} zero item next T G is s = record {
  format = none_format [] (Each 0 T next s) (λ ls e. e) from;
  goes = none_goes [];
}
  where
    from : (xs : List A) (ls : List (List ℕ)) → Each 0 T next s xs ls → ([] ≡ xs) × (ls ≡ [])
    from [] ls e = (refl, e)
    from (x ∷ xs) ls e = absurd e
times_law {S = S} {A = A} (suc n) item next T G is s =
    bind_also (item s) (λ x. repeated n item next (next s x)) (λ x xs. x ∷ xs) (T s) (λ x. Each n T next (next s x)) (Each (suc n) T next s) (λ x xs ls e. e) from
    (is s) (λ x. times_law n item next T G is (next s x))
  where
    from : (xs : List A) (ls : List (List ℕ)) → Each (suc n) T next s xs ls → (y : A) × (ys : List A) × (y ∷ ys ≡ xs) × (T s y ⨾ Each n T next (next s y) ys) ls
    from [] ls e = absurd e
    from (x ∷ xs) ls e = (x, xs, refl, e)

-- there are so many
pub each_length : {S A : Type 0} (n : ℕ) (next : S → A → S) (T : S → A → Language) (s : S) (xs : List A) (ls : List (List ℕ)) → Each n T next s xs ls → length xs ≡ n
each_length zero next T s [] ls e = refl
each_length zero next T s (x ∷ xs) ls e = absurd e
each_length (suc n) next T s [] ls e = absurd e
each_length (suc n) next T s (x ∷ xs) ls e = ap suc (each_length n next T (next s x) xs e.back e.second)
