-- Lines that owe little.
use Rattle.std.proofs.Common.{◌≡◌, inl, inr, ℕ, ◌<◌, ◌^◌, Bool, true, false, cond, List, Option, Some, None, Result, Ok, Err, refl, sym, ap, subst, ◌∙◌}
use Rattle.std.specs.Prelude.{◌⊎◌}
use Rattle.krieg_format.proofs.Common.{TextKind, Syntax, number_form, is_beyond_form, IsFormed, Has, Always, One, ◌>>=◌, Pieces, Line, formed, word_form, literal, number_line, unless, tested, which, telling}
use Rattle.std.specs.Str.{bytes_eq}
use Rattle.std.proofs.lemmas.Slice.Eq.{bytes_eq-Decides}
use Rattle.krieg_text.proofs.FormSpellings.{number_is, number_read}
use Rattle.krieg_text.proofs.Formats.{IsForm, line_format}
use Rattle.krieg_text.proofs.Goings.{line_goes}
use Rattle.krieg_format.proofs.Binds.{IsPart}
use Rattle.krieg_format.proofs.Judged.{Judgement, IsLine, Sample}

pub formed_law : {A : Type 0} {form : List ℕ → Result A TextKind} {says : List ℕ → A → Type 0} {text : A → Pieces} {fits : A → Type 0} → IsForm form says → IsLine (formed form says text fits)
formed_law {A = A} {form = form} is = record {
  found = is.found;
  only = is.only;
  said = λ t x e. subst IsFormed (sym e) tt;
  judged = λ t f. go (form t) f;
}
  where
    go : (r : Result A TextKind) → IsFormed r → Judgement r
    go (Ok x) f = inl (x, refl)
    go (Err kind) f = inr (kind, f, refl)

pub formed_some : {A : Type 0} (form : List ℕ → Result A TextKind) (t : List ℕ) (x : A) → form t ≡ Ok x → Sample A (Has form)
formed_some form t x e = (t, subst IsFormed (sym e) tt, x)

-- a word
pub literal_law : (word : List ℕ) → IsLine (literal word)
literal_law word = formed_law (record { found = λ l u e. is_word l u (bytes_eq l word) (bytes_eq-Decides l word).0 e; only = λ l u s. ap (word_form word) s ∙ ap (λ t. cond t (Ok tt) (Err Syntax)) (same word) })
  where
    is_word : (l : List ℕ) (u : Unit {0}) (t : Bool) → (t ≡ true → l ≡ word) → ◌≡◌ {A = Result (Unit {0}) TextKind} (cond t (Ok tt) (Err Syntax)) (Ok u) → l ≡ word
    is_word l u true is h = is refl
    is_word l u false is h = absurd cc

    same : (w : List ℕ) → bytes_eq w w ≡ true
    same w = (bytes_eq-Decides w w).1 refl

-- a number
pub number_law : (outside : TextKind) (name : List ℕ) (least most : ℕ) → most < 2 ^ 64 → IsLine (number_line outside name least most)
number_law outside name least most bound =
    formed_law (record { found = λ l n e. number_is outside name least most l n bound e; only = λ l n s. ap (number_form outside name least most) s.2 ∙ number_read outside name least most n bound s.0 s.1 })

-- ---- a test of the value

-- what a test finds is beyond the form of a line
abbrev pub IsBeyond : {A : Type 0} → (A → Option TextKind) → Type 0
IsBeyond {A = A} test = (x : A) (kind : TextKind) → test x ≡ Some kind → is_beyond_form kind ≡ true

module _ {A : Type 0} (test : A → Option TextKind) where
  abbrev then_test : Result A TextKind → Result A TextKind
  then_test r = r >>= λ x. unless x (test x)

  passes : (r : Result A TextKind) (x : A) → then_test r ≡ Ok x → (r ≡ Ok x) × (test x ≡ None)
  passes (Err kind) x e = absurd cc
  passes (Ok y) x e = go (test y) refl e
    where
      go : (o : Option TextKind) → test y ≡ o → unless y o ≡ Ok x → (◌≡◌ {A = Result A TextKind} (Ok y) (Ok x)) × (test x ≡ None)
      go None is h = let same : y ≡ x = cc in (ap Ok same, ap test (sym same) ∙ is)
      go (Some kind) is h = absurd cc

  passed : (r : Result A TextKind) (x : A) → r ≡ Ok x → test x ≡ None → then_test r ≡ Ok x
  passed r x e t = ap then_test e ∙ ap (unless x) t

  -- a value, or a kind that is beyond the form
  weighed : IsBeyond test → (r : Result A TextKind) (x : A) → r ≡ Ok x → (then_test r ≡ Ok x) ⊎ ((kind : TextKind) × (is_beyond_form kind ≡ true) × (then_test r ≡ Err kind))
  weighed beyond r x e = go (test x) refl
    where
      go : (o : Option TextKind) → test x ≡ o → (then_test r ≡ Ok x) ⊎ ((kind : TextKind) × (is_beyond_form kind ≡ true) × (then_test r ≡ Err kind))
      go None is = inl (passed r x e is)
      go (Some kind) is = inr (kind, beyond x kind is, ap then_test e ∙ ap (unless x) is)

pub tested_law : {A : Type 0} {F : List ℕ → Type 0} (l : Line A F) (test : A → Option TextKind) → IsBeyond test → IsLine l → IsLine (tested l test)
tested_law {A = A} l test beyond is = record {
  found = λ t x e. let p = passes test (l.form t) x e in (is.found t x p.0, p.1);
  only = λ t x s. passed test (l.form t) x (is.only t x s.0) s.1;
  said = λ t x e. is.said t x (passes test (l.form t) x e).0;
  judged = λ t f. go t (is.judged t f);
}
  where
    go : (t : List ℕ) → Judgement (l.form t) → Judgement (then_test test (l.form t))
    go t (inr h) = inr (h.0, h.1, ap (then_test test) h.2)
    go t (inl h) = or_beyond (weighed test beyond (l.form t) h.0 h.1)
      where
        or_beyond : (then_test test (l.form t) ≡ Ok h.0) ⊎ ((kind : TextKind) × (is_beyond_form kind ≡ true) × (then_test test (l.form t) ≡ Err kind)) → Judgement (then_test test (l.form t))
        or_beyond (inl e) = inl (h.0, e)
        or_beyond (inr e) = inr e

-- ---- parts

-- a line that tells
pub which_law : {A : Type 0} {F : List ℕ → Type 0} (l : Line A F) → IsLine l → (t : List ℕ) (x : A) → l.form t ≡ Ok x → IsPart (which l).reader (which l).says (λ y. One (λ k. l.says k y))
which_law l is t x e = record {
  format = line_format l.form l.says (record { found = is.found; only = is.only });
  goes = line_goes l.form Always (λ y. y) (λ y k. l.says k y)
      (record { holds = λ k y h. tt; said = λ k y h. is.found k y h; judged = λ k y s. inl (y, refl, is.only k y s) }) t x (is.found t x e) (λ y k s. (y, tt, refl));
}

-- the same with a test
pub telling_law : {A : Type 0} {F : List ℕ → Type 0} (l : Line A F) (test : A → Option TextKind) → IsBeyond test → IsLine l → (t : List ℕ) (x : A) → l.form t ≡ Ok x →
    IsPart (telling l test).reader (telling l test).says (λ y. One (λ k. l.says k y))
telling_law {A = A} l test beyond is t x e = record {
  format = line_format (tested l test).form (tested l test).says (let w = tested_law l test beyond is in record { found = w.found; only = w.only });
  goes = line_goes (tested l test).form Always (λ y. y) (λ y k. l.says k y)
      (record { holds = λ k y h. tt; said = λ k y h. is.found k y (passes test (l.form k) y h).0; judged = λ k y s. go k y (weighed test beyond (l.form k) y (is.only k y s)) })
      t x (is.found t x e) (λ y k s. (y, tt, refl));
}
  where
    go : (k : List ℕ) (y : A) → (then_test test (l.form k) ≡ Ok y) ⊎ ((kind : TextKind) × (is_beyond_form kind ≡ true) × (then_test test (l.form k) ≡ Err kind)) →
        ((z : A) × (z ≡ y) × (then_test test (l.form k) ≡ Ok z)) ⊎ ((kind : TextKind) × (is_beyond_form kind ≡ true) × (then_test test (l.form k) ≡ Err kind))
    go k y (inl h) = inl (y, refl, h)
    go k y (inr h) = inr h
