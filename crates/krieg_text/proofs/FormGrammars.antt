-- Forms that keep to a grammar: its lines are told by the form alone, or by the value that the form gives of them.
use Rattle.std.proofs.Common.{◌≡◌, inl, inr, ℕ, true, List, Result, Ok, Err, refl, sym, subst}
use Rattle.std.specs.Prelude.{◌⊎◌}
use Rattle.krieg_text.proofs.Common.{TextKind, is_beyond_form, IsFormed, Has}
use Rattle.krieg_text.proofs.Grammars.{untold, HasForm}

-- a form whose lines are all told by the form alone
pub form_of : {A : Type 0} (form : List ℕ → Result A TextKind) (l : List ℕ) (x : A) → form l ≡ Ok x → HasForm form (λ x. Unit {0}) untold (λ u. Has form)
form_of {A = A} form l x is = record {
  holds = λ k y e. tt;
  said = λ k y e. subst IsFormed (sym e) tt;
  judged = λ k b f. go k (form k) refl f;
  some = (l, x, is);
}
  where
    go : (k : List ℕ) (r : Result A TextKind) → form k ≡ r → IsFormed r → ((y : A) × (untold y ≡ tt) × (form k ≡ Ok y)) ⊎ ((kind : TextKind) × (is_beyond_form kind ≡ true) × (form k ≡ Err kind))
    go k (Ok y) e f = inl (y, refl, e)
    go k (Err kind) e f = inr (kind, f, e)

-- a form that gives the value on which the lines after it rest
pub value_form : {A : Type 0} (form : List ℕ → Result A TextKind) (l : List ℕ) (x : A) → form l ≡ Ok x → HasForm form (λ x. Unit {0}) (λ x. x) (λ n k. form k ≡ Ok n)
value_form form l x is = record {
  holds = λ k y e. tt;
  said = λ k y e. e;
  judged = λ k b f. inl (b, refl, f);
  some = (l, x, is);
}
