-- Which lines have the form of a number after a name.
use Rattle.std.proofs.Common.{◌≡◌, ℕ, ◌<◌, ◌≤◌, ◌^◌, List, ◌++◌, Option, Some, None, Result, Ok, Err, refl, ap, ◌∙◌}
use Rattle.krieg_text.proofs.Common.{TextKind, NumberFault, NotPlain, OutOfRange, behind, number_text, number_between, number_form, number_behind, ranged}
use Rattle.krieg_text.proofs.NameLemmas.{behind_again, behind_spells}
use Rattle.krieg_text.proofs.Numbers.{between_spells, between_again}

-- a number within a range after a name
pub number_is : (outside : TextKind) (name : List ℕ) (least most : ℕ) (text : List ℕ) (n : ℕ) → most < 2 ^ 64 → number_form outside name least most text ≡ Ok n →
    (least ≤ n) × (n ≤ most) × (text ≡ name ++ number_text n)
unfolding number_form
number_is outside name least most text n bound e = go (behind name text) refl e
  where
    by_number : (t : List ℕ) → text ≡ name ++ t → (r : Result ℕ NumberFault) → number_between t least most ≡ r → ranged outside r ≡ Ok n → (least ≤ n) × (n ≤ most) × (text ≡ name ++ number_text n)
    by_number t front (Ok k) is h =
        let same : k ≡ n = cc in
        let s = between_spells t least most n bound (is ∙ ap Ok same) in
        (s.0, s.1, front ∙ ap (λ (x : List ℕ). name ++ x) s.2)
    by_number t front (Err NotPlain) is h = absurd cc
    by_number t front (Err OutOfRange) is h = absurd cc

    go : (o : Option (List ℕ)) → behind name text ≡ o → number_behind outside least most o ≡ Ok n → (least ≤ n) × (n ≤ most) × (text ≡ name ++ number_text n)
    go None is h = absurd cc
    go (Some t) is h = by_number t (behind_spells name text t is) (number_between t least most) refl h

pub number_read : (outside : TextKind) (name : List ℕ) (least most n : ℕ) → most < 2 ^ 64 → least ≤ n → n ≤ most → number_form outside name least most (name ++ number_text n) ≡ Ok n
unfolding number_form
number_read outside name least most n bound low high =
    ap (number_behind outside least most) (behind_again name (number_text n)) ∙ ap (ranged outside) (between_again least most n low high bound)
