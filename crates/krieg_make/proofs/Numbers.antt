-- What was tested of all numbers of a range.
use Rattle.std.proofs.Common.{◌≡◌, ℕ, ◌+◌, ◌-◌, ◌<◌, ◌≤◌, Bool, true, false, length, get_or, ◌∙◌, ap, arith}
use Rattle.std.specs.List.{list_all, range_with_len}
use Rattle.std.proofs.lemmas.Bool.{true_from_ne_false}
use Rattle.std.proofs.lemmas.List.Folds.{list_all_at}
use Rattle.std.proofs.lemmas.List.FromFn.{length-range_with_len, get_or-range_with_len}

pub all_within : (test : ℕ → Bool) (a n i : ℕ) → a ≤ i → i < a + n → list_all test (range_with_len a n) ≡ true → test i ≡ true
all_within test a n i least most all =
    true_from_ne_false (test i) (λ failed.
    (let there : i - a < length (range_with_len a n) = omega (arith, length-range_with_len a n) in
    let back : a + (i - a) ≡ i = omega arith in
    let at : get_or (range_with_len a n) (i - a) 0 ≡ i = get_or-range_with_len a n (i - a) 0 (omega arith) ∙ back in
    let none : list_all test (range_with_len a n) ≡ false = list_all_at test (range_with_len a n) (i - a) 0 there (ap test at ∙ failed) in
    cc))
