-- What a test over the 64 squares tells of one of them, and what shows such a test.
use Rattle.std.proofs.Common.{◌≡◌, ℕ, ◌<◌, Bool, true, false, length, get_or, arith, ◌∙◌, sym, ap}
use Rattle.std.proofs.lemmas.List.FromFn.{length-range_with_len, get_or-range_with_len}
use Rattle.std.proofs.lemmas.List.Folds.{list_any_at, list_any_none, list_all_at, Any-from_list_any}
use Rattle.std.proofs.lemmas.List.Sums.{AllPass-from_list_all, list_all-from_AllPass}
use Rattle.krieg_board.proofs.Common.{squares, some_square, every_square}

pub length_squares : length squares ≡ 64
unfolding squares
length_squares = length-range_with_len 0 64

pub get_or_squares : (k d : ℕ) → k < 64 → get_or squares k d ≡ k
unfolding squares
get_or_squares k d h = omega (arith, get_or-range_with_len 0 64 k d h)

pub some_square_at : (test : ℕ → Bool) (k : ℕ) → k < 64 → test k ≡ true → some_square test ≡ true
unfolding some_square
some_square_at test k h e =
    list_any_at test squares k 0 (omega (arith, length_squares)) (ap test (get_or_squares k 0 h) ∙ e)

pub some_square_none : (test : ℕ → Bool) → ((k : ℕ) → k < 64 → test k ≡ false) → some_square test ≡ false
unfolding some_square
some_square_none test none =
    list_any_none test squares (λ k d l. let h : k < 64 = omega (arith, length_squares) in ap test (get_or_squares k d h) ∙ none k h)

pub some_square_tells : (test : ℕ → Bool) → some_square test ≡ true → (k : ℕ) × (k < 64) × (test k ≡ true)
unfolding some_square
some_square_tells test e =
    let (k, x, l, is, p) = Any-from_list_any test squares e in
    let h : k < 64 = omega (arith, length_squares) in
    (k, h, ap test (sym (get_or_squares k x h) ∙ is) ∙ p)

pub every_square_all : (test : ℕ → Bool) → ((k : ℕ) → k < 64 → test k ≡ true) → every_square test ≡ true
unfolding every_square
every_square_all test each =
    list_all-from_AllPass test squares (λ k d l. let h : k < 64 = omega (arith, length_squares) in ap test (get_or_squares k d h) ∙ each k h)

pub every_square_not : (test : ℕ → Bool) (k : ℕ) → k < 64 → test k ≡ false → every_square test ≡ false
unfolding every_square
every_square_not test k h e =
    list_all_at test squares k 0 (omega (arith, length_squares)) (ap test (get_or_squares k 0 h) ∙ e)

pub every_square_at : (test : ℕ → Bool) → every_square test ≡ true → (k : ℕ) → k < 64 → test k ≡ true
unfolding every_square
every_square_at test e k h =
    ap test (sym (get_or_squares k 0 h)) ∙ AllPass-from_list_all test squares e k 0 (omega (arith, length_squares))

-- the same, in the form in which a loop over the squares ends
pub ruleset square_tests = (some_square_at, some_square_none, every_square_all, every_square_not)
