-- The number of a key tells it, and is ordered as keys are.
use Rattle.std.proofs.Common.{◌≡◌, ℕ, ◌+◌, ◌*◌, ◌/◌, ◌%◌, ◌<◌, ap, ◌∙◌, arith}
use Rattle.std.specs.Ordering.{nat_cmp, ordering_then}
use Rattle.std.proofs.lemmas.Bool.Decides.{nat_tests}
use Rattle.krieg_game.proofs.Common.{words_cmp, Key, key_cmp, words_number, words_at, key_number, key_at, AreSaid, WORDS_LIMIT}
use Rattle.krieg_words.proofs.WordNumbers.{number_below, number_cmp, words_back}

digits_words : (a b x y : ℕ) → x < WORDS_LIMIT → y < WORDS_LIMIT → ordering_then (nat_cmp a b) (nat_cmp x y) ≡ nat_cmp (a * WORDS_LIMIT + x) (b * WORDS_LIMIT + y)
digits_words a b x y p q = grind (arith, nat_tests)

pub key_number_cmp : (a b : Key) → AreSaid a → AreSaid b → key_cmp a b ≡ nat_cmp (key_number a) (key_number b)
unfolding key_number
key_number_cmp a b h k =
    ap (λ o. ordering_then o (words_cmp a.1 b.1)) (number_cmp a.0 b.0 h.0 k.0)
    ∙ ap (λ o. ordering_then (nat_cmp (words_number a.0) (words_number b.0)) o) (number_cmp a.1 b.1 h.1 k.1)
    ∙ digits_words (words_number a.0) (words_number b.0) (words_number a.1) (words_number b.1) (number_below a.1 h.1) (number_below b.1 k.1)

pub key_back : (k : Key) → AreSaid k → key_at (key_number k) ≡ k
unfolding key_number key_at
key_back k h =
    let below = number_below k.1 h.1 in
    let own : (words_number k.0 * WORDS_LIMIT + words_number k.1) / WORDS_LIMIT ≡ words_number k.0 = omega (arith, below) in
    let reply : (words_number k.0 * WORDS_LIMIT + words_number k.1) % WORDS_LIMIT ≡ words_number k.1 = omega (arith, below) in
    let first = ap words_at own ∙ words_back k.0 h.0 in
    let second = ap words_at reply ∙ words_back k.1 h.1 in
    λ i. (first i, second i)
