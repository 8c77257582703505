-- What the bytes of heard words stand for.
use Rattle.std.proofs.Common.{◌≡◌, ℕ, ◌+◌, ◌*◌, sym, ap, subst, ◌∙◌, arith}
use Rattle.krieg_split.proofs.Common.{Said, IsSaid, words_number, WORDS_LIMIT, key_number, key_at, AreSaid, number_of, bytes_of, unpacked, IsPacked}
use Rattle.krieg_game.proofs.KeyNumbers.{key_back}

number_back : (n : ℕ) → number_of (bytes_of n) ≡ n
number_back n = omega arith

-- the bytes of the number of two words stand for these
pub made : (own reply : Said) (m n : ℕ) → m ≡ words_number own → n ≡ words_number reply → IsSaid own → IsSaid reply →
    IsPacked (bytes_of (m * WORDS_LIMIT + n)) × (unpacked (bytes_of (m * WORDS_LIMIT + n)) ≡ (own, reply))
unfolding key_number
made own reply m n em en h k =
    let number : m * WORDS_LIMIT + n ≡ key_number (own, reply) = λ i. em i * WORDS_LIMIT + en i in
    let key : unpacked (bytes_of (m * WORDS_LIMIT + n)) ≡ (own, reply) = ap key_at (number_back (m * WORDS_LIMIT + n) ∙ number) ∙ key_back (own, reply) (h, k) in
    (record { said = subst AreSaid (sym key) (h, k); exact = ap bytes_of (ap key_number key ∙ sym number) }, key)
