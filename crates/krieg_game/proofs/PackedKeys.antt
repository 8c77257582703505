-- What the number of what is heard stands for.
use Rattle.std.proofs.Common.{◌≡◌, ℕ, ◌+◌, ◌*◌, ◌/◌, ◌%◌, nat_eq, sym, ap, subst, ◌∙◌, arith}
use Rattle.std.specs.Ordering.{is_eq, nat_cmp}
use Rattle.std.proofs.lemmas.Bool.Decides.{nat_tests}
use Rattle.krieg_game.proofs.Common.{Said, IsSaid, same, Key, key_cmp, key_lt, words_number, words_at, key_number, key_at, AreSaid, WORDS_LIMIT, unpacked_key, IsPacked, Inside}
use Rattle.krieg_game.proofs.KeyLaws.{key_is}
use Rattle.krieg_game.proofs.KeyNumbers.{key_number_cmp, key_back}

-- the number stands for the key
pub record Stands (h : Inside) (k : Key) : Type 0 where
  pub said : AreSaid k
  pub key : h.number ≡ key_number k
  pub own : words_at (h.number / WORDS_LIMIT) ≡ k.0
  pub reply : words_at (h.number % WORDS_LIMIT) ≡ k.1

pub stand : (h : Inside) (k : Key) → IsPacked h → unpacked_key h ≡ k → Stands h k
unfolding key_at
stand h k p is = record {
  said = subst AreSaid is p.said;
  key = sym (ap (λ h. h.number) p.exact) ∙ ap key_number is;
  own = ap (λ k. k.0) is;
  reply = ap (λ k. k.1) is;
}

-- a number that is made of words stands for them
pub made : (own reply : Said) (m n : ℕ) → m ≡ words_number own → n ≡ words_number reply → IsSaid own → IsSaid reply →
    IsPacked (record { number = m * WORDS_LIMIT + n }) × (unpacked_key (record { number = m * WORDS_LIMIT + n }) ≡ (own, reply))
unfolding key_number
made own reply m n em en h k =
    let number : m * WORDS_LIMIT + n ≡ key_number (own, reply) = λ i. em i * WORDS_LIMIT + en i in
    let key : key_at (m * WORDS_LIMIT + n) ≡ (own, reply) = ap key_at number ∙ key_back (own, reply) (h, k) in
    let exact : key_number (key_at (m * WORDS_LIMIT + n)) ≡ m * WORDS_LIMIT + n = ap key_number key ∙ sym number in
    (record { said = subst AreSaid (sym key) (h, k); exact = λ i. record { number = exact i } }, key)

is_eq_nat : (m n : ℕ) → nat_eq m n ≡ is_eq (nat_cmp m n)
is_eq_nat m n = grind (arith, nat_tests)

-- two keys compare as their numbers
pub keys_compare : (a b : Inside) (k l : Key) → Stands a k → Stands b l → nat_cmp a.number b.number ≡ key_cmp k l
keys_compare a b k l s t = (λ i. nat_cmp (s.key i) (t.key i)) ∙ sym (key_number_cmp k l s.said t.said)

pub has_same_key : (a b : Inside) (k l : Key) → Stands a k → Stands b l → nat_eq a.number b.number ≡ same key_lt k l
has_same_key a b k l s t = key_is (nat_eq a.number b.number) k l (is_eq_nat a.number b.number ∙ ap is_eq (keys_compare a b k l s t))
