-- The number of words tells them, and is ordered as they are.
use Rattle.std.proofs.Common.{◌≡◌, ℕ, ◌+◌, ◌*◌, ◌/◌, ◌%◌, ◌<◌, ◌≤◌, Bool, true, false, cond, [], ◌∷◌, refl, ap, ◌∙◌, arith}
use Rattle.std.specs.Cmp.Lexicographic.{slice_cmp}
use Rattle.std.specs.Ordering.{nat_cmp, ordering_then}
use Rattle.std.specs.declared.cmp.Ordering.{Ordering}
use Rattle.std.specs.declared.cmp.Ordering.TheVariants.{Less, Equal, Greater}
use Rattle.std.proofs.lemmas.Bool.Decides.{nat_tests}
use Rattle.std.proofs.lemmas.Nat.{div-mul-add, mod-mul-add}
use Rattle.krieg_words.proofs.Common.{bits_of, Kinds, End, Goes, Mate, Stalemate, Took, Piece, Said, IsSaid, IsTaken, end_rank, took_rank, took_square, words_cmp, words_number, end_at, took_at, kinds_at, words_at, WORDS_LIMIT}
use Rattle.krieg_words.specs.declared.words.Took.TheVariants.{Nothing, Pawn}

end_below : (e : End) → end_rank e < 3
end_below Goes = omega arith
end_below Mate = omega arith
end_below Stalemate = omega arith

took_below : (t : Took) → took_rank t < 3
took_below Nothing = omega arith
took_below (Pawn s) = omega arith
took_below (Piece s) = omega arith

square_below : (t : Took) → IsTaken t → took_square t < 64
square_below Nothing h = omega arith
square_below (Pawn s) h = h
square_below (Piece s) h = h

bit_most : (b : Bool) (w : ℕ) → cond b w 0 ≤ w
bit_most true w = omega arith
bit_most false w = omega arith

bits_below : (k : Kinds) → bits_of k < 32
bits_below k = let a = bit_most k.knight 16 in let b = bit_most k.short 8 in let c = bit_most k.long 4 in let d = bit_most k.rank 2 in let e = bit_most k.file 1 in omega (arith, a, b, c, d, e)

pub end_back : (e : End) → end_at (end_rank e) ≡ e
end_back Goes = refl
end_back Mate = refl
end_back Stalemate = refl

pub took_back : (t : Took) → took_at (took_rank t) (took_square t) ≡ t
took_back Nothing = refl
took_back (Pawn s) = refl
took_back (Piece s) = refl

-- each of the 32 sets of kinds
pub kinds_back : (a b c d e : Bool) → kinds_at (bits_of (record { knight = a; short = b; long = c; rank = d; file = e })) ≡ record { knight = a; short = b; long = c; rank = d; file = e }
kinds_back true true true true true = refl
kinds_back true true true true false = refl
kinds_back true true true false true = refl
kinds_back true true true false false = refl
kinds_back true true false true true = refl
kinds_back true true false true false = refl
kinds_back true true false false true = refl
kinds_back true true false false false = refl
kinds_back true false true true true = refl
kinds_back true false true true false = refl
kinds_back true false true false true = refl
kinds_back true false true false false = refl
kinds_back true false false true true = refl
kinds_back true false false true false = refl
kinds_back true false false false true = refl
kinds_back true false false false false = refl
kinds_back false true true true true = refl
kinds_back false true true true false = refl
kinds_back false true true false true = refl
kinds_back false true true false false = refl
kinds_back false true false true true = refl
kinds_back false true false true false = refl
kinds_back false true false false true = refl
kinds_back false true false false false = refl
kinds_back false false true true true = refl
kinds_back false false true true false = refl
kinds_back false false true false true = refl
kinds_back false false true false false = refl
kinds_back false false false true true = refl
kinds_back false false false true false = refl
kinds_back false false false false true = refl
kinds_back false false false false false = refl

-- two digits compare as the number that they make
digits_3 : (a b x y : ℕ) → x < 3 → y < 3 → ordering_then (nat_cmp a b) (nat_cmp x y) ≡ nat_cmp (a * 3 + x) (b * 3 + y)
digits_3 a b x y p q = grind (arith, nat_tests)

digits_64 : (a b x y : ℕ) → x < 64 → y < 64 → ordering_then (nat_cmp a b) (nat_cmp x y) ≡ nat_cmp (a * 64 + x) (b * 64 + y)
digits_64 a b x y p q = grind (arith, nat_tests)

digits_32 : (a b x y : ℕ) → x < 32 → y < 32 → ordering_then (nat_cmp a b) (nat_cmp x y) ≡ nat_cmp (a * 32 + x) (b * 32 + y)
digits_32 a b x y p q = grind (arith, nat_tests)

-- so do two digits before more
more_digits : (a b r n : Ordering) → ordering_then a b ≡ n → ordering_then a (ordering_then b r) ≡ ordering_then n r
more_digits Less b r n h = ap (λ x. ordering_then x r) h
more_digits Equal b r n h = ap (λ x. ordering_then x r) h
more_digits Greater b r n h = ap (λ x. ordering_then x r) h

then_equal : (a : Ordering) → ordering_then a Equal ≡ a
then_equal Less = refl
then_equal Equal = refl
then_equal Greater = refl

pub number_below : (w : Said) → IsSaid w → words_number w < WORDS_LIMIT
unfolding words_number
number_below w h =
    let e = end_below w.end in let t = took_below w.took in let s = square_below w.took h.1 in let k = bits_below w.checks in let n = h.0 in
    omega (arith, e, t, s, k, n)

-- five digits, the first one highest
all_digits : (e t s k n e' t' s' k' n' : ℕ) → t < 3 → s < 64 → k < 32 → n < 32 → t' < 3 → s' < 64 → k' < 32 → n' < 32 →
    slice_cmp nat_cmp (e ∷ t ∷ s ∷ k ∷ n ∷ []) (e' ∷ t' ∷ s' ∷ k' ∷ n' ∷ []) ≡ nat_cmp ((((e * 3 + t) * 64 + s) * 32 + k) * 32 + n) ((((e' * 3 + t') * 64 + s') * 32 + k') * 32 + n')
all_digits e t s k n e' t' s' k' n' lt ls lk ln lt' ls' lk' ln' =
    more_digits (nat_cmp e e') (nat_cmp t t') (ordering_then (nat_cmp s s') (ordering_then (nat_cmp k k') (ordering_then (nat_cmp n n') Equal))) (nat_cmp (e * 3 + t) (e' * 3 + t')) (digits_3 e e' t t' lt lt')
    ∙ more_digits (nat_cmp (e * 3 + t) (e' * 3 + t')) (nat_cmp s s') (ordering_then (nat_cmp k k') (ordering_then (nat_cmp n n') Equal)) (nat_cmp ((e * 3 + t) * 64 + s) ((e' * 3 + t') * 64 + s')) (digits_64 (e * 3 + t) (e' * 3 + t') s s' ls ls')
    ∙ more_digits (nat_cmp ((e * 3 + t) * 64 + s) ((e' * 3 + t') * 64 + s')) (nat_cmp k k') (ordering_then (nat_cmp n n') Equal) (nat_cmp (((e * 3 + t) * 64 + s) * 32 + k) (((e' * 3 + t') * 64 + s') * 32 + k')) (digits_32 ((e * 3 + t) * 64 + s) ((e' * 3 + t') * 64 + s') k k' lk lk')
    ∙ more_digits (nat_cmp (((e * 3 + t) * 64 + s) * 32 + k) (((e' * 3 + t') * 64 + s') * 32 + k')) (nat_cmp n n') Equal _ (digits_32 (((e * 3 + t) * 64 + s) * 32 + k) (((e' * 3 + t') * 64 + s') * 32 + k') n n' ln ln')
    ∙ then_equal _

pub number_cmp : (v w : Said) → IsSaid v → IsSaid w → words_cmp v w ≡ nat_cmp (words_number v) (words_number w)
unfolding words_number words_cmp
number_cmp v w h k =
    all_digits (end_rank v.end) (took_rank v.took) (took_square v.took) (bits_of v.checks) v.tries (end_rank w.end) (took_rank w.took) (took_square w.took) (bits_of w.checks) w.tries
    (took_below v.took) (square_below v.took h.1) (bits_below v.checks) (omega (arith, h.0))
    (took_below w.took) (square_below w.took k.1) (bits_below w.checks) (omega (arith, k.0))

-- the digits of a number
record Digits (number e t s k n : ℕ) : Type 0 where
  fifth : number / 32 / 32 / 64 / 3 ≡ e
  fourth : number / 32 / 32 / 64 % 3 ≡ t
  third : number / 32 / 32 % 64 ≡ s
  second : number / 32 % 32 ≡ k
  first : number % 32 ≡ n

digits_back : (e t s k n : ℕ) → t < 3 → s < 64 → k < 32 → n < 32 → Digits ((((e * 3 + t) * 64 + s) * 32 + k) * 32 + n) e t s k n
digits_back e t s k n below_3 below_64 below_32 below =
    let a = div-mul-add (((e * 3 + t) * 64 + s) * 32 + k) 32 n below in
    let b = ap (λ x. x / 32) a ∙ div-mul-add ((e * 3 + t) * 64 + s) 32 k below_32 in
    let c = ap (λ x. x / 64) b ∙ div-mul-add (e * 3 + t) 64 s below_64 in
    record {
      fifth = ap (λ x. x / 3) c ∙ div-mul-add e 3 t below_3;
      fourth = ap (λ x. x % 3) c ∙ mod-mul-add e 3 t below_3;
      third = ap (λ x. x % 64) b ∙ mod-mul-add (e * 3 + t) 64 s below_64;
      second = ap (λ x. x % 32) a ∙ mod-mul-add ((e * 3 + t) * 64 + s) 32 k below_32;
      first = mod-mul-add (((e * 3 + t) * 64 + s) * 32 + k) 32 n below;
    }

pub words_back : (w : Said) → IsSaid w → words_at (words_number w) ≡ w
unfolding words_number words_at
words_back w h =
    let d = digits_back (end_rank w.end) (took_rank w.took) (took_square w.took) (bits_of w.checks) w.tries (took_below w.took) (square_below w.took h.1) (bits_below w.checks) (omega (arith, h.0)) in
    let end = ap end_at d.fifth ∙ end_back w.end in
    let took = (λ i. took_at (d.fourth i) (d.third i)) ∙ took_back w.took in
    let checks = ap kinds_at d.second ∙ kinds_back w.checks.knight w.checks.short w.checks.long w.checks.rank w.checks.file in
    λ i. record { end = end i; took = took i; checks = checks i; tries = d.first i }
