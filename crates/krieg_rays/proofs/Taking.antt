-- What a loop finds that takes the squares of a set one after another, and which sets have just one square.
use Rattle.std.proofs.Common.{◌≡◌, ℕ, ◌+◌, ◌-◌, ◌%◌, ◌^◌, ◌<◌, Bool, true, false, not, ◌&&◌, ◌||◌, ◌==◌, ◌⊎◌, inl, inr, refl, sym, ◌∙◌, ap, bit_and, bit_or, ◌≢◌, arith, w64}
use Rattle.std.specs.Int.{trailing_zeros}
use Rattle.std.proofs.lemmas.Nat.{and_le_l}
use Rattle.std.proofs.lemmas.Bool.{and_from, and_parts, and_left, and_right, both_ways, cases_eq, eq-eqb, ne_eqb, or_cases, or_left, or_right, false_from_ne_true, not-true}
use Rattle.std.proofs.Math.Bool.{or_assoc, or-false}
use Rattle.krieg_rays.proofs.Common.{every_square, some_square, has, IsLowest, is_only}
use Rattle.krieg_board.proofs.SquareTests.{every_square_all, every_square_at, some_square_at, some_square_none, some_square_tells}
use Rattle.krieg_board.proofs.SameTests.{same_tests}
use Rattle.krieg_board.proofs.SetLemmas.{has_or, has_zero, has_rest, lowest}

-- some square of a set passes: its lowest, or one of the rest
some_taken : (test : ℕ → Bool) (set t rest : ℕ) → IsLowest set t → ((k : ℕ) → k < 64 → has rest k ≡ (has set k && not (k == t))) →
    (test t || some_square (λ f. has rest f && test f)) ≡ some_square (λ f. has set f && test f)
some_taken test set t rest l others =
    same_tests (test t || some_square (λ f. has rest f && test f)) (some_square (λ f. has set f && test f)) (λ h. in_set (or_cases (test t) (some_square (λ f. has rest f && test f)) h)) (λ h.
    let (f, hf, p) = some_square_tells (λ f. has set f && test f) h in
    let both = and_parts (has set f) (test f) p in
    in_rest f hf both.0 both.1 (cases_eq f t))
  where
    in_set : (test t ≡ true) ⊎ (some_square (λ f. has rest f && test f) ≡ true) → some_square (λ f. has set f && test f) ≡ true
    in_set (inl p) = some_square_at (λ f. has set f && test f) t l.below (and_from (has set t) (test t) l.member p)
    in_set (inr h) =
        let (f, hf, p) = some_square_tells (λ f. has rest f && test f) h in
        let both = and_parts (has rest f) (test f) p in
        let here = and_parts (has set f) (not (f == t)) (sym (others f hf) ∙ both.0) in
        some_square_at (λ f. has set f && test f) f hf (and_from (has set f) (test f) here.0 both.1)

    in_rest : (f : ℕ) → f < 64 → has set f ≡ true → test f ≡ true → (f ≡ t) ⊎ (f ≢ t) → (test t || some_square (λ f. has rest f && test f)) ≡ true
    in_rest f hf here p (inl e) = or_left (test t) (some_square (λ f. has rest f && test f)) (ap test (sym e) ∙ p)
    in_rest f hf here p (inr d) =
        or_right (test t) (some_square (λ f. has rest f && test f))
        (some_square_at (λ f. has rest f && test f) f hf
        (and_from (has rest f) (test f) (others f hf ∙ and_from (has set f) (not (f == t)) here (ap not (ne_eqb f t d))) p))

-- a loop that takes the lowest square of a set, and adds s to what it found where that square passes
pub taken : (test : ℕ → Bool) (found added set t rest s : ℕ) → IsLowest set t → ((k : ℕ) → k < 64 → has rest k ≡ (has set k && not (k == t))) → has added s ≡ test t →
    (has (bit_or found added) s || some_square (λ f. has rest f && test f)) ≡ (has found s || some_square (λ f. has set f && test f))
taken test found added set t rest s l others e =
    (λ i. (has_or found added s ∙ ap (λ x. has found s || x) e) i || some_square (λ f. has rest f && test f))
    ∙ or_assoc (has found s) (test t) (some_square (λ f. has rest f && test f))
    ∙ ap (λ x. has found s || x) (some_taken test set t rest l others)

-- of an empty set no square is left to pass
pub none_left : (test : ℕ → Bool) (x : Bool) (rest : ℕ) → rest ≡ 0 → (x || some_square (λ f. has rest f && test f)) ≡ x
none_left test x rest z =
    ap (λ y. x || y) (some_square_none (λ f. has rest f && test f) (λ k h. and_left (has rest k) (test k) (ap (λ n. has n k) z ∙ has_zero k)))
    ∙ or-false x

-- a number without its lowest bit
without : (n : ℕ) → 0 < n → n < 2 ^ 64 → bit_and n ((n + 18446744073709551615) % 18446744073709551616) ≡ bit_and n (n - 1)
without n pos h = let less : (n + 18446744073709551615) % 18446744073709551616 ≡ n - 1 = omega arith in ap (bit_and n) less

cases_zero : (n : ℕ) → (n ≡ 0) ⊎ (0 < n)
cases_zero n = grind arith

-- a square of the set that is no other than s is s
is_the_one : (n s j : ℕ) → has n j ≡ true → (has n j && not (j == s)) ≡ false → j ≡ s
is_the_one n s j here none = by_place (cases_eq j s)
  where
    by_place : (j ≡ s) ⊎ (j ≢ s) → j ≡ s
    by_place (inl e) = e
    by_place (inr d) = absurd (both_ways (has n j && not (j == s)) none (and_from (has n j) (not (j == s)) here (ap not (ne_eqb j s d))))

-- a set that is empty without its lowest square has no square beside it
only_lowest : (n j : ℕ) → 0 < n → n < 2 ^ 64 → bit_and n (n - 1) ≡ 0 → has n j ≡ true → j ≡ trailing_zeros w64 n
only_lowest n j pos h z here =
    is_the_one n (trailing_zeros w64 n) j here (sym (has_rest n (trailing_zeros w64 n) j pos h (lowest n pos h)) ∙ ap (λ x. has x j) z ∙ has_zero j)

alone_one : (n s : ℕ) → n < 2 ^ 64 → bit_and n ((n + 18446744073709551615) % 18446744073709551616) ≡ 0 → has n s ≡ true → every_square (λ j. not (has n j && not (j == s))) ≡ true
alone_one n s h z here = by_size (cases_zero n)
  where
    by_size : (n ≡ 0) ⊎ (0 < n) → every_square (λ j. not (has n j && not (j == s))) ≡ true
    by_size (inl e) = absurd (both_ways (has n s) (ap (λ n. has n s) e ∙ has_zero s) here)
    by_size (inr pos) =
        let none : bit_and n (n - 1) ≡ 0 = sym (without n pos h) ∙ z in
        every_square_all (λ j. not (has n j && not (j == s))) (λ j hj. ap not (false_from_ne_true (has n j && not (j == s)) (λ both.
        let parts = and_parts (has n j) (not (j == s)) both in
        both_ways (j == s) (not-true (j == s) parts.1) (eq-eqb j s (only_lowest n j pos h none parts.0 ∙ sym (only_lowest n s pos h none here))))))

pub only_one : (n s : ℕ) → n < 2 ^ 64 → bit_and n ((n + 18446744073709551615) % 18446744073709551616) ≡ 0 → has n s ≡ is_only n s
unfolding is_only
only_one n s h z =
    same_tests (has n s) (has n s && every_square (λ j. not (has n j && not (j == s))))
    (λ here. and_from (has n s) (every_square (λ j. not (has n j && not (j == s)))) here (alone_one n s h z here))
    (λ both. (and_parts (has n s) (every_square (λ j. not (has n j && not (j == s)))) both).0)

-- a set that is not empty without its lowest square has no only one
not_alone : (n s : ℕ) → n < 2 ^ 64 → (bit_and n ((n + 18446744073709551615) % 18446744073709551616) ≢ 0) → every_square (λ j. not (has n j && not (j == s))) ≡ true → ⊥
not_alone n s h more alone = by_size (cases_zero n)
  where
    is_s : (j : ℕ) → j < 64 → has n j ≡ true → j ≡ s
    is_s j hj here = is_the_one n s j here (not-true (has n j && not (j == s)) (every_square_at (λ j. not (has n j && not (j == s))) alone j hj))

    by_rest : 0 < n → (bit_and n (n - 1) ≡ 0) ⊎ (0 < bit_and n (n - 1)) → ⊥
    by_rest pos (inl e) = more (without n pos h ∙ e)
    by_rest pos (inr p) =
        let t = trailing_zeros w64 n in
        let u = trailing_zeros w64 (bit_and n (n - 1)) in
        let first = lowest n pos h in
        let next = lowest (bit_and n (n - 1)) p (omega (arith, and_le_l n (n - 1))) in
        let parts = and_parts (has n u) (not (u == t)) (sym (has_rest n t u pos h first) ∙ next.member) in
        both_ways (u == t) (not-true (u == t) parts.1) (eq-eqb u t (is_s u next.below parts.0 ∙ sym (is_s t first.below first.member)))

    by_size : (n ≡ 0) ⊎ (0 < n) → ⊥
    by_size (inl e) = more (zero_and ((n + 18446744073709551615) % 18446744073709551616) e)
      where
        zero_and : (m : ℕ) → n ≡ 0 → bit_and n m ≡ 0
        zero_and m e = omega (arith, and_le_l n m)
    by_size (inr pos) = by_rest pos (cases_zero (bit_and n (n - 1)))

pub not_only_one : (n s : ℕ) → n < 2 ^ 64 → (bit_and n ((n + 18446744073709551615) % 18446744073709551616) ≢ 0) → has 0 s ≡ is_only n s
unfolding is_only
not_only_one n s h more =
    has_zero s ∙ sym (and_right (has n s) (every_square (λ j. not (has n j && not (j == s)))) (false_from_ne_true (every_square (λ j. not (has n j && not (j == s)))) (not_alone n s h more)))

-- a loop begins with no square found
pub none_found : (x : Bool) (s : ℕ) → (has 0 s || x) ≡ x
none_found x s = ap (λ y. y || x) (has_zero s)

-- a loop keeps the lowest square of those that are left, where it passes
pub kept_more : (test : ℕ → Bool) (safe n rest less s t : ℕ) (here : Bool) → IsLowest rest s → t < 64 → ((j : ℕ) → j < 64 → has less j ≡ (has rest j && not (j == s))) →
    here ≡ test s → has n t ≡ (here && t == s) → (has (bit_or safe n) t || (has less t && test t)) ≡ (has safe t || (has rest t && test t))
kept_more test safe n rest less s t here l ht others eh en =
    (λ i. (has_or safe n t ∙ ap (λ x. has safe t || x) en) i || (others t ht i && test t))
    ∙ by_place (cases_eq t s)
  where
    same : (a r h x e : Bool) → e ≡ true → r ≡ true → h ≡ x → ((a || (h && e)) || ((r && not e) && x)) ≡ (a || (r && x))
    same true r h x true p q z = refl
    same false true true true true p q z = refl
    same false true false false true p q z = refl
    same false true true false true p q z = cc
    same false true false true true p q z = cc
    same a false h x e p q z = cc
    same a r h x false p q z = cc

    apart : (a r h x e : Bool) → e ≡ false → ((a || (h && e)) || ((r && not e) && x)) ≡ (a || (r && x))
    apart true r h x false p = refl
    apart false true true x false p = refl
    apart false true false x false p = refl
    apart false false true x false p = refl
    apart false false false x false p = refl
    apart a r h x true p = cc

    by_place : (t ≡ s) ⊎ (t ≢ s) → ((has safe t || (here && t == s)) || ((has rest t && not (t == s)) && test t)) ≡ (has safe t || (has rest t && test t))
    by_place (inl e) = same (has safe t) (has rest t) here (test t) (t == s) (eq-eqb t s e) (ap (has rest) e ∙ l.member) (eh ∙ ap test (sym e))
    by_place (inr n) = apart (has safe t) (has rest t) here (test t) (t == s) (ne_eqb t s n)

-- and ends when none is left
pub kept_all : (test : ℕ → Bool) (safe rest t : ℕ) → rest ≡ 0 → (has safe t || (has rest t && test t)) ≡ has safe t
kept_all test safe rest t z = ap (λ x. has safe t || (x && test t)) (ap (λ n. has n t) z ∙ has_zero t) ∙ or-false (has safe t)
