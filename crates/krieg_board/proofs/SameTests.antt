-- Tests over the 64 squares that agree at each square agree.
use Rattle.std.proofs.Common.{◌≡◌, ℕ, ◌<◌, Bool, true, false, not, ◌&&◌, refl, sym, ◌∙◌, ap}
use Rattle.std.proofs.lemmas.Bool.{and_from, and_parts, both_ways, false_from_ne_true, not-true}
use Rattle.krieg_board.proofs.Common.{is_same_bool, some_square, every_square}
use Rattle.krieg_board.proofs.SquareTests.{some_square_at, some_square_none, some_square_tells, every_square_all, every_square_at}

-- tests that lead to each other are one
pub same_tests : (a b : Bool) → (a ≡ true → b ≡ true) → (b ≡ true → a ≡ true) → a ≡ b
same_tests true b f g = sym (f refl)
same_tests false true f g = g refl
same_tests false false f g = refl

pub same_bool_eq : (a b : Bool) → is_same_bool a b ≡ true → a ≡ b
same_bool_eq true true h = refl
same_bool_eq false false h = refl
same_bool_eq true false h = cc
same_bool_eq false true h = cc

pub every_square_same : (p q : ℕ → Bool) → ((k : ℕ) → k < 64 → p k ≡ q k) → every_square p ≡ every_square q
every_square_same p q e =
    same_tests (every_square p) (every_square q)
    (λ h. every_square_all q (λ k l. sym (e k l) ∙ every_square_at p h k l))
    (λ h. every_square_all p (λ k l. e k l ∙ every_square_at q h k l))

pub every_square_both : (p q : ℕ → Bool) → (every_square p && every_square q) ≡ every_square (λ k. p k && q k)
every_square_both p q =
    same_tests (every_square p && every_square q) (every_square (λ k. p k && q k))
    (λ h. let r = and_parts (every_square p) (every_square q) h in
    every_square_all (λ k. p k && q k) (λ k l. and_from (p k) (q k) (every_square_at p r.0 k l) (every_square_at q r.1 k l)))
    (λ h. and_from (every_square p) (every_square q)
    (every_square_all p (λ k l. (and_parts (p k) (q k) (every_square_at (λ k. p k && q k) h k l)).0))
    (every_square_all q (λ k l. (and_parts (p k) (q k) (every_square_at (λ k. p k && q k) h k l)).1)))

pub some_square_same : (p q : ℕ → Bool) → ((k : ℕ) → k < 64 → p k ≡ q k) → some_square p ≡ some_square q
some_square_same p q e =
    same_tests (some_square p) (some_square q)
    (λ h. let (k, l, t) = some_square_tells p h in some_square_at q k l (sym (e k l) ∙ t))
    (λ h. let (k, l, t) = some_square_tells q h in some_square_at p k l (e k l ∙ t))

-- no square passes where each fails
pub no_square : (test : ℕ → Bool) → not (some_square test) ≡ every_square (λ k. not (test k))
no_square test =
    same_tests (not (some_square test)) (every_square (λ k. not (test k)))
    (λ h. every_square_all (λ k. not (test k)) (λ k l. ap not (false_from_ne_true (test k) (λ t. both_ways (some_square test) (not-true (some_square test) h) (some_square_at test k l t)))))
    (λ h. ap not (some_square_none test (λ k l. not-true (test k) (every_square_at (λ k. not (test k)) h k l))))
