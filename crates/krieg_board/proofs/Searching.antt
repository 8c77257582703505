-- A square of a set that passes a test is looked for from the lowest square on: a man who attacks, or who stands in the way.
use Rattle.std.proofs.Common.{◌≡◌, ℕ, ◌<◌, Bool, true, false, not, ◌&&◌, ◌==◌, ◌⊎◌, inl, inr, ◌≢◌, sym, ◌∙◌, ap}
use Rattle.std.specs.Prelude.{is_some}
use Rattle.std.proofs.Math.Bool.{and-true, and_comm}
use Rattle.std.proofs.lemmas.Bool.{and_from, and_right, cases_eq, ne_eqb}
use Rattle.krieg_board.proofs.Common.{Side, some_square, Board, man_at, is_of, attacks, is_attacked, is_between, is_clear, has, IsLowest}
use Rattle.krieg_board.proofs.SetLemmas.{has_zero}
use Rattle.krieg_board.proofs.SquareTests.{some_square_at, some_square_none}
use Rattle.krieg_board.proofs.SameTests.{some_square_same, no_square}

-- some square of the set passes
unfoldable pub some_of : (ℕ → Bool) → ℕ → Bool
some_of test n = some_square (λ k. has n k && test k)

pub some_of_zero : (test : ℕ → Bool) (n : ℕ) → n ≡ 0 → some_of test n ≡ false
unfolding some_of
some_of_zero test n z = some_square_none (λ k. has n k && test k) (λ k l. ap (λ x. x && test k) (ap (λ n. has n k) z ∙ has_zero k))

pub some_of_found : (test : ℕ → Bool) (n t : ℕ) → IsLowest n t → test t ≡ true → some_of test n ≡ true
unfolding some_of
some_of_found test n t l e = some_square_at (λ k. has n k && test k) t l.below (and_from (has n t) (test t) l.member e)

-- a square that fails is left out
pub some_of_rest : (test : ℕ → Bool) (n t rest : ℕ) → test t ≡ false → ((k : ℕ) → k < 64 → has rest k ≡ (has n k && not (k == t))) → some_of test rest ≡ some_of test n
unfolding some_of
some_of_rest test n t rest e others =
    some_square_same (λ k. has rest k && test k) (λ k. has n k && test k) (λ k h. ap (λ x. x && test k) (others k h) ∙ by_place k (cases_eq k t))
  where
    by_place : (k : ℕ) → (k ≡ t) ⊎ (k ≢ t) → ((has n k && not (k == t)) && test k) ≡ (has n k && test k)
    by_place k (inl p) = and_right (has n k && not (k == t)) (test k) (ap test p ∙ e) ∙ sym (and_right (has n k) (test k) (ap test p ∙ e))
    by_place k (inr p) = ap (λ x. (has n k && not x) && test k) (ne_eqb k t p) ∙ ap (λ x. x && test k) (and-true (has n k))

-- a way is clear where no man stands between its ends
pub clear_way : (b : Board) (f t n : ℕ) → ((k : ℕ) → k < 64 → has n k ≡ is_some (man_at b k)) → not (some_of (is_between f t) n) ≡ is_clear b f t
unfolding is_clear some_of
clear_way b f t n e =
    ap not (some_square_same (λ k. has n k && is_between f t k) (λ k. is_between f t k && is_some (man_at b k))
    (λ k h. ap (λ x. x && is_between f t k) (e k h) ∙ and_comm (is_some (man_at b k)) (is_between f t k)))
    ∙ no_square (λ k. is_between f t k && is_some (man_at b k))

-- a square is attacked where one of the men of that side attacks it
pub attacked_way : (b : Board) (s : ℕ) (by : Side) (n : ℕ) → ((k : ℕ) → k < 64 → has n k ≡ is_of by (man_at b k)) → some_of (λ f. attacks b f s) n ≡ is_attacked b s by
unfolding is_attacked some_of
attacked_way b s by n e =
    some_square_same (λ k. has n k && attacks b k s) (λ k. is_of by (man_at b k) && attacks b k s) (λ k h. ap (λ x. x && attacks b k s) (e k h))
