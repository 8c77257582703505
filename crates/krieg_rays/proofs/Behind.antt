-- What a side's men attack behind a move: those who stay, and the man who has moved.
use Rattle.std.proofs.Common.{◌≡◌, ◌≢◌, ℕ, ◌<◌, Bool, true, not, ◌&&◌, ◌||◌, ◌==◌, ◌⊎◌, inl, inr, refl, sym, ◌∙◌, ap, set, length}
use Rattle.std.specs.Prelude.{Some, None, is_some}
use Rattle.std.proofs.lemmas.Bool.{cases_eq, or_cases, or_left, or_right, and_parts, and_from, eq-eqb, ne_eqb}
use Rattle.std.proofs.Math.Bool.{or-false, and-false, and-true}
use Rattle.std.proofs.lemmas.List.{get_or-set_same, get_or-set_other}
use Rattle.krieg_rays.proofs.Common.{has, some_square, Board, man_at, is_of, attacks, man_attacks, is_attacked, Man, reaches}
use Rattle.krieg_board.proofs.MenLemmas.{same_side_self}
use Rattle.krieg_board.proofs.SameTests.{same_tests, some_square_same}
use Rattle.krieg_board.proofs.SquareTests.{some_square_at, some_square_tells}
use Rattle.krieg_rays.proofs.Attacking.{IsOccupied, attack_there, reaches_attacks}

-- some square passes a test, or the one square another
some_or_one : (test : ℕ → Bool) (y : Bool) (t : ℕ) → t < 64 → (some_square test || y) ≡ some_square (λ f. test f || (f == t && y))
some_or_one test y t inside = same_tests (some_square test || y) (some_square both) (λ h. to (or_cases (some_square test) y h)) (λ h.
    let (f, hf, e) = some_square_tells both h in
    from f hf (or_cases (test f) (f == t && y) e))
  where
    both : ℕ → Bool
    both f = test f || (f == t && y)

    to : (some_square test ≡ true) ⊎ (y ≡ true) → some_square both ≡ true
    to (inl h) = let (f, hf, e) = some_square_tells test h in some_square_at both f hf (or_left (test f) (f == t && y) e)
    to (inr h) = some_square_at both t inside (or_right (test t) (t == t && y) (and_from (t == t) y (eq-eqb t t refl) h))

    from : (f : ℕ) → f < 64 → (test f ≡ true) ⊎ ((f == t && y) ≡ true) → (some_square test || y) ≡ true
    from f hf (inl e) = or_left (some_square test) y (some_square_at test f hf e)
    from f hf (inr e) = or_right (some_square test) y (and_parts (f == t) y e).1

-- a man has come to a square of the board `c`; on `b` the others stand where they stand there
module _ (b c : Board) (man : Man) (to : ℕ) (size : to < length c) (inside : to < 64)
    (rest occupied others squares : ℕ)
    (are_rest : (f : ℕ) → f < 64 → has rest f ≡ (has others f && not (f == to)))
    (are_others : (f : ℕ) → f < 64 → has others f ≡ is_of man.side (man_at c f))
    (stood : (f : ℕ) → is_of man.side (man_at c f) ≡ true → man_at b f ≡ man_at c f)
    (are_squares : (f : ℕ) → f < 64 → has squares f ≡ is_some (man_at c f))
    (are_occupied : (f : ℕ) → f < 64 → has occupied f ≡ (has squares f || f == to)) where
  abbrev come : Board
  come = set c to (Some man)

  there : man_at come to ≡ Some man
  there = get_or-set_same c to (Some man) None size

  elsewhere : (f : ℕ) → f ≢ to → man_at come f ≡ man_at c f
  elsewhere f off = get_or-set_other c to f (Some man) None off

  occupied_is : IsOccupied occupied come
  occupied_is j hj = are_occupied j hj ∙ ap (λ x. x || j == to) (are_squares j hj) ∙ by_place (cases_eq j to)
    where
      by_place : (j ≡ to) ⊎ (j ≢ to) → (is_some (man_at c j) || j == to) ≡ is_some (man_at come j)
      by_place (inl e) = or_right (is_some (man_at c j)) (j == to) (eq-eqb j to e) ∙ sym (ap (λ s. is_some (man_at come s)) e ∙ ap is_some there)
      by_place (inr off) = ap (λ x. is_some (man_at c j) || x) (ne_eqb j to off) ∙ or-false (is_some (man_at c j)) ∙ sym (ap is_some (elsewhere j off))

  mover : (k : ℕ) → attacks come to k ≡ reaches occupied (Some man) to k
  unfolding attacks
  mover k = ap (λ x. man_attacks come x to k) there ∙ sym (reaches_attacks come occupied (Some man) to k occupied_is)

  each : (k f : ℕ) → f < 64 → ((has rest f && reaches occupied (man_at b f) f k) || (f == to && reaches occupied (Some man) to k)) ≡ (is_of man.side (man_at come f) && attacks come f k)
  each k f hf = by_place (cases_eq f to)
    where
      by_place : (f ≡ to) ⊎ (f ≢ to) → ((has rest f && reaches occupied (man_at b f) f k) || (f == to && reaches occupied (Some man) to k)) ≡ (is_of man.side (man_at come f) && attacks come f k)
      by_place (inl e) =
          (λ i. ((are_rest f hf ∙ ap (λ x. has others f && not x) (eq-eqb f to e) ∙ and-false (has others f)) i && reaches occupied (man_at b f) f k) || (eq-eqb f to e i && reaches occupied (Some man) to k))
          ∙ sym (ap (λ s. is_of man.side (man_at come s) && attacks come s k) e ∙ (λ i. (ap (is_of man.side) there ∙ same_side_self man.side) i && mover k i))
      by_place (inr off) =
          (λ i. (has rest f && reaches occupied (man_at b f) f k) || (ne_eqb f to off i && reaches occupied (Some man) to k))
          ∙ or-false (has rest f && reaches occupied (man_at b f) f k)
          ∙ attack_there b come man.side rest occupied f k occupied_is
          (are_rest f hf ∙ ap (λ x. has others f && not x) (ne_eqb f to off) ∙ and-true (has others f) ∙ are_others f hf ∙ ap (is_of man.side) (sym (elsewhere f off)))
          (λ own. stood f (ap (is_of man.side) (sym (elsewhere f off)) ∙ own) ∙ sym (elsewhere f off))

  -- the squares that those who stay attack, and those that the man does
  pub attacked_behind : (k : ℕ) → (some_square (λ f. has rest f && reaches occupied (man_at b f) f k) || reaches occupied (Some man) to k) ≡ is_attacked (set c to (Some man)) k man.side
  unfolding is_attacked
  attacked_behind k =
      some_or_one (λ f. has rest f && reaches occupied (man_at b f) f k) (reaches occupied (Some man) to k) to inside
      ∙ some_square_same _ _ (each k)
