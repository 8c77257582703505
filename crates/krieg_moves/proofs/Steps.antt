-- Where a pawn steps, by sets, and a clear way, by the squares between.
use Rattle.std.proofs.Common.{◌≡◌, ℕ, ◌<◌, Bool, true, false, not, ◌&&◌, ◌||◌, ◌==◌, refl, sym, ◌∙◌, ap}
use Rattle.std.proofs.Math.Bool.{and-false}
use Rattle.std.specs.Prelude.{Option, Some, None, is_some, is_none}
use Rattle.std.proofs.lemmas.Bool.{and_parts, eqb-true, and_right}
use Rattle.krieg_moves.proofs.Common.{Side, White, Black, Man, squares, every_square, file_of, rank_of, pawn_rank, landing_rank, Board, man_at, is_forward, is_ahead, crossed, is_step, is_double_step, plain_move}
use Rattle.krieg_board.proofs.SquareTests.{every_square_at}

-- one step from the rank where pawns begin leads to the square that is crossed in two
unfoldable steps_to_crossed : Side → Bool
steps_to_crossed side = every_square (λ f. every_square (λ t. not (rank_of f == pawn_rank side && (file_of f == file_of t && is_forward side f t)) || t == crossed side f))

white_steps : steps_to_crossed White ≡ true
unfolding steps_to_crossed every_square squares
white_steps = refl

black_steps : steps_to_crossed Black ≡ true
unfolding steps_to_crossed every_square squares
black_steps = refl

steps_by : (side : Side) → steps_to_crossed side ≡ true
steps_by White = white_steps
steps_by Black = black_steps

crossed_first : (side : Side) (f t : ℕ) → f < 64 → t < 64 → (rank_of f == pawn_rank side) ≡ true → (file_of f == file_of t && is_forward side f t) ≡ true → t ≡ crossed side f
unfolding steps_to_crossed
crossed_first side f t hf ht r s =
    eqb-true t (crossed side f)
    (second (rank_of f == pawn_rank side) (file_of f == file_of t && is_forward side f t) (t == crossed side f) r s
    (every_square_at (λ t. not (rank_of f == pawn_rank side && (file_of f == file_of t && is_forward side f t)) || t == crossed side f)
    (every_square_at (λ f. every_square (λ t. not (rank_of f == pawn_rank side && (file_of f == file_of t && is_forward side f t)) || t == crossed side f)) (steps_by side) f hf) t ht))
  where
    second : (a b x : Bool) → a ≡ true → b ≡ true → (not (a && b) || x) ≡ true → x ≡ true
    second true true x p q h = h
    second true false x p q h = cc
    second false b x p q h = cc

none_not_some : (x : Option Man) → is_none x ≡ not (is_some x)
none_not_some None = refl
none_not_some (Some x) = refl

-- a pawn steps to the empty squares ahead of it, where nobody stands in front of it on the rank where pawns begin
pub steps_ahead : (b : Board) (side : Side) (f t : ℕ) → f < 64 → t < 64 → (rank_of f == pawn_rank side && is_some (man_at b (crossed side f))) ≡ false →
    (is_ahead side f t && not (is_some (man_at b t))) ≡ (is_step b side (plain_move f t) || is_double_step b side (plain_move f t))
unfolding is_ahead
steps_ahead b side f t hf ht open_way =
    joined (file_of f == file_of t) (is_forward side f t) (rank_of f == pawn_rank side) (rank_of t == landing_rank side) (is_some (man_at b t)) (is_some (man_at b (crossed side f)))
    (is_none (man_at b t)) (is_none (man_at b (crossed side f))) open_way (none_not_some (man_at b t)) (none_not_some (man_at b (crossed side f)))
  where
    joined : (file forward begin land there front free clear : Bool) → (begin && front) ≡ false → free ≡ not there → clear ≡ not front →
        ((file && (forward || (begin && land))) && not there) ≡ ((file && (forward && free)) || (file && (begin && (land && (clear && free)))))
    joined false forward begin land there front free clear o p q = refl
    joined true true begin land true front free clear o p q = sym (ap (λ x. x || (begin && (land && (clear && x)))) p ∙ no_way begin land clear)
      where
        no_way : (a b c : Bool) → (a && (b && (c && false))) ≡ false
        no_way a b c = and_right a (b && (c && false)) (and_right b (c && false) (and-false c))
    joined true true begin land false front free clear o p q = sym (ap (λ x. x || (begin && (land && (clear && x)))) p)
    joined true false true true there true free clear o p q = cc
    joined true false true true there false free clear o p q = sym ((λ i. q i && p i))
    joined true false true false there front free clear o p q = refl
    joined true false false land there front free clear o p q = refl

-- nobody steps over a man
pub steps_blocked : (b : Board) (side : Side) (f t : ℕ) → f < 64 → t < 64 → (rank_of f == pawn_rank side && is_some (man_at b (crossed side f))) ≡ true →
    false ≡ (is_step b side (plain_move f t) || is_double_step b side (plain_move f t))
steps_blocked b side f t hf ht blocked =
    let r = and_parts (rank_of f == pawn_rank side) (is_some (man_at b (crossed side f))) blocked in
    sym (neither (file_of f == file_of t) (is_forward side f t) (is_none (man_at b t)) (rank_of f == pawn_rank side) (rank_of t == landing_rank side) (is_none (man_at b (crossed side f)))
    (none_not_some (man_at b (crossed side f)) ∙ ap not r.1)
    (λ s. none_not_some (man_at b t) ∙ ap not (ap (λ x. is_some (man_at b x)) (crossed_first side f t hf ht r.0 s) ∙ r.1)))
  where
    no_way : (a b : Bool) → (a && (b && false)) ≡ false
    no_way a b = and_right a (b && false) (and-false b)

    neither : (file forward free begin land clear : Bool) → clear ≡ false → ((file && forward) ≡ true → free ≡ false) →
        ((file && (forward && free)) || (file && (begin && (land && (clear && free))))) ≡ false
    neither false forward free begin land clear c n = refl
    neither true true free begin land clear c n = (λ i. n refl i || (begin && (land && (c i && free)))) ∙ no_way begin land
    neither true false free begin land clear c n = ap (λ x. begin && (land && (x && free))) c ∙ no_way begin land
