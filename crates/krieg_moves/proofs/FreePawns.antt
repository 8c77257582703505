-- The ways of a pawn of which no move needs to be made: to each square there is at most one, so they may be counted direction by direction.
use Rattle.std.proofs.Common.{◌≡◌, ℕ, zero, suc, ◌+◌, ◌*◌, ◌^◌, ◌<◌, ◌≤◌, Bool, true, false, not, ◌&&◌, ◌||◌, ◌==◌, cond, ◌⊎◌, inl, inr, refl, sym, ◌∙◌, ap, arith, nat_lt, set, bit_and, List, [], length, length-append}
use Rattle.std.proofs.Math.Bool.{and-false, or-false}
use Rattle.std.proofs.lemmas.Bool.{cases_lt, lt-ltb, le-ltb, eqb-true, eq-eqb, ne_eqb}
use Rattle.std.proofs.lemmas.Nat.Bits.{bit_at_above}
use Rattle.krieg_moves.proofs.Common.{Side, White, Black, Pawn, other, squares, every_square, file_of, rank_of, pawn_rank, landing_rank, gathered, last_rank, is_forward, attacks, Board, man_at, is_empty, is_of, has, squares_where, goes, crossed, is_marked, is_step, is_double_step, is_legal, plain_move, can_go, promotes, moves_from, moves_of, ahead, two_ahead, ahead_west, ahead_east, one_if, total, ways_from, ways, Pos, IsValid, IsGuard, is_answered, Guard, IsFreePawn}
use Rattle.krieg_board.proofs.SetLemmas.{has_no_bit, has_and}
use Rattle.krieg_rays.proofs.Entries.{agree, agree_at}
use Rattle.std.specs.Prelude.{None}
use Rattle.std.specs.List.{filter}
use Rattle.std.proofs.lemmas.Nat.{and_le_l}
use Rattle.krieg_board.proofs.BoardSets.{has_squares_where, squares_where_small}
use Rattle.krieg_rays.proofs.Attacking.{pawn_from}
use Rattle.krieg_moves.proofs.Counting.{counted_from}
use Rattle.krieg_moves.proofs.Going.{attacks_is}
use Rattle.krieg_moves.proofs.PawnGoing.{forward_or_captures, free_answered}
use Rattle.krieg_moves.proofs.PawnWays.{begins_below, size_total, total_of_four}
use Rattle.krieg_moves.proofs.Shapes.{found_man}

-- straight ahead by one square
step_squares : (side : Side) → agree (λ k t. file_of k == file_of t && is_forward side k t) (λ k t. t == ahead side k) ≡ true
unfolding agree every_square squares
step_squares White = refl
step_squares Black = refl

-- and by two, from the rank where pawns begin
double_squares : (side : Side) → agree (λ k t. file_of k == file_of t && (rank_of k == pawn_rank side && rank_of t == landing_rank side)) (λ k t. t == two_ahead side k) ≡ true
unfolding agree every_square squares
double_squares White = refl
double_squares Black = refl

-- to either side
capture_squares : (side : Side) → agree (goes Pawn side) (λ k t. t == ahead_west side k || t == ahead_east side k) ≡ true
unfolding agree every_square squares goes
capture_squares White = refl
capture_squares Black = refl

-- the square between the two of a double step is the next one ahead
over : (side : Side) → agree (λ k t. t == two_ahead side k) (λ k t. t == two_ahead side k && crossed side k == ahead side k) ≡ true
unfolding agree every_square squares
over White = refl
over Black = refl

abbrev at_most_one : Bool → Bool → Bool → Bool → Bool
at_most_one true b c d = not (b || (c || d))
at_most_one false true c d = not (c || d)
at_most_one false false true d = not d
at_most_one false false false d = true

-- no two directions lead to one square
apart : (side : Side) → agree (λ k t. at_most_one (t == ahead side k) (t == two_ahead side k) (t == ahead_west side k) (t == ahead_east side k)) (λ k t. true) ≡ true
unfolding agree every_square squares
apart White = refl
apart Black = refl

-- a test that holds on one square alone, counted over all squares
total_at : (q : ℕ → Bool) (d n : ℕ) → total (λ t. one_if (t == d && q t)) n ≡ one_if (nat_lt d n && q d)
total_at q d zero = sym (ap (λ x. one_if (x && q d)) (le-ltb d 0 (omega arith)))
total_at q d (suc n) = by_place (total_at q d n) (cases_lt n d) (cases_lt d n)
  where
    last : (x : Bool) → (n == d) ≡ x → one_if (n == d && q n) ≡ one_if (x && q n)
    last x e = ap (λ x. one_if (x && q n)) e

    up_to : (j : ℕ) (x : Bool) → nat_lt d j ≡ x → one_if (nat_lt d j && q d) ≡ one_if (x && q d)
    up_to j x e = ap (λ x. one_if (x && q d)) e

    by_place : total (λ t. one_if (t == d && q t)) n ≡ one_if (nat_lt d n && q d) → (n < d) ⊎ (d ≤ n) → (d < n) ⊎ (n ≤ d) → total (λ t. one_if (t == d && q t)) n + one_if (n == d && q n) ≡ one_if (nat_lt d (suc n) && q d)
    by_place before (inl l) m =
        omega (arith, before, last false (ne_eqb n d (λ e. omega arith)), up_to n false (le-ltb d n (omega arith)), up_to (suc n) false (le-ltb d (suc n) (omega arith)))
    by_place before (inr l) (inl m) =
        omega (arith, before, last false (ne_eqb n d (λ e. omega arith)), up_to n true (lt-ltb d n m), up_to (suc n) true (lt-ltb d (suc n) (omega arith)))
    by_place before (inr l) (inr m) =
        let same : n ≡ d = omega arith in
        omega (
          arith,
          before,
          last true (eq-eqb n d same),
          up_to n false (le-ltb d n (omega arith)),
          up_to (suc n) true (lt-ltb d (suc n) (omega arith)),
          ap (λ s. one_if (q s)) same,
        )

-- a place off the board belongs to no set
inside : (n d : ℕ) → n < 2 ^ 64 → (nat_lt d 64 && has n d) ≡ has n d
inside n d small = by_place (cases_lt d 64)
  where
    by_place : (d < 64) ⊎ (64 ≤ d) → (nat_lt d 64 && has n d) ≡ has n d
    by_place (inl l) = ap (λ x. x && has n d) (lt-ltb d 64 l)
    by_place (inr l) = ap (λ x. x && has n d) (le-ltb d 64 l) ∙ sym (has_no_bit n d (bit_at_above n 64 d small l))

-- one way at most: ahead (a), two ahead (b) over an empty square (n), west (c) or east (d), where the square is empty (m) or an enemy's (f), and answers (x)
one_way : (a b c d m n f x : Bool) → at_most_one a b c d ≡ true →
    one_if ((((a && m) || (b && (n && m))) && x) || (((c || d) && f) && x)) ≡ one_if (a && (m && x)) + one_if (b && (n && (m && x))) + one_if (c && (f && x)) + one_if (d && (f && x))
one_way true true c d m n f x h = cc
one_way true false true d m n f x h = cc
one_way true false false true m n f x h = cc
one_way true false false false true n f true h = refl
one_way true false false false true n f false h = refl
one_way true false false false false n f true h = refl
one_way true false false false false n f false h = refl
one_way false true true d m n f x h = cc
one_way false true false true m n f x h = cc
one_way false true false false true true f true h = refl
one_way false true false false true true f false h = refl
one_way false true false false false true f true h = refl
one_way false true false false false true f false h = refl
one_way false true false false true false f true h = refl
one_way false true false false true false f false h = refl
one_way false true false false false false f true h = refl
one_way false true false false false false f false h = refl
one_way false false true true m n f x h = cc
one_way false false true false m n true true h = refl
one_way false false true false m n true false h = refl
one_way false false true false m n false true h = refl
one_way false false true false m n false false h = refl
one_way false false false true m n true true h = refl
one_way false false false true m n true false h = refl
one_way false false false true m n false true h = refl
one_way false false false true m n false false h = refl
one_way false false false false m n f x h = refl

step_is : (side : Side) (b : Board) (k t : ℕ) → k < 64 → t < 64 → is_step b side (plain_move k t) ≡ (t == ahead side k && is_empty b t)
step_is side b k t hk ht =
    sym (joined (file_of k == file_of t) (is_forward side k t) (is_empty b t))
    ∙ ap (λ x. x && is_empty b t) (agree_at (λ k t. file_of k == file_of t && is_forward side k t) (λ k t. t == ahead side k) (step_squares side) k t hk ht)
  where
    joined : (x y z : Bool) → ((x && y) && z) ≡ (x && (y && z))
    joined true y z = refl
    joined false y z = refl

double_is : (side : Side) (b : Board) (k t : ℕ) → k < 64 → t < 64 → is_double_step b side (plain_move k t) ≡ (t == two_ahead side k && (is_empty b (ahead side k) && is_empty b t))
double_is side b k t hk ht =
    sym (joined (file_of k == file_of t) (rank_of k == pawn_rank side) (rank_of t == landing_rank side) (is_empty b (crossed side k) && is_empty b t))
    ∙ ap (λ x. x && (is_empty b (crossed side k) && is_empty b t))
    (agree_at (λ k t. file_of k == file_of t && (rank_of k == pawn_rank side && rank_of t == landing_rank side)) (λ k t. t == two_ahead side k) (double_squares side) k t hk ht)
    ∙ by_square (t == two_ahead side k) (crossed side k == ahead side k) refl (agree_at (λ k t. t == two_ahead side k) (λ k t. t == two_ahead side k && crossed side k == ahead side k) (over side) k t hk ht)
  where
    joined : (x y z w : Bool) → ((x && (y && z)) && w) ≡ (x && (y && (z && w)))
    joined true true z w = refl
    joined true false z w = refl
    joined false y z w = refl

    by_square : (here same : Bool) → (crossed side k == ahead side k) ≡ same → here ≡ (here && same) →
        (here && (is_empty b (crossed side k) && is_empty b t)) ≡ (here && (is_empty b (ahead side k) && is_empty b t))
    by_square true true e h = ap (λ s. is_empty b s && is_empty b t) (eqb-true (crossed side k) (ahead side k) e)
    by_square true false e h = cc
    by_square false same e h = refl

-- the squares where a pawn goes, by what it may do and by where checks are answered, as the ways that it has
pub ways_counted : (side : Side) (b : Board) (empty steps captures k : ℕ) (go answer : ℕ → Bool) → k < 64 → steps < 2 ^ 64 → captures < 2 ^ 64 →
    ((t : ℕ) → t < 64 → go t ≡ (((is_step b side (plain_move k t) || is_double_step b side (plain_move k t)) && answer t) || ((goes Pawn side k t && is_of (other side) (man_at b t)) && answer t))) →
    ((t : ℕ) → t < 64 → has empty t ≡ is_empty b t) →
    ((t : ℕ) → t < 64 → has steps t ≡ (is_empty b t && answer t)) →
    ((t : ℕ) → t < 64 → has captures t ≡ (is_of (other side) (man_at b t) && answer t)) →
    total (λ t. one_if (go t)) 64 ≡ ways_from side empty steps captures k
ways_counted side b empty steps captures k go answer hk small fewer gone emptied stepped captured =
    total_of_four (λ t. one_if (go t)) (λ t. one_if (t == ahead side k && has steps t)) (λ t. one_if (t == two_ahead side k && (has empty (ahead side k) && has steps t)))
    (λ t. one_if (t == ahead_west side k && has captures t)) (λ t. one_if (t == ahead_east side k && has captures t)) 64 at
    ∙ (λ i. (total_at (has steps) (ahead side k) 64 ∙ ap one_if (inside steps (ahead side k) small)) i
    + (total_at (λ t. has empty (ahead side k) && has steps t) (two_ahead side k) 64 ∙ ap one_if (both_inside (has empty (ahead side k)))) i
    + (total_at (has captures) (ahead_west side k) 64 ∙ ap one_if (inside captures (ahead_west side k) fewer)) i
    + (total_at (has captures) (ahead_east side k) 64 ∙ ap one_if (inside captures (ahead_east side k) fewer)) i)
  where
    both_inside : (x : Bool) → (nat_lt (two_ahead side k) 64 && (x && has steps (two_ahead side k))) ≡ (x && has steps (two_ahead side k))
    both_inside true = inside steps (two_ahead side k) small
    both_inside false = and-false (nat_lt (two_ahead side k) 64)

    over_empty : (t : ℕ) (z : Bool) → t < 64 → (t == two_ahead side k && (is_empty b (ahead side k) && z)) ≡ (t == two_ahead side k && (has empty (ahead side k) && z))
    over_empty t z h = by_rank (rank_of k == pawn_rank side) refl
      where
        by_rank : (begins : Bool) → (rank_of k == pawn_rank side) ≡ begins →
            (t == cond begins (ahead side (ahead side k)) 64 && (is_empty b (ahead side k) && z)) ≡ (t == cond begins (ahead side (ahead side k)) 64 && (has empty (ahead side k) && z))
        by_rank true e = ap (λ x. t == ahead side (ahead side k) && (x && z)) (sym (emptied (ahead side k) (begins_below side k hk e)))
        by_rank false e =
            let off = ne_eqb t 64 (λ e. omega arith) in
            ap (λ x. x && (is_empty b (ahead side k) && z)) off ∙ sym (ap (λ x. x && (has empty (ahead side k) && z)) off)

    at : (t : ℕ) → t < 64 →
        one_if (go t)
        ≡ one_if (t == ahead side k && has steps t) + one_if (t == two_ahead side k && (has empty (ahead side k) && has steps t))
        + one_if (t == ahead_west side k && has captures t) + one_if (t == ahead_east side k && has captures t)
    at t h =
        ap one_if (gone t h)
        ∙ (λ i. one_if (((step_is side b k t hk h i || double_is side b k t hk h i) && answer t)
        || ((agree_at (goes Pawn side) (λ k t. t == ahead_west side k || t == ahead_east side k) (capture_squares side) k t hk h i && is_of (other side) (man_at b t)) && answer t)))
        ∙ one_way (t == ahead side k) (t == two_ahead side k) (t == ahead_west side k) (t == ahead_east side k) (is_empty b t) (is_empty b (ahead side k)) (is_of (other side) (man_at b t)) (answer t)
        (agree_at (λ k t. at_most_one (t == ahead side k) (t == two_ahead side k) (t == ahead_west side k) (t == ahead_east side k)) (λ k t. true) (apart side) k t hk h)
        ∙ (λ i. one_if (t == ahead side k && stepped' t h i) + one_if ((over_empty t (is_empty b t && answer t) h ∙ ap (λ x. t == two_ahead side k && (has empty (ahead side k) && x)) (stepped' t h)) i)
        + one_if (t == ahead_west side k && captured' t h i) + one_if (t == ahead_east side k && captured' t h i))
      where
        stepped' : (t : ℕ) → t < 64 → (is_empty b t && answer t) ≡ has steps t
        stepped' t h = sym (stepped t h)

        captured' : (t : ℕ) → t < 64 → (is_of (other side) (man_at b t) && answer t) ≡ has captures t
        captured' t h = sym (captured t h)

-- where a free pawn may go
free_goes : (p : Pos) (g : Guard) (k t : ℕ) → IsValid p → IsGuard p g → k < 64 → t < 64 → IsFreePawn p k →
    can_go p k t
    ≡ (((is_step p.board p.side (plain_move k t) || is_double_step p.board p.side (plain_move k t)) && has g.answers t)
    || ((goes Pawn p.side k t && is_of (other p.side) (man_at p.board t)) && has g.answers t))
free_goes p g k t valid guard hk ht free =
    let (man, is, own, pawn) = found_man p.side Pawn (man_at p.board k) free.pawn in
    let answered = free_answered p g k t valid guard hk ht free.pawn free.free in
    let captured = (attacks p.board k t && is_of (other p.side) (man_at p.board t)) && is_answered (set p.board k None) (other p.side) g.king t in
    sym ((λ i. ((is_step p.board p.side (plain_move k t) || is_double_step p.board p.side (plain_move k t)) && answered i)
    || (((λ j. ((ap (λ side. goes Pawn side k t) (sym own) ∙ pawn_from p.board man k t pawn ∙ sym (attacks_is p k t man is)) j && is_of (other p.side) (man_at p.board t)) && answered j)
    ∙ sym (or-false captured)
    ∙ ap (λ m. captured || (is_marked m t && (attacks p.board k t && is_legal p (plain_move k t)))) (sym free.unmarked)) i))
    ∙ forward_or_captures p k t g.king man valid hk ht guard.inside guard.king is own pawn)

-- the moves of one free pawn
counted_free : (p : Pos) (g : Guard) (k empty steps captures last : ℕ) → IsValid p → IsGuard p g → k < 64 → IsFreePawn p k → steps < 2 ^ 64 → captures < 2 ^ 64 →
    ((t : ℕ) → t < 64 → has empty t ≡ is_empty p.board t) →
    ((t : ℕ) → t < 64 → has steps t ≡ (is_empty p.board t && has g.answers t)) →
    ((t : ℕ) → t < 64 → has captures t ≡ (is_of (other p.side) (man_at p.board t) && has g.answers t)) →
    ((t : ℕ) → t < 64 → has last t ≡ (rank_of t == last_rank p.side)) →
    length (filter (is_legal p) (moves_from k)) ≡ ways_from p.side empty steps captures k + 3 * ways_from p.side empty (bit_and steps last) (bit_and captures last) k
counted_free p g k empty steps captures last valid guard hk free small fewer emptied stepped captured ranked =
    sym (counted_from p k (squares_where (can_go p k)) (squares_where promoting) valid hk (squares_where_small (can_go p k)) (squares_where_small promoting) (has_squares_where (can_go p k))
    (λ t h. has_squares_where promoting t h ∙ ap (λ x. x && promotes p k t) (sym (has_squares_where (can_go p k) t h))))
    ∙ (λ i. (size_total (squares_where (can_go p k)) (squares_where_small (can_go p k))
    ∙ ways_counted p.side p.board empty steps captures k (has (squares_where (can_go p k))) (has g.answers) hk small fewer
    (λ t h. has_squares_where (can_go p k) t h ∙ free_goes p g k t valid guard hk h free) emptied stepped captured) i
    + 3 * (size_total (squares_where promoting) (squares_where_small promoting)
    ∙ ways_counted p.side p.board empty (bit_and steps last) (bit_and captures last) k (has (squares_where promoting)) (λ t. has g.answers t && has last t) hk
    (omega (arith, and_le_l steps last)) (omega (arith, and_le_l captures last))
    (λ t h. has_squares_where promoting t h
    ∙ (λ i. free_goes p g k t valid guard hk h free i && (ap (λ x. x && rank_of t == last_rank p.side) free.pawn ∙ sym (ranked t h)) i)
    ∙ on_last (is_step p.board p.side (plain_move k t) || is_double_step p.board p.side (plain_move k t)) (goes Pawn p.side k t && is_of (other p.side) (man_at p.board t)) (has g.answers t) (has last t))
    emptied
    (λ t h. has_and steps last t ∙ ap (λ x. x && has last t) (stepped t h) ∙ joined (is_empty p.board t) (has g.answers t) (has last t))
    (λ t h. has_and captures last t ∙ ap (λ x. x && has last t) (captured t h) ∙ joined (is_of (other p.side) (man_at p.board t)) (has g.answers t) (has last t))) i)
  where
    promoting : ℕ → Bool
    promoting t = can_go p k t && promotes p k t

    joined : (x y z : Bool) → ((x && y) && z) ≡ (x && (y && z))
    joined true y z = refl
    joined false y z = refl

    on_last : (x y a l : Bool) → (((x && a) || (y && a)) && l) ≡ ((x && (a && l)) || (y && (a && l)))
    on_last true y true true = refl
    on_last true true true false = refl
    on_last true false true false = refl
    on_last true true false l = refl
    on_last true false false l = refl
    on_last false true a l = refl
    on_last false false a l = refl

lengths_total : {A : Type 0} (g : ℕ → List A) (f h : ℕ → ℕ) (n : ℕ) → ((k : ℕ) → k < n → length (g k) ≡ f k + 3 * h k) → length (gathered g n) ≡ total f n + 3 * total h n
lengths_total g f h zero e = refl
lengths_total g f h (suc n) e = omega (arith, lengths_total g f h n (λ k l. e k (omega arith)), e n (omega arith), length-append (gathered g n) (g n))

-- the moves of free pawns are their ways, and three more for each that ends on the last rank
pub counted_free_pawns : (p : Pos) (g : Guard) (pawns empty steps captures last : ℕ) → IsValid p → IsGuard p g → steps < 2 ^ 64 → captures < 2 ^ 64 →
    ((k : ℕ) → k < 64 → has pawns k ≡ true → IsFreePawn p k) →
    ((t : ℕ) → t < 64 → has empty t ≡ is_empty p.board t) →
    ((t : ℕ) → t < 64 → has steps t ≡ (is_empty p.board t && has g.answers t)) →
    ((t : ℕ) → t < 64 → has captures t ≡ (is_of (other p.side) (man_at p.board t) && has g.answers t)) →
    ((t : ℕ) → t < 64 → has last t ≡ (rank_of t == last_rank p.side)) →
    ways p.side pawns empty steps captures + 3 * ways p.side pawns empty (bit_and steps last) (bit_and captures last) ≡ length (moves_of p pawns)
unfolding ways moves_of
counted_free_pawns p g pawns empty steps captures last valid guard small fewer free emptied stepped captured ranked =
    sym (lengths_total (λ k. cond (has pawns k) (filter (is_legal p) (moves_from k)) []) (λ k. cond (has pawns k) (ways_from p.side empty steps captures k) 0)
    (λ k. cond (has pawns k) (ways_from p.side empty (bit_and steps last) (bit_and captures last) k) 0) 64 (λ k h. by_pawn k h (has pawns k) refl))
  where
    by_pawn : (k : ℕ) → k < 64 → (here : Bool) → has pawns k ≡ here →
        length (cond here (filter (is_legal p) (moves_from k)) [])
        ≡ cond here (ways_from p.side empty steps captures k) 0 + 3 * cond here (ways_from p.side empty (bit_and steps last) (bit_and captures last) k) 0
    by_pawn k h true e = counted_free p g k empty steps captures last valid guard h (free k h e) small fewer emptied stepped captured ranked
    by_pawn k h false e = refl
