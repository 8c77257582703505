-- The tries are counted pawn by pawn: those of one pawn are the squares of a set.
use Rattle.std.proofs.Common.{◌≢◌, ◌≡◌, ℕ, zero, suc, ◌+◌, ◌^◌, ◌<◌, ◌≤◌, Bool, true, false, not, ◌&&◌, ◌==◌, cond, List, map, length, replicate, count_ones, refl, sym, ◌∙◌, ap, subst, arith}
use Rattle.std.specs.Prelude.{count_by}
use Rattle.std.specs.List.{range_with_len, sum_by}
use Rattle.std.specs.Simd.Lanes.{mask_l}
use Rattle.std.proofs.lemmas.Bool.{ne_eqb}
use Rattle.std.proofs.lemmas.List.{get_or-map, length-map, length-append, length-replicate}
use Rattle.std.proofs.lemmas.Nat.{zero_from_ones, ones_le_self}
use Rattle.std.proofs.lemmas.Simd.{ones-mask_l, bit_mask_l, mask_l-lt}
use Rattle.krieg_words.proofs.Common.{squares, file_of, gathered, has, IsLowest, Pos, IsValid, can_go, MOST_TRIES, is_try, tries_from, tries}
use Rattle.krieg_board.proofs.SetLemmas.{same_sets}
use Rattle.krieg_board.proofs.Picked.{picked, picked_zero, picked_step, picked_all}
use Rattle.krieg_board.proofs.SquareTests.{length_squares, get_or_squares}
use Rattle.krieg_words.proofs.PawnCaptures.{is_own_pawn, try_own}
use Rattle.krieg_words.proofs.RangeSums.{sum_range_more}
use Rattle.krieg_words.proofs.TriesBound.{tries_from_none, tries_le}

abbrev copies : (ℕ → ℕ) → ℕ → List (Unit {0})
copies g k = replicate (g k) tt

-- the sum over the squares of a set
unfoldable pub sum_over : ℕ → (ℕ → ℕ) → ℕ
sum_over set g = length (picked set (copies g))

-- the lowest square is taken out of the set
sum_over_step : (g : ℕ → ℕ) (set t rest : ℕ) → IsLowest set t → ((k : ℕ) → k < 64 → has rest k ≡ (has set k && not (k == t))) →
    sum_over set g ≡ g t + sum_over rest g
unfolding sum_over
sum_over_step g set t rest l others =
    ap length (picked_step (copies g) set t rest l others) ∙ length-append (copies g t) (picked rest (copies g))
    ∙ ap (λ n. n + length (picked rest (copies g))) (length-replicate (g t) tt)

-- the loop: the tries of one pawn more are counted
pub counted_step : (p : Pos) (n c set t rest : ℕ) → IsLowest set t → ((k : ℕ) → k < 64 → has rest k ≡ (has set k && not (k == t))) → c ≡ tries_from p t →
    n + sum_over set (tries_from p) ≡ tries p → n + c + sum_over rest (tries_from p) ≡ tries p
counted_step p n c set t rest l others e h = omega (arith, sum_over_step (tries_from p) set t rest l others, e, h)

-- nothing is left in the empty set
pub sum_over_none : (p : Pos) (set : ℕ) → set ≡ 0 → sum_over set (tries_from p) ≡ 0
unfolding sum_over
sum_over_none p set e = ap (λ s. length (picked s (copies (tries_from p)))) e ∙ ap length (picked_zero (copies (tries_from p)))

pub counted_end : (p : Pos) (n set : ℕ) → set ≡ 0 → n + sum_over set (tries_from p) ≡ tries p → n ≡ tries p
counted_end p n set e h = omega (arith, sum_over_none p set e, h)

-- a pawn without tries is passed over
pub passed_pawn : (p : Pos) (captures set t rest : ℕ) → captures ≡ 0 → IsLowest set t → ((k : ℕ) → k < 64 → has rest k ≡ (has set k && not (k == t))) →
    count_ones captures ≡ tries_from p t → sum_over set (tries_from p) ≡ tries p → sum_over rest (tries_from p) ≡ tries p
passed_pawn p captures set t rest none l others e h =
    let zero_here : count_ones captures ≡ 0 = omega (arith, ones_le_self captures, none) in
    omega (arith, sum_over_step (tries_from p) set t rest l others, zero_here, e, h)

-- a pawn with tries is enough
pub some_tries : (p : Pos) (captures set t rest : ℕ) → captures ≢ 0 → IsLowest set t → ((k : ℕ) → k < 64 → has rest k ≡ (has set k && not (k == t))) →
    count_ones captures ≡ tries_from p t → sum_over set (tries_from p) ≡ tries p → not (tries p == 0) ≡ true
some_tries p captures set t rest some l others e h = ap not (ne_eqb (tries p) 0 (λ z. some (zero_from_ones captures (omega (arith, sum_over_step (tries_from p) set t rest l others, e, h, z)))))

-- what was counted and the tries of the next pawn are not too many
pub counted_below : (p : Pos) (n c set t rest : ℕ) → IsValid p → IsLowest set t → ((k : ℕ) → k < 64 → has rest k ≡ (has set k && not (k == t))) → c ≡ tries_from p t →
    n + sum_over set (tries_from p) ≡ tries p → n + c ≤ MOST_TRIES
counted_below p n c set t rest v l others e h = omega (arith, counted_step p n c set t rest l others e h, tries_le p v)

gathered_sum : (g : ℕ → ℕ) (n : ℕ) → length (gathered (copies g) n) ≡ sum_by g (range_with_len 0 n)
gathered_sum g zero = refl
gathered_sum g (suc n) =
    let whole = length-append (gathered (copies g) n) (copies g n) in
    let last : length (copies g n) ≡ g n = length-replicate (g n) (tt {0}) in
    omega (arith, whole, last, gathered_sum g n, sum_range_more g n)

-- all tries are those of the own pawns
pub tries_are : (p : Pos) (set : ℕ) → ((k : ℕ) → k < 64 → has set k ≡ is_own_pawn p k) → sum_over set (tries_from p) ≡ tries p
unfolding sum_over tries squares
tries_are p set own =
    ap length (picked_all (copies (tries_from p)) set (λ k h off. ap (λ (n : ℕ). replicate n (tt {0})) (tries_from_none p k (sym (own k h) ∙ off))))
    ∙ gathered_sum (tries_from p) 64

-- the set of the squares that pass has as many squares
pub ones_of_set : (set : ℕ) (test : ℕ → Bool) → set < 2 ^ 64 → ((k : ℕ) → k < 64 → has set k ≡ test k) → count_ones set ≡ count_by test squares
unfolding has
ones_of_set set test small e = ap count_ones same ∙ ones-mask_l test squares
  where
    one_is : (t : Bool) → (cond t 1 0 == 1) ≡ t
    one_is true = refl
    one_is false = refl

    size : length (map test squares) ≡ 64
    size = length-map squares test ∙ length_squares

    marks : (k : ℕ) → k < 64 → has (mask_l (map test squares)) k ≡ test k
    marks k h =
        ap (λ x. x == 1) (bit_mask_l (map test squares) k ∙ ap (λ t. cond t 1 0) (get_or-map test squares k 0 false (omega (arith, length_squares)) ∙ ap test (get_or_squares k 0 h)))
        ∙ one_is (test k)

    same : set ≡ mask_l (map test squares)
    same = same_sets set (mask_l (map test squares)) small (subst (λ n. mask_l (map test squares) < 2 ^ n) size (mask_l-lt (map test squares))) (λ k h. e k h ∙ sym (marks k h))

-- from an own pawn the tries are the moves to another file
pub tries_of_pawn : (p : Pos) (f set : ℕ) → set < 2 ^ 64 → is_own_pawn p f ≡ true → ((k : ℕ) → k < 64 → has set k ≡ (can_go p f k && not (file_of f == file_of k))) →
    count_ones set ≡ tries_from p f
unfolding tries_from
tries_of_pawn p f set small own e = ones_of_set set (is_try p f) small (λ k h. e k h ∙ sym (try_own p f k own))
