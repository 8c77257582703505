-- How many moves a list has: the squares where a man may go, counted as bits, and three more for each promotion.
use Rattle.std.proofs.Common.{◌≡◌, ℕ, zero, suc, ◌+◌, ◌-◌, ◌*◌, ◌/◌, ◌%◌, ◌^◌, ◌<◌, ◌≤◌, Bool, true, false, not, ◌&&◌, ◌==◌, cond, List, [], length, ◌⊎◌, inl, inr, count_ones, refl, sym, ◌∙◌, ap, arith, length-append, mod-eq_of_lt}
use Rattle.std.proofs.Math.Nat.{mod-one}
use Rattle.std.proofs.Math.Bool.{and-false}
use Rattle.std.proofs.lemmas.Bool.{eq-eqb, ne_eqb, cases_lt}
use Rattle.std.proofs.lemmas.Nat.Bits.{bit_at-zero, bit_at_ones, bit_at_ones_above, bit_at_cat_low, bit_at_cat_high}
use Rattle.krieg_board.proofs.SetLemmas.{has_zero, has_bit, has_no_bit, has_place}
use Rattle.std.proofs.lemmas.List.Filters.{length-filter_both}
use Rattle.std.specs.List.{filter}
use Rattle.std.specs.Int.{bit_at}
use Rattle.krieg_moves.proofs.Common.{Move, Pos, gathered, rank_of, last_rank, man_at, is_man, is_of, Pawn, has, IsLowest, IsValid, is_legal, IsAlone, moves_between, moves_from, all_moves, moves_of, moves, promotes, can_go, MOST_LEGAL_MOVES}
use Rattle.krieg_board.proofs.Ones.{ones_zero, ones_suc, bit_by}
use Rattle.krieg_board.proofs.Picked.{picked, picked_zero, picked_step}
use Rattle.krieg_moves.proofs.Listing.{listed_promotions, listed_plain, picked_from, picked_men}

-- lists of one entry for each square of a set, and of three more where it belongs to a second
counted_below : {A : Type 0} (g : ℕ → List A) (set more n : ℕ) → ((k : ℕ) → k < n → length (g k) ≡ bit_at set k + 3 * bit_at more k) →
    length (gathered g n) ≡ count_ones (set % 2 ^ n) + 3 * count_ones (more % 2 ^ n)
counted_below g set more zero e = sym ((λ i. count_ones (mod-one set i) + 3 * count_ones (mod-one more i)) ∙ (λ i. ones_zero i + 3 * ones_zero i))
counted_below g set more (suc n) e =
    let before = counted_below g set more n (λ k h. e k (omega arith)) in
    let here = e n (omega arith) in
    omega (arith, before, here, length-append (gathered g n) (g n), ones_suc set n, ones_suc more n)

counted : {A : Type 0} (g : ℕ → List A) (set more : ℕ) → set < 2 ^ 64 → more < 2 ^ 64 → ((k : ℕ) → k < 64 → length (cond (has set k) (g k) []) ≡ bit_at set k + 3 * bit_at more k) →
    length (picked set g) ≡ count_ones set + 3 * count_ones more
unfolding picked
counted g set more small fewer e =
    counted_below (λ k. cond (has set k) (g k) []) set more 64 e ∙ (λ i. count_ones (mod-eq_of_lt small i) + 3 * count_ones (mod-eq_of_lt fewer i))

-- a square where a man may go gives one legal move, or four where he is promoted
counted_between : (p : Pos) (f k : ℕ) (goes promoted : Bool) → IsValid p → f < 64 → k < 64 → can_go p f k ≡ goes → promotes p f k ≡ promoted →
    length (cond goes (filter (is_legal p) (moves_between f k)) []) ≡ cond goes 1 0 + 3 * cond (goes && promoted) 1 0
counted_between p f k false promoted valid hf hk g e = refl
counted_between p f k true true valid hf hk g e = ap length (listed_promotions p f k valid hf hk e g)
counted_between p f k true false valid hf hk g e = ap length (listed_plain p f k e g)

-- the moves from a square, by the squares where its man may go and those where he is promoted
pub counted_from : (p : Pos) (f set more : ℕ) → IsValid p → f < 64 → set < 2 ^ 64 → more < 2 ^ 64 → ((k : ℕ) → k < 64 → has set k ≡ can_go p f k) →
    ((k : ℕ) → k < 64 → has more k ≡ (has set k && promotes p f k)) → count_ones set + 3 * count_ones more ≡ length (filter (is_legal p) (moves_from f))
counted_from p f set more valid hf small fewer goes promoted =
    sym (counted (λ k. filter (is_legal p) (moves_between f k)) set more small fewer
    (λ k h. counted_between p f k (has set k) (promotes p f k) valid hf h (sym (goes k h)) refl
    ∙ sym (λ i. bit_by set k (has set k) refl i + 3 * bit_by more k (has set k && promotes p f k) (promoted k h) i)))
    ∙ ap length (picked_from p set f goes)

-- the moves of a man who is no pawn, by the squares where he may go
pub counted_plain : (p : Pos) (f set : ℕ) → IsValid p → f < 64 → set < 2 ^ 64 → ((k : ℕ) → k < 64 → has set k ≡ can_go p f k) →
    is_man p.side Pawn (man_at p.board f) ≡ false → count_ones set ≡ length (filter (is_legal p) (moves_from f))
counted_plain p f set valid hf small goes off =
    omega (
      arith,
      ones_zero,
      counted_from p f set 0 valid hf small (omega arith) goes (λ k h.
          has_zero k ∙ sym (ap (λ x. has set k && (x && rank_of k == last_rank p.side)) off ∙ and-false (has set k))),
    )

-- the lists of two sets of squares are together those of a set that has the squares of both, where they share none
apart_below : {A : Type 0} (g : ℕ → List A) (whole one more n : ℕ) →
    ((k : ℕ) → k < n → length (cond (has whole k) (g k) []) ≡ length (cond (has one k) (g k) []) + length (cond (has more k) (g k) [])) →
    length (gathered (λ k. cond (has whole k) (g k) []) n) ≡ length (gathered (λ k. cond (has one k) (g k) []) n) + length (gathered (λ k. cond (has more k) (g k) []) n)
apart_below g whole one more zero e = refl
apart_below g whole one more (suc n) e =
    omega (
      arith,
      apart_below g whole one more n (λ k h. e k (omega arith)),
      e n (omega arith),
      length-append (gathered (λ k. cond (has whole k) (g k) []) n) (cond (has whole n) (g n) []),
      length-append (gathered (λ k. cond (has one k) (g k) []) n) (cond (has one n) (g n) []),
      length-append (gathered (λ k. cond (has more k) (g k) []) n) (cond (has more n) (g n) []),
    )

-- the moves of a side's pawns and those of its other men are all of its moves
pub counted_apart : (p : Pos) (men kind pawns officers : ℕ) →
    ((k : ℕ) → k < 64 → has pawns k ≡ (has men k && has kind k)) → ((k : ℕ) → k < 64 → has officers k ≡ (has men k && not (has pawns k))) →
    length (moves_of p men) ≡ length (moves_of p pawns) + length (moves_of p officers)
unfolding moves_of
counted_apart p men kind pawns officers ep eo =
    apart_below (λ k. filter (is_legal p) (moves_from k)) men pawns officers 64 (λ k h.
    one_of_two (has men k) (has kind k) (filter (is_legal p) (moves_from k))
    ∙ sym (λ i. length (cond (ep k h i) (filter (is_legal p) (moves_from k)) [])
    + length (cond ((eo k h ∙ ap (λ x. has men k && not x) (ep k h)) i) (filter (is_legal p) (moves_from k)) [])))
  where
    one_of_two : (m k : Bool) (xs : List Move) → length (cond m xs []) ≡ length (cond (m && k) xs []) + length (cond (m && not (m && k)) xs [])
    one_of_two true true xs = omega arith
    one_of_two true false xs = omega arith
    one_of_two false k xs = refl

few_gathered : {A : Type 0} (g : ℕ → List A) (c n : ℕ) → ((k : ℕ) → k < n → length (g k) ≤ c) → length (gathered g n) ≤ c * n
few_gathered g c zero few = omega arith
few_gathered g c (suc n) few = omega (arith, few_gathered g c n (λ k h. few k (omega arith)), few n (omega arith), length-append (gathered g n) (g n))

few_filtered : (test : Move → Bool) (xs : List Move) → length (filter test xs) ≤ length xs
few_filtered test xs = omega (arith, length-filter_both test (λ x. not (test x)) (λ x. refl) xs)

few_from : (f : ℕ) → length (moves_from f) ≤ 320
unfolding moves_from
few_from f = few_gathered (moves_between f) 5 64 (λ k h. omega arith)

-- no position has more moves than 64 times 64 times 5
pub few_moves : (p : Pos) → length (moves p) ≤ MOST_LEGAL_MOVES
unfolding moves all_moves
few_moves p = omega (arith, few_filtered (is_legal p) (gathered moves_from 64), few_gathered moves_from 320 64 (λ k h. few_from k))

pub few_picked : (test : Move → Bool) (set : ℕ) → length (picked set (λ k. filter test (moves_from k))) ≤ MOST_LEGAL_MOVES
unfolding picked
few_picked test set = few_gathered (λ k. cond (has set k) (filter test (moves_from k)) []) 320 64 (λ k h. few_only (has set k) (filter test (moves_from k)) (omega (arith, few_filtered test (moves_from k), few_from k)))
  where
    few_only : (t : Bool) (xs : List Move) → length xs ≤ 320 → length (cond t xs []) ≤ 320
    few_only true xs h = h
    few_only false xs h = omega arith

pub few_moves_of : (p : Pos) (set : ℕ) → length (moves_of p set) ≤ MOST_LEGAL_MOVES
unfolding moves_of picked
few_moves_of p set = few_picked (is_legal p) set

-- the moves of a side's men are all of its moves
pub all_counted : (p : Pos) (men : ℕ) → ((k : ℕ) → k < 64 → has men k ≡ is_of p.side (man_at p.board k)) → length (moves_of p men) ≡ length (moves p)
unfolding moves_of moves picked
all_counted p men e = ap length (picked_men p men e)

-- a loop takes the lowest square of what is left, and adds the number of its moves
pub counted_taken : {A : Type 0} (g : ℕ → List A) (set t rest : ℕ) → IsLowest set t → ((k : ℕ) → k < 64 → has rest k ≡ (has set k && not (k == t))) →
    length (picked set g) ≡ length (g t) + length (picked rest g)
counted_taken g set t rest l others = ap length (picked_step g set t rest l others) ∙ length-append (g t) (picked rest g)

pub counted_ended : {A : Type 0} (g : ℕ → List A) (rest : ℕ) → rest ≡ 0 → length (picked rest g) ≡ 0
counted_ended g rest z = ap (λ n. length (picked n g)) z ∙ ap length (picked_zero g)

-- a king who is alone has all moves of his side
never : (b : Bool) → false ≡ (b && not b)
never true = refl
never false = refl

pub one_counted : (p : Pos) (king : ℕ) → king < 64 → length (moves_of p (1 * 2 ^ king % 18446744073709551616)) ≡ length (filter (is_legal p) (moves_from king))
unfolding moves_of picked
one_counted p king inside =
    let men = 1 * 2 ^ king % 18446744073709551616 in
    let has_men = λ (k : ℕ) (h : k < 64). has_place king k inside h in
    let first : IsLowest men king = record {
      below = inside;
      member = has_men king inside ∙ eq-eqb king king refl;
      first = λ k h. has_men k (omega arith) ∙ ne_eqb k king (λ e. omega arith);
    } in
    let moves_from_king = λ (k : ℕ). filter (is_legal p) (moves_from k) in
    let one = counted_taken moves_from_king men king 0 first (λ k h. has_zero k ∙ never (k == king) ∙ ap (λ b. b && not (k == king)) (sym (has_men k h))) in
    omega (arith, one, counted_ended moves_from_king 0 refl)

pub lone_counted : (p : Pos) (king : ℕ) → king < 64 → IsAlone p.board p.side king → length (filter (is_legal p) (moves_from king)) ≡ length (moves p)
lone_counted p king inside alone =
    let men = 1 * 2 ^ king % 18446744073709551616 in
    sym (one_counted p king inside) ∙ all_counted p men (λ k h. has_place king k inside h ∙ sym (alone.alone k h))

-- a rank as a set
pub eighth_rank : (t : ℕ) → t < 64 → has 18374686479671623680 t ≡ (t / 8 == 7)
eighth_rank t h = by_place (cases_lt t 56)
  where
    by_place : (t < 56) ⊎ (56 ≤ t) → has 18374686479671623680 t ≡ (t / 8 == 7)
    by_place (inl l) = has_no_bit 18374686479671623680 t (bit_at_cat_low 255 56 0 t l ∙ bit_at-zero t) ∙ sym (ne_eqb (t / 8) 7 (λ e. omega arith))
    by_place (inr l) = has_bit 18374686479671623680 t (bit_at_cat_high 255 56 0 t (omega arith) l ∙ bit_at_ones 8 (t - 56) (omega arith)) ∙ sym (eq-eqb (t / 8) 7 (omega arith))

pub first_rank : (t : ℕ) → t < 64 → has 255 t ≡ (t / 8 == 0)
first_rank t h = by_place (cases_lt t 8)
  where
    by_place : (t < 8) ⊎ (8 ≤ t) → has 255 t ≡ (t / 8 == 0)
    by_place (inl l) = has_bit 255 t (bit_at_ones 8 t l) ∙ sym (eq-eqb (t / 8) 0 (omega arith))
    by_place (inr l) = has_no_bit 255 t (bit_at_ones_above 8 t l) ∙ sym (ne_eqb (t / 8) 0 (λ e. omega arith))
