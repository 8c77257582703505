-- Lists of made positions: they look the same to White, so that a sheet may list them.
use Rattle.std.proofs.Common.{◌≡◌, ℕ, zero, suc, ◌+◌, ◌<◌, ◌≤◌, Bool, true, ◌&&◌, List, [], ◌∷◌, ◌++◌, length, map, cond, None, Some, refl, ◌∙◌, ap, arith}
use Rattle.std.proofs.lemmas.Bool.{le-leb, and_from}
use Rattle.std.proofs.lemmas.List.Elements.{All-nil, All-cons, All-head, All-tail}
use Rattle.std.specs.List.{All, list_all, range_with_len}
use Rattle.std.proofs.lemmas.List.FromFn.{length-map-range_with_len, map-range_with_len_more}
use Rattle.krieg_make.proofs.Common.{man_at, empty_board, is_same_of, same_hand, has_same_men, has_same_rights, is_same_side, Pos, White, MOST_LISTED, list_fault, other_hand, differs, Count, AreCounted, made_board, made_position, pair_at, pairs, made_count, made_number, made_positions, made_list, POSITION_COUNT}
use Rattle.krieg_board.proofs.SquareTests.{every_square_all}
use Rattle.krieg_moves.proofs.Hands.{Alike, same_hand_alike, alike_same_hand, alike_back, alike_through}
use Rattle.krieg_make.proofs.Numbers.{all_within}
use Rattle.krieg_make.proofs.Walks.{walk, walked}

looks_like_first : ℕ → Bool
looks_like_first i = walk (λ s. is_same_of White) 0 (made_position 0).board (made_position i).board

all_look_alike : list_all looks_like_first (range_with_len 0 POSITION_COUNT) ≡ true
unfolding looks_like_first walk made_position made_board pair_at pairs empty_board
all_look_alike = refl

first_length : length (made_position 0).board ≡ 64
unfolding made_position made_board pair_at pairs empty_board
first_length = refl

same_rest : (i : ℕ) → (has_same_rights White (made_position 0).rights (made_position i).rights && is_same_side (made_position 0).side (made_position i).side) ≡ true
unfolding made_position
same_rest i = refl

first_hand : (i : ℕ) → i < POSITION_COUNT → Alike White (made_position 0) (made_position i)
unfolding looks_like_first same_hand has_same_men
first_hand i h =
    let a = (made_position 0).board in
    let b = (made_position i).board in
    let tested : looks_like_first i ≡ true = all_within looks_like_first 0 POSITION_COUNT i (omega arith) h all_look_alike in
    same_hand_alike White (made_position 0) (made_position i)
    (and_from (has_same_men White a b) _ (every_square_all (λ s. is_same_of White (man_at a s) (man_at b s)) (λ s l. walked (λ s. is_same_of White) 0 a b tested s s (omega (arith, first_length)) (omega arith))) (same_rest i))

-- White sees no difference between two made positions
pub one_hand : (i j : ℕ) → i < POSITION_COUNT → j < POSITION_COUNT → same_hand (made_position i) (made_position j) White ≡ true
one_hand i j hi hj =
    alike_same_hand White (made_position i) (made_position j)
    (alike_through White (made_position i) (made_position 0) (made_position j)
    (alike_back White (made_position 0) (made_position i) (first_hand i hi)) (first_hand j hj))

abbrev listed : ℕ → ℕ → ℕ → List Pos
listed s a n = map (λ k. made_position (made_number s k)) (range_with_len a n)

number_low : (s k : ℕ) → made_number s k < POSITION_COUNT
number_low s k = omega arith

-- what holds of all made positions holds of those in a list
pub all_listed : (P : Pos → Type 0) → ((i : ℕ) → i < POSITION_COUNT → P (made_position i)) → (s a n : ℕ) → All P (listed s a n)
all_listed P each s a zero = All-nil P
all_listed P each s a (suc n) = All-cons P (made_position (made_number s a)) (listed s (a + 1) n) (each (made_number s a) (number_low s a)) (all_listed P each s (a + 1) n)

none_differs : (first : Pos) (k : ℕ) (ps : List Pos) → All (λ p. same_hand first p White ≡ true) ps → other_hand White first k ps ≡ None
none_differs first k [] alike = refl
none_differs first k (p ∷ ps) alike =
    ap (λ (t : Bool). cond t (other_hand White first (k + 1) ps) (Some k)) (All-head (λ p. same_hand first p White ≡ true) p ps alike)
    ∙ none_differs first (k + 1) ps (All-tail (λ p. same_hand first p White ≡ true) p ps alike)

no_list_fault : (s n : ℕ) → 0 < n → n ≤ POSITION_COUNT → list_fault White (listed s 0 n) ≡ None
no_list_fault s zero least most = absurd (omega arith)
no_list_fault s (suc n) least most =
    let first : Pos = made_position (made_number s 0) in
    let rest : List Pos = listed s 1 n in
    let few : length (first ∷ rest) ≤ MOST_LISTED = omega (arith, length-map-range_with_len {X = Pos} (λ k. made_position (made_number s k)) 1 n) in
    ap (λ (t : Bool). cond t (differs (other_hand White first 1 rest)) (Some Count)) (le-leb (length (first ∷ rest)) MOST_LISTED few)
    ∙ ap differs (none_differs first 1 rest (all_listed (λ p. same_hand first p White ≡ true) (λ i h. one_hand (made_number s 0) i (number_low s 0) h) s 1 n))

pub made_listed : (s : ℕ) → list_fault White (made_list s) ≡ None
unfolding made_positions
made_listed s = no_list_fault s (made_count s) (omega arith) (omega arith)

pub made_none : (s : ℕ) → made_positions s 0 ≡ []
unfolding made_positions
made_none s = refl

pub made_more : (s n : ℕ) → made_positions s (n + 1) ≡ made_positions s n ++ made_position (made_number s n) ∷ []
unfolding made_positions
made_more s n = map-range_with_len_more {X = Pos} (λ k. made_position (made_number s k)) 0 n n (omega arith)

pub counted : AreCounted
unfolding made_positions
counted s = length-map-range_with_len {X = Pos} (λ k. made_position (made_number s k)) 0 (made_count s)

pub ruleset lists = (made_listed, made_none, made_more)
