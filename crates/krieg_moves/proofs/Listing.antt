-- The legal moves between two squares, by whether a man may go there, and the loops that list them.
use Rattle.std.proofs.Common.{◌≡◌, ℕ, zero, suc, ◌<◌, ◌^◌, Bool, true, false, not, ◌&&◌, ◌==◌, cond, List, [], ◌∷◌, ◌++◌, length, Ok, Err, refl, sym, ◌∙◌, ap, subst, arith, w64, length-append}
use Rattle.std.specs.Prelude.{Result, OnErr}
use Rattle.std.specs.List.{filter, list_any}
use Rattle.std.specs.Int.{trailing_zeros}
use Rattle.std.proofs.lemmas.Bool.{and_parts, or_parts}
use Rattle.std.proofs.lemmas.List.Elements.{filter-append}
use Rattle.krieg_moves.proofs.Common.{Pawn, Promo, Move, Pos, rank_of, last_rank, gathered, man_at, is_of, is_man, has, IsLowest, IsValid, is_legal, is_plain, plain_move, promotions, moves_between, moves_from, all_moves, promotes, can_go}
use Rattle.krieg_board.specs.declared.men.Promo.TheVariants as promo
use Rattle.krieg_board.proofs.SetLemmas.{lowest}
use Rattle.krieg_board.proofs.Picked.{picked, picked_zero, picked_step, picked_all}
use Rattle.krieg_moves.proofs.Shapes.{found_man}
use Rattle.krieg_moves.proofs.Kings.{king_stands}
use Rattle.krieg_moves.proofs.MoveLists.{any_plain, any_by_filter, filter_plain, filter_promotions, filter_not_own, moves_from_at, all_moves_at}
use Rattle.krieg_moves.proofs.PawnGoing.{promoted, go_by_fitting, promotions_alike}

-- each promotion of a pawn that may go to the last rank is legal
promotion_goes : (p : Pos) (f t : ℕ) (r : Promo) → IsValid p → f < 64 → t < 64 → promotes p f t ≡ true → is_plain r ≡ false → is_legal p (promoted f t r) ≡ can_go p f t
promotion_goes p f t r valid hf ht h plain =
    let a = and_parts (is_man p.side Pawn (man_at p.board f)) (rank_of t == last_rank p.side) h in
    let (man, is, own, pawn) = found_man p.side Pawn (man_at p.board f) a.0 in
    let (k, hk, king) = king_stands p valid in
    promotions_alike p f t k man r valid hf ht hk king is own pawn a.1 plain ∙ sym (go_by_fitting p f t k man true valid hf ht hk king is own pawn a.1)

pub listed_promotions : (p : Pos) (f t : ℕ) → IsValid p → f < 64 → t < 64 → promotes p f t ≡ true → can_go p f t ≡ true → filter (is_legal p) (moves_between f t) ≡ promotions f t
listed_promotions p f t valid hf ht h goes =
    filter_promotions p f t h
    ∙ rw (legal promo.Queen refl, legal promo.Rook refl, legal promo.Bishop refl, legal promo.Knight refl)
  where
    legal : (r : Promo) → is_plain r ≡ false → is_legal p (promoted f t r) ≡ true
    legal r plain = promotion_goes p f t r valid hf ht h plain ∙ goes

pub listed_plain : (p : Pos) (f t : ℕ) → promotes p f t ≡ false → can_go p f t ≡ true → filter (is_legal p) (moves_between f t) ≡ plain_move f t ∷ []
unfolding can_go
listed_plain p f t h goes = filter_plain p f t h ∙ ap (λ x. cond x (plain_move f t ∷ []) []) (sym (any_plain p f t h) ∙ goes)

none_by_any : (test : Move → Bool) (xs : List Move) → list_any test xs ≡ false → filter test xs ≡ []
none_by_any test [] h = refl
none_by_any test (x ∷ xs) h =
    let r = or_parts (test x) (list_any test xs) h in
    ap (λ t. cond t (x ∷ filter test xs) (filter test xs)) r.0 ∙ none_by_any test xs r.1

filter_gathered : (test : Move → Bool) (g : ℕ → List Move) (n : ℕ) → filter test (gathered g n) ≡ gathered (λ k. filter test (g k)) n
filter_gathered test g zero = refl
filter_gathered test g (suc n) = filter-append test (gathered g n) (g n) ∙ ap (λ xs. xs ++ filter test (g n)) (filter_gathered test g n)

-- the squares to which a man may go give the legal moves from his square
pub picked_from : (p : Pos) (set f : ℕ) → ((k : ℕ) → k < 64 → has set k ≡ can_go p f k) → picked set (λ k. filter (is_legal p) (moves_between f k)) ≡ filter (is_legal p) (moves_from f)
unfolding moves_from can_go
picked_from p set f e =
    picked_all (λ k. filter (is_legal p) (moves_between f k)) set (λ k h off. none_by_any (is_legal p) (moves_between f k) (sym (e k h) ∙ off))
    ∙ sym (filter_gathered (is_legal p) (moves_between f) 64)

-- the squares of a side's men give all of its legal moves
pub picked_men : (p : Pos) (set : ℕ) → ((k : ℕ) → k < 64 → has set k ≡ is_of p.side (man_at p.board k)) → picked set (λ k. filter (is_legal p) (moves_from k)) ≡ filter (is_legal p) all_moves
unfolding all_moves
picked_men p set e =
    picked_all (λ k. filter (is_legal p) (moves_from k)) set (λ k h off. filter_not_own p k (sym (e k h) ∙ off))
    ∙ sym (filter_gathered (is_legal p) moves_from 64)

-- a man who may go somewhere has a legal move
pub some_move : (p : Pos) (f n : ℕ) → f < 64 → 0 < n → n < 2 ^ 64 → ((k : ℕ) → k < 64 → has n k ≡ can_go p f k) → list_any (is_legal p) all_moves ≡ true
unfolding can_go
some_move p f n hf pos small e =
    let l = lowest n pos small in
    let t = trailing_zeros w64 n in
    all_moves_at (is_legal p) f hf (moves_from_at (is_legal p) f t l.below (sym (e t l.below) ∙ l.member))

-- a loop passes a man who may go nowhere
pub passed_man : (p : Pos) (f n set less : ℕ) → n ≡ 0 → IsLowest set f → ((k : ℕ) → k < 64 → has less k ≡ (has set k && not (k == f))) → ((k : ℕ) → k < 64 → has n k ≡ can_go p f k) →
    picked less (λ k. filter (is_legal p) (moves_from k)) ≡ picked set (λ k. filter (is_legal p) (moves_from k))
passed_man p f n set less z l others e =
    sym (picked_step (λ k. filter (is_legal p) (moves_from k)) set f less l others
    ∙ ap (λ xs. xs ++ picked less (λ k. filter (is_legal p) (moves_from k)))
    (sym (picked_from p n f e) ∙ ap (λ n. picked n (λ k. filter (is_legal p) (moves_between f k))) z ∙ picked_zero (λ k. filter (is_legal p) (moves_between f k))))

-- and ends with no move
pub no_move : (p : Pos) (rest set : ℕ) → rest ≡ 0 → picked rest (λ k. filter (is_legal p) (moves_from k)) ≡ picked set (λ k. filter (is_legal p) (moves_from k)) →
    ((k : ℕ) → k < 64 → has set k ≡ is_of p.side (man_at p.board k)) → list_any (is_legal p) all_moves ≡ false
no_move p rest set z same e =
    any_by_filter (is_legal p) all_moves
    (sym (picked_men p set e) ∙ sym same ∙ ap (λ n. picked n (λ k. filter (is_legal p) (moves_from k))) z ∙ picked_zero (λ k. filter (is_legal p) (moves_from k)))

-- a list that begins with more than 64 moves has more than 64
pub past_whole : {X : Type 0} (items more rest whole : List X) → 64 < length (items ++ more) → (items ++ more) ++ rest ≡ whole → 64 < length whole
past_whole items more rest whole l e = subst (λ xs. 64 < length xs) e (omega (arith, l, length-append (items ++ more) rest))

pub on_err : {X E : Type 0} {Q : Type 0} (r : Result X E) → Q → OnErr r Q
on_err (Ok x) q = tt
on_err (Err e) q = q
