-- A rank and a board that were written are read again.
use Rattle.std.proofs.Common.{◌≡◌, ℕ, zero, suc, ◌+◌, ◌-◌, ◌*◌, ◌<◌, ◌≤◌, Bool, true, cond, ◌&&◌, leb, eq-eqb, List, [], ◌∷◌, ◌++◌, length, take, drop, replicate, Option, Some, None, refl, sym, ap, ◌∙◌, arith, append_assoc, take-add}
use Rattle.std.proofs.lemmas.Bool.{le-leb, and_from}
use Rattle.std.proofs.lemmas.List.{append-nil, length-take-le, length-drop, take_all, get_or-take, get_or-drop}
use Rattle.krieg_fen.proofs.Common.{Man, Side, White, Black, Kind, Pawn, King, Board, man_at, pieces, letter, Row, squares_at, row_of, onto_row, eight, ranks_of, board_of, run, row_text, rank_text, rank_at, ranks_text, board_text}
use Rattle.krieg_board.specs.declared.men.Kind.TheVariants.{Knight, Bishop, Rook, Queen}
use Rattle.krieg_text.proofs.Free.{Above, above_append, above_less, pieces_first, pieces_last}

abbrev man : Side → Kind → Option Man
man side kind = Some (record { side = side; kind = kind })

letter_again : (side : Side) (kind : Kind) → squares_at (letter side kind) ≡ Some (man side kind ∷ [])
letter_again White Pawn = refl
letter_again White Knight = refl
letter_again White Bishop = refl
letter_again White Rook = refl
letter_again White Queen = refl
letter_again White King = refl
letter_again Black Pawn = refl
letter_again Black Knight = refl
letter_again Black Bishop = refl
letter_again Black Rook = refl
letter_again Black Queen = refl
letter_again Black King = refl

run_again : (n : ℕ) → n ≤ 8 → row_of (run n) ≡ Some (replicate n None)
run_again zero le = refl
run_again (suc n) le =
    let t : (leb 49 (49 + n) && leb (49 + n) 56) ≡ true = and_from _ _ (le-leb 49 (49 + n) (omega arith)) (le-leb (49 + n) 56 (omega arith)) in
    let k : (49 + n) - 48 ≡ suc n = omega arith in
    let s : squares_at (49 + n) ≡ Some (replicate (suc n) None) = rw t (ap (λ (m : ℕ). Some (replicate m None)) k) in
    ap (λ (o : Option Row). onto_row o (Some [])) s ∙ ap Some (append-nil (replicate (suc n) None))

onto_three : (a b c : Option Row) → onto_row (onto_row a b) c ≡ onto_row a (onto_row b c)
onto_three None b c = refl
onto_three (Some a) None c = refl
onto_three (Some a) (Some b) None = refl
onto_three (Some a) (Some b) (Some c) = ap Some (append_assoc a b c)

onto_nil : (o : Option Row) → onto_row (Some []) o ≡ o
onto_nil None = refl
onto_nil (Some r) = refl

row_append : (xs ys : List ℕ) → row_of (xs ++ ys) ≡ onto_row (row_of xs) (row_of ys)
row_append [] ys = sym (onto_nil (row_of ys))
row_append (x ∷ xs) ys = ap (onto_row (squares_at x)) (row_append xs ys) ∙ sym (onto_three (squares_at x) (row_of xs) (row_of ys))

one_more : (n : ℕ) (row : Row) → replicate (suc n) None ++ row ≡ replicate n None ++ (None ∷ row)
one_more zero row = refl
one_more (suc n) row = ap (λ (r : Row). None ∷ r) (one_more n row)

pub row_again : (row : Row) (n : ℕ) → n + length row ≤ 8 → row_of (row_text n row) ≡ Some (replicate n None ++ row)
row_again [] n le = run_again n (omega arith) ∙ ap Some (sym (append-nil (replicate n None)))
row_again (None ∷ row) n le = row_again row (suc n) (omega arith) ∙ ap Some (one_more n row)
row_again (Some m ∷ row) n le =
    row_append (run n) (letter m.side m.kind ∷ row_text 0 row)
    ∙ rw (run_again n (omega arith), letter_again m.side m.kind, row_again row 0 (omega arith)) refl

-- a rank of eight squares
pub rank_again : (row : Row) → length row ≡ 8 → eight (row_of (rank_text row)) ≡ Some row
rank_again row long =
    ap eight (row_again row 0 (omega arith)) ∙ ap (λ (t : Bool). cond t (Some row) None) (eq-eqb (length row) 8 long)

letter_above : (side : Side) (kind : Kind) → 47 < letter side kind
letter_above White Pawn = omega arith
letter_above White Knight = omega arith
letter_above White Bishop = omega arith
letter_above White Rook = omega arith
letter_above White Queen = omega arith
letter_above White King = omega arith
letter_above Black Pawn = omega arith
letter_above Black Knight = omega arith
letter_above Black Bishop = omega arith
letter_above Black Rook = omega arith
letter_above Black Queen = omega arith
letter_above Black King = omega arith

run_above : (n : ℕ) → Above 47 (run n)
run_above zero = tt
run_above (suc n) = (omega arith, tt)

row_above : (row : Row) (n : ℕ) → Above 47 (row_text n row)
row_above [] n = run_above n
row_above (None ∷ row) n = row_above row (suc n)
row_above (Some m ∷ row) n = above_append 47 (run n) (letter m.side m.kind ∷ row_text 0 row) (run_above n) (letter_above m.side m.kind, row_above row 0)

-- no space in the text of a board
pub ranks_above : (n : ℕ) (board : Board) → Above 32 (ranks_text n board)
ranks_above zero board = tt
ranks_above (suc zero) board = above_less 32 47 (rank_text (rank_at board 0)) (omega arith) (row_above (rank_at board 0) 0)
ranks_above (suc (suc n)) board =
    above_append 32 (rank_text (rank_at board (suc n))) (47 ∷ ranks_text (suc n) board)
    (above_less 32 47 (rank_text (rank_at board (suc n))) (omega arith) (row_above (rank_at board (suc n)) 0)) (omega arith, ranks_above (suc n) board)

pub rank_man : (b : Board) (r k : ℕ) → k < 8 → man_at (rank_at b r) k ≡ man_at b (8 * r + k)
rank_man b r k lt = get_or-take 8 (drop (8 * r) b) k None lt ∙ get_or-drop (8 * r) b k None

pub rank_long : (n : ℕ) (board : Board) → 8 * n + 8 ≤ length board → length (rank_at board n) ≡ 8
rank_long n board le = length-take-le 8 (drop (8 * n) board) (omega (arith, length-drop (8 * n) board))

-- the n + 1 lowest ranks
pub ranks_again : (n : ℕ) (board : Board) → 8 * n + 8 ≤ length board → ranks_of (suc n) (pieces 47 (ranks_text (suc n) board)) ≡ Some (take (8 * n + 8) board)
ranks_again zero board le =
    ap (ranks_of 1) (pieces_last 47 (rank_text (rank_at board 0)) (row_above (rank_at board 0) 0))
    ∙ ap (onto_row (Some [])) (rank_again (rank_at board 0) (rank_long 0 board (omega arith)))
ranks_again (suc n) board le =
    let here = rank_again (rank_at board (suc n)) (rank_long (suc n) board le) in
    let size : 8 * suc n ≡ 8 * n + 8 = omega arith in
    let below : ranks_of (suc n) (pieces 47 (ranks_text (suc n) board)) ≡ Some (take (8 * suc n) board) =
    ranks_again n board (omega arith) ∙ ap (λ (k : ℕ). Some (take k board)) (sym size) in
    ap (ranks_of (suc (suc n))) (pieces_first 47 (rank_text (rank_at board (suc n))) (ranks_text (suc n) board) (row_above (rank_at board (suc n)) 0))
    ∙ ap (λ (o : Option Row). onto_row (ranks_of (suc n) (pieces 47 (ranks_text (suc n) board))) o) here
    ∙ ap (λ (o : Option Row). onto_row o (Some (rank_at board (suc n)))) below
    ∙ ap Some (sym (take-add (8 * suc n) 8 board))

pub board_above : (board : Board) → Above 32 (board_text board)
unfolding board_text
board_above board = ranks_above 8 board

-- a board of 64 squares
pub board_again : (board : Board) → length board ≡ 64 → board_of (board_text board) ≡ Some board
unfolding board_text
board_again board long = ranks_again 7 board (omega arith) ∙ ap Some (take_all 64 board (omega arith))
