-- A position that was written is read again.
use Rattle.std.proofs.Common.{◌≡◌, ℕ, ◌+◌, ◌/◌, ◌%◌, ◌<◌, Bool, true, false, cond, ◌||◌, eqb, eqb-true, List, [], ◌∷◌, Option, Some, None, Result, Ok, refl, ap, ◌∙◌, arith}
use Rattle.std.proofs.lemmas.Bool.{and_parts}
use Rattle.krieg_fen.proofs.Common.{Side, White, Black, Rights, other, rank_of, crossed_rank, Board, Pos, IsValid, has_mark, ◌>>=◌, square_of, pieces, side_of, rights_of, mark_of, mark_at, FenFault, field, unless, checked, position_at, position_of, board_text, side_text, rights_text, mark_text, state_text, position_text}
use Rattle.krieg_board.proofs.Facts.{facts}
use Rattle.krieg_fen.proofs.MoveTexts.{square_again}
use Rattle.krieg_text.proofs.Free.{Above, pieces_first, pieces_last}
use Rattle.krieg_fen.proofs.RankTexts.{board_above, board_again}

pub side_again : (side : Side) → side_of (side_text side) ≡ Some side
side_again White = refl
side_again Black = refl

pub side_above : (side : Side) → Above 32 (side_text side)
side_above White = (omega arith, tt)
side_above Black = (omega arith, tt)

abbrev rights : Bool → Bool → Bool → Bool → Rights
rights a b c d = record { white_short = a; white_long = b; black_short = c; black_long = d }

rights_by : (a b c d : Bool) → rights_of (rights_text (rights a b c d)) ≡ Some (rights a b c d)
unfolding rights_text
rights_by true true true true = refl
rights_by true true true false = refl
rights_by true true false true = refl
rights_by true true false false = refl
rights_by true false true true = refl
rights_by true false true false = refl
rights_by true false false true = refl
rights_by true false false false = refl
rights_by false true true true = refl
rights_by false true true false = refl
rights_by false true false true = refl
rights_by false true false false = refl
rights_by false false true true = refl
rights_by false false true false = refl
rights_by false false false true = refl
rights_by false false false false = refl

pub rights_again : (r : Rights) → rights_of (rights_text r) ≡ Some r
rights_again r = rights_by r.white_short r.white_long r.black_short r.black_long

above_by : (a b c d : Bool) → Above 32 (rights_text (rights a b c d))
unfolding rights_text
above_by true true true true = (omega arith, (omega arith, (omega arith, (omega arith, tt))))
above_by true true true false = (omega arith, (omega arith, (omega arith, tt)))
above_by true true false true = (omega arith, (omega arith, (omega arith, tt)))
above_by true true false false = (omega arith, (omega arith, tt))
above_by true false true true = (omega arith, (omega arith, (omega arith, tt)))
above_by true false true false = (omega arith, (omega arith, tt))
above_by true false false true = (omega arith, (omega arith, tt))
above_by true false false false = (omega arith, tt)
above_by false true true true = (omega arith, (omega arith, (omega arith, tt)))
above_by false true true false = (omega arith, (omega arith, tt))
above_by false true false true = (omega arith, (omega arith, tt))
above_by false true false false = (omega arith, tt)
above_by false false true true = (omega arith, (omega arith, tt))
above_by false false true false = (omega arith, tt)
above_by false false false true = (omega arith, tt)
above_by false false false false = (omega arith, tt)

pub rights_above : (r : Rights) → Above 32 (rights_text r)
rights_above r = above_by r.white_short r.white_long r.black_short r.black_long

-- a mark is on the third or on the sixth rank
mark_digit : (side : Side) (s : ℕ) → rank_of s ≡ crossed_rank side → (eqb (49 + rank_of s) 51 || eqb (49 + rank_of s) 54) ≡ true
mark_digit White s on = rw on refl
mark_digit Black s on = rw on refl

mark_low : (side : Side) (s : ℕ) → rank_of s ≡ crossed_rank side → s < 64
mark_low White s on = omega arith
mark_low Black s on = omega arith

pub mark_again : (board : Board) (side : Side) (mark : Option ℕ) → has_mark board side mark ≡ true → mark_of (mark_text mark) ≡ Some mark
mark_again board side None has = refl
mark_again board side (Some s) has =
    let on : rank_of s ≡ crossed_rank (other side) = eqb-true (rank_of s) (crossed_rank (other side)) (and_parts (eqb (rank_of s) (crossed_rank (other side))) _ has).0 in
    ap (λ (t : Bool). cond t (mark_at (square_of (97 + s % 8) (49 + s / 8))) None) (mark_digit (other side) s on)
    ∙ ap mark_at (square_again s (mark_low (other side) s on))

pub mark_above : (mark : Option ℕ) → Above 32 (mark_text mark)
mark_above None = (omega arith, tt)
mark_above (Some s) = (omega arith, (omega arith, tt))

-- the four fields of a written position
pub fields_again : (p : Pos) → pieces 32 (position_text p) ≡ board_text p.board ∷ side_text p.side ∷ rights_text p.rights ∷ mark_text p.mark ∷ []
unfolding position_text state_text
fields_again p =
    pieces_first 32 (board_text p.board) _ (board_above p.board)
    ∙ ap (λ (ls : List (List ℕ)). board_text p.board ∷ ls) (pieces_first 32 (side_text p.side) _ (side_above p.side)
    ∙ ap (λ (ls : List (List ℕ)). side_text p.side ∷ ls) (pieces_first 32 (rights_text p.rights) _ (rights_above p.rights)
    ∙ ap (λ (ls : List (List ℕ)). rights_text p.rights ∷ ls) (pieces_last 32 (mark_text p.mark) (mark_above p.mark))))

abbrev pub parts : Option Board → Option Side → Option Rights → Option (Option ℕ) → Result Pos FenFault
parts a b c d = do
  board ← field 1 a
  side ← field 2 b
  rights ← field 3 c
  mark ← field 4 d
  Ok (record { board = board; side = side; rights = rights; mark = mark })

pub parts_again : (p : Pos) (a : Option Board) (b : Option Side) (c : Option Rights) (d : Option (Option ℕ)) → a ≡ Some p.board → b ≡ Some p.side → c ≡ Some p.rights → d ≡ Some p.mark → parts a b c d ≡ Ok p
parts_again p a b c d ha hb hc hd = rw (ha, hb, hc, hd) refl

-- what is written of a valid position spells it
pub position_again : (p : Pos) → IsValid p → position_of (position_text p) ≡ Ok p
unfolding position_of
position_again p valid =
    let f = facts p valid in
    ap position_at (fields_again p)
    ∙ ap (λ (r : Result Pos FenFault). r >>= checked)
    (parts_again p _ _ _ _ (board_again p.board valid.squares) (side_again p.side) (rights_again p.rights) (mark_again p.board p.side p.mark f.mark))
    ∙ ap (unless p) valid.no_fault

-- the same of a text that is said to be the written position
pub position_read : (text : List ℕ) (p : Pos) → IsValid p → text ≡ position_text p → position_of text ≡ Ok p
position_read text p valid is = ap position_of is ∙ position_again p valid

pub ruleset again = (position_read)
