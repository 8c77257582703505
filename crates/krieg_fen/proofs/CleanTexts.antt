-- Which bytes stand in written squares, moves and positions: none is a line feed, and only a position has spaces. Nor has a written line of a side or of a list a line feed.
use Rattle.std.proofs.Common.{◌≡◌, ℕ, ◌^◌, ◌<◌, true, List, [], ◌∷◌, ◌++◌, map, refl, arith}
use Rattle.std.specs.Prelude.{codes}
use Rattle.krieg_fen.proofs.Common.{Side, White, Black, Move, Promo, Plain, Pos, is_line, AreLines, side_line, side_mark, list_head, number_text, square_text, promo_text, move_text, board_text, side_text, rights_text, state_text, position_text}
use Rattle.krieg_board.specs.declared.men.Promo.TheVariants.{Queen, Rook, Bishop, Knight}
use Rattle.krieg_text.proofs.Free.{Above, above_append, above_less}
use Rattle.krieg_fen.proofs.RankTexts.{board_above}
use Rattle.krieg_fen.proofs.FenTexts.{side_above, rights_above, mark_above}
use Rattle.krieg_text.proofs.LineTexts.{line_above, line_append}
use Rattle.krieg_text.proofs.CleanTexts.{number_line}

pub square_above : (s : ℕ) → Above 48 (square_text s)
square_above s = (omega arith, (omega arith, tt))

promo_above : (p : Promo) → Above 48 (promo_text p)
promo_above Plain = tt
promo_above Queen = (omega arith, tt)
promo_above Rook = (omega arith, tt)
promo_above Bishop = (omega arith, tt)
promo_above Knight = (omega arith, tt)

-- letters and digits alone
pub move_above : (m : Move) → Above 48 (move_text m)
unfolding move_text
move_above m = above_append 48 (square_text m.from) (square_text m.to ++ promo_text m.promo) (square_above m.from) (above_append 48 (square_text m.to) (promo_text m.promo) (square_above m.to) (promo_above m.promo))

-- no byte below a space
pub position_above : (p : Pos) → Above 31 (position_text p)
unfolding position_text state_text
position_above p =
    above_append 31 (board_text p.board) _ (above_less 31 32 _ (omega arith) (board_above p.board)) (
      omega arith,
      above_append 31 (side_text p.side) _ (above_less 31 32 _ (omega arith) (side_above p.side)) (
        omega arith,
        above_append 31 (rights_text p.rights) _ (above_less 31 32 _ (omega arith) (rights_above p.rights)) (
          omega arith,
          above_less 31 32 _ (omega arith) (mark_above p.mark),
        ),
      ),
    )

-- each of them is part of a line
pub move_line : (m : Move) → is_line (move_text m) ≡ true
move_line m = line_above 48 (move_text m) (omega arith) (move_above m)

pub position_line : (p : Pos) → is_line (position_text p) ≡ true
position_line p = line_above 31 (position_text p) (omega arith) (position_above p)

pub side_is : (who : Side) → is_line (side_line who) ≡ true
side_is White = refl
side_is Black = refl

pub positions_are : (ps : List Pos) → AreLines (map position_text ps)
positions_are [] = tt
positions_are (p ∷ ps) = (position_line p, positions_are ps)

pub list_head_are : (who : Side) (n : ℕ) → n < 2 ^ 64 → AreLines (list_head who n)
list_head_are who n fits = (side_is who, (line_append (codes "list ") (number_text n) refl (number_line n fits), tt))

pub mark_line : (who : Side) → is_line (side_mark who) ≡ true
mark_line White = refl
mark_line Black = refl
