-- Each side has one king, before and after a move that is legal but for its safety, and he decides whether it is in check.
use Rattle.std.proofs.Common.{◌≡◌, ℕ, ◌<◌, true, sym, ◌∙◌, ap, length, subst, arith}
use Rattle.std.specs.Prelude.{Option, Some}
use Rattle.krieg_moves.proofs.Common.{Side, King, Man, Move, other, Pos, Board, man_at, is_man, is_attacked, is_king_attacked, IsValid, count_kind, board_after, is_candidate}
use Rattle.krieg_board.proofs.Facts.{facts}
use Rattle.krieg_board.proofs.Faults.{one_king_each}
use Rattle.krieg_board.proofs.Counting.{counted}
use Rattle.krieg_board.proofs.OneKing.{one_king_attacked}
use Rattle.krieg_moves.proofs.Movers.{mover}
use Rattle.krieg_moves.proofs.Arrivals.{arrives}
use Rattle.krieg_moves.proofs.Keeps.{kings_after}
use Rattle.krieg_moves.proofs.KeepsValid.{effect}

pub one_king : (p : Pos) → IsValid p → (side : Side) → count_kind p.board side King ≡ 1
one_king p v side = one_king_each p.board (facts p v).kings side

pub same_man : (x : Option Man) (a b : Man) → x ≡ Some a → x ≡ Some b → a ≡ b
same_man x a b h k = cc

-- after a move that is legal but for the king's safety
pub record Stands (p : Pos) (man : Man) (m : Move) : Type 0 where
  pub size : length (board_after p.board p.mark man m) ≡ 64
  pub kings : (side : Side) → count_kind (board_after p.board p.mark man m) side King ≡ 1

pub stands : (p : Pos) (man : Man) (m : Move) → IsValid p → man_at p.board m.from ≡ Some man → is_candidate p m ≡ true → Stands p man m
stands p man m valid is h =
    let f = facts p valid in
    let (man', v) = mover p m f h in
    let same : man' ≡ man = same_man (man_at p.board m.from) man' man v.departs.stands is in
    subst (λ (x : Man). Stands p x m) same (record {
      size = (effect p m man' f v).size ∙ f.squares;
      kings = λ side. one_king_each (board_after p.board p.mark man' m) (kings_after p m man' (board_after p.board p.mark man' m) f (arrives p m man' v) (effect p m man' f v)) side;
    })

-- the same of a board, a side and an enemy that the code found
pub king_decides : (b b' : Board) (side side' by : Side) (k : ℕ) → b' ≡ b → side' ≡ side → by ≡ other side' → length b ≡ 64 → count_kind b side King ≡ 1 → k < 64 →
    is_man side' King (man_at b' k) ≡ true → is_attacked b' k by ≡ is_king_attacked b side
king_decides b b' side side' by k eb es ey size one hk is =
    (λ i. is_attacked (eb i) k ((ey ∙ ap other es) i))
    ∙ sym (one_king_attacked b side k size one hk ((λ i. is_man (sym es i) King (man_at (sym eb i) k)) ∙ is))

pub one_king_found : (b b' : Board) (side side' : Side) → b' ≡ b → side' ≡ side → count_kind b side King ≡ 1 → count_kind b' side' King ≡ 1
one_king_found b b' side side' eb es h = (λ i. count_kind (eb i) (es i) King) ∙ h

-- the king of the side to move stands somewhere
pub king_stands : (p : Pos) → IsValid p → (k : ℕ) × (k < 64) × (is_man p.side King (man_at p.board k) ≡ true)
king_stands p v =
    let f = facts p v in
    let one = one_king p v p.side in
    let (k, l, is) = counted (is_man p.side King) p.board (omega arith) in
    (k, omega (arith, f.squares), is)
