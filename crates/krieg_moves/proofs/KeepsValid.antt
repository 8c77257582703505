-- The position after a legal move is valid.
use Rattle.std.proofs.Common.{◌≡◌, ℕ, true, false, not, ◌||◌, refl, sym, ◌∙◌, ap, length}
use Rattle.std.proofs.lemmas.Bool.{and_parts, not-true}
use Rattle.std.specs.Prelude.{Option, Some, None}
use Rattle.krieg_moves.proofs.Common.{Side, Kind, Pawn, King, Man, Move, Rights, other, is_same_kind, Pos, Board, man_at, attacks, is_king_attacked, IsValid, first_fault, after, after_by, board_after, rights_after, mark_after, is_legal, is_candidate, is_move_of_kind, is_officer_move, is_plain, is_step, is_double_step, is_pawn_capture, has_promotion, can_castle, Short, Long}
use Rattle.krieg_board.specs.declared.men.Kind.TheVariants.{Knight, Bishop, Rook, Queen}
use Rattle.krieg_board.proofs.Facts.{Facts, facts, no_fault}
use Rattle.krieg_board.proofs.MenLemmas.{other_other}
use Rattle.krieg_moves.proofs.Effects.{Effect}
use Rattle.krieg_moves.proofs.Movers.{Mover, mover}
use Rattle.krieg_moves.proofs.Shapes.{effect_officer}
use Rattle.krieg_moves.proofs.Castling.{effect_king}
use Rattle.krieg_moves.proofs.Pawns.{effect_pawn}
use Rattle.krieg_moves.proofs.Arrivals.{arrives}
use Rattle.krieg_moves.proofs.Keeps.{kings_after, small_after, pawns_after, castles_after}
use Rattle.krieg_moves.proofs.Marks.{mark_stands}

pub effect : (p : Pos) (m : Move) (man : Man) → Facts p → Mover p m man → Effect p.board man m (board_after p.board p.mark man m)
effect p m man f v = by_kind man.kind refl v.moves
  where
    officer : (k : Kind) → man.kind ≡ k → is_same_kind k Pawn ≡ false → is_same_kind k King ≡ false → is_officer_move p m ≡ true →
        Effect p.board man m (board_after p.board p.mark man m)
    officer k e pawn king h =
        effect_officer p m man f v (ap (λ x. is_same_kind x Pawn) e ∙ pawn) (ap (λ x. is_same_kind x King) e ∙ king)
        (and_parts (is_plain m.promo) (attacks p.board m.from m.to) h).1

    by_kind : (k : Kind) → man.kind ≡ k → is_move_of_kind k p m ≡ true → Effect p.board man m (board_after p.board p.mark man m)
    by_kind Pawn e h = effect_pawn p m man f v e (and_parts (has_promotion p.side m) (is_step p.board p.side m || (is_double_step p.board p.side m || is_pawn_capture p m)) h).1
    by_kind Knight e h = officer Knight e refl refl h
    by_kind Bishop e h = officer Bishop e refl refl h
    by_kind Rook e h = officer Rook e refl refl h
    by_kind Queen e h = officer Queen e refl refl h
    by_kind King e h = effect_king p m man f v e (and_parts (is_plain m.promo) (attacks p.board m.from m.to || (can_castle Short p m || can_castle Long p m)) h).1

-- the facts of the position after a move of that man
pub facts_after : (p : Pos) (m : Move) (man : Man) → Facts p → Mover p m man → is_king_attacked (board_after p.board p.mark man m) p.side ≡ false →
    Facts (record { board = board_after p.board p.mark man m; side = other p.side; rights = rights_after p.rights man m; mark = mark_after man m })
facts_after p m man f v safe =
    let e = effect p m man f v in
    let a = arrives p m man v in
    record {
      squares = e.size ∙ f.squares;
      kings = kings_after p m man (board_after p.board p.mark man m) f a e;
      pawns = pawns_after p m man (board_after p.board p.mark man m) f a e;
      small = small_after p m man (board_after p.board p.mark man m) f a e;
      idle = ap (is_king_attacked (board_after p.board p.mark man m)) (other_other p.side) ∙ safe;
      castles = castles_after p m man (board_after p.board p.mark man m) f v e;
      mark = mark_stands p m man v;
    }

-- the position after a legal move is valid
pub valid_after : (p : Pos) (m : Move) → IsValid p → is_legal p m ≡ true → IsValid (after p m)
unfolding is_legal after
valid_after p m valid h =
    let f = facts p valid in
    let l = and_parts (is_candidate p m) (not (is_king_attacked (after p m).board p.side)) h in
    let (man, v) = mover p m f l.0 in
    let safe = not-true (is_king_attacked (after p m).board p.side) l.1 in
    let is : after p m ≡ record { board = board_after p.board p.mark man m; side = other p.side; rights = rights_after p.rights man m; mark = mark_after man m } =
    ap (λ x. after_by p x m) v.departs.stands in
    let now = facts_after p m man f v (ap (λ x. is_king_attacked x.board p.side) (sym is) ∙ safe) in
    record { squares = ap (λ x. length x.board) is ∙ now.squares; no_fault = ap first_fault is ∙ no_fault _ now }

-- and so has no fault
pub no_fault_after : (p : Pos) (m : Move) → IsValid p → is_legal p m ≡ true → first_fault (after p m) ≡ None
no_fault_after p m valid h = (valid_after p m valid h).no_fault

-- the same, as the parts that the code makes
pub no_fault_parts : (p : Pos) (m : Move) (man : Man) (board : Board) (side : Side) (rights : Rights) (mark : Option ℕ) →
    board ≡ board_after p.board p.mark man m → side ≡ other p.side → rights ≡ rights_after p.rights man m → mark ≡ mark_after man m →
    IsValid p → is_legal p m ≡ true → man_at p.board m.from ≡ Some man →
    first_fault (record { board = board; side = side; rights = rights; mark = mark }) ≡ None
unfolding after
no_fault_parts p m man board side rights mark eb es er em valid h is =
    ap first_fault (λ i. record { board = eb i; side = es i; rights = er i; mark = em i })
    ∙ (ap first_fault (sym (ap (λ x. after_by p x m) is)) ∙ no_fault_after p m valid h)

-- the board after a legal move has 64 squares
pub size_parts : (p : Pos) (m : Move) (man : Man) (board : Board) → board ≡ board_after p.board p.mark man m → IsValid p → is_legal p m ≡ true →
    man_at p.board m.from ≡ Some man → length board ≡ 64
unfolding after
size_parts p m man board e valid h is =
    ap length e ∙ sym (ap (λ x. length (after_by p x m).board) is) ∙ (valid_after p m valid h).squares
