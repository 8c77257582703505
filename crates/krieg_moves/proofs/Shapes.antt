-- Moves of officers, and what the other kinds of move share.
use Rattle.std.proofs.Common.{◌≡◌, ℕ, true, false, not, ◌&&◌, ◌||◌, refl, ◌==◌, sym, ◌∙◌, subst}
use Rattle.std.proofs.lemmas.Bool.{and_left, and_parts, cond-false}
use Rattle.std.specs.Prelude.{Option, Some, None, is_none}
use Rattle.krieg_moves.proofs.Common.{Side, Kind, Pawn, King, Man, Move, is_same_kind, Pos, file_of, Board, man_at, is_man, attacks, can_reach, slides, is_clear, man_attacks, king_square, arrival, board_after, moved, is_en_passant, is_castling, is_marked, Wing, Short, Long}
use Rattle.krieg_board.proofs.Facts.{Facts}
use Rattle.krieg_board.proofs.MenLemmas.{is_man_tells}
use Rattle.krieg_moves.proofs.Effects.{Effect, Effect_moved}
use Rattle.krieg_moves.proofs.Movers.{Mover, attacked_no_king}

pub none_from : {A : Type 0} (x : Option A) → is_none x ≡ true → x ≡ None
none_from None h = refl
none_from (Some a) h = cc

-- a man that a test finds
pub found_man : (side : Side) (which : Kind) (x : Option Man) → is_man side which x ≡ true → (man : Man) × (x ≡ Some man) × (man.side ≡ side) × (man.kind ≡ which)
found_man side which None h = cc
found_man side which (Some man) h = (man, refl, (is_man_tells side which man h).0, (is_man_tells side which man h).1)

-- what an attack tells of the man
pub attack_reaches : (b : Board) (man : Man) (f t : ℕ) → man_at b f ≡ Some man → attacks b f t ≡ true → can_reach man.kind man.side f t ≡ true
unfolding attacks
attack_reaches b man f t is h = reaches_by (man_at b f) is h
  where
    reaches_by : (x : Option Man) → x ≡ Some man → man_attacks b x f t ≡ true → can_reach man.kind man.side f t ≡ true
    reaches_by None is h = cc
    reaches_by (Some m) is h =
        let e : m ≡ man = cc in
        let r = and_parts (not (f == t)) (can_reach m.kind m.side f t && (not (slides m.kind) || is_clear b f t)) h in
        let q = and_parts (can_reach m.kind m.side f t) (not (slides m.kind) || is_clear b f t) r.1 in
        subst (λ (x : Man). can_reach x.kind x.side f t ≡ true) e q.0

-- a man that is no king does not castle
pub castles_not : (wing : Wing) (man : Man) (m : Move) → is_same_kind man.kind King ≡ false → is_castling wing man m ≡ false
castles_not wing man m h = and_left (is_same_kind man.kind King) (m.from == king_square man.side && m.to == arrival wing man.side) h

-- a man that is no pawn does not capture in passing
pub passes_not : (mark : Option ℕ) (man : Man) (m : Move) → is_same_kind man.kind Pawn ≡ false → is_en_passant mark man m ≡ false
passes_not mark man m h = and_left (is_same_kind man.kind Pawn) (is_marked mark m.to && not (file_of m.from == file_of m.to)) h

-- the board where nothing but the man and what he captures changes
pub board_after_plain : (b : Board) (mark : Option ℕ) (man : Man) (m : Move) → is_en_passant mark man m ≡ false → ((wing : Wing) → is_castling wing man m ≡ false) →
    board_after b mark man m ≡ moved b man m
board_after_plain b mark man m h k =
    cond-false (is_en_passant mark man m) _ _ h ∙ (cond-false (is_castling Short man m) _ _ (k Short) ∙ cond-false (is_castling Long man m) _ _ (k Long))

pub effect_plain : (p : Pos) (m : Move) (man : Man) → Mover p m man → is_en_passant p.mark man m ≡ false → ((wing : Wing) → is_castling wing man m ≡ false) →
    ((side : Side) → is_man side King (man_at p.board m.to) ≡ false) → Effect p.board man m (board_after p.board p.mark man m)
effect_plain p m man v h k no_king =
    subst (Effect p.board man m) (sym (board_after_plain p.board p.mark man m h k)) (Effect_moved p.board man m v.departs no_king)

pub effect_officer : (p : Pos) (m : Move) (man : Man) → Facts p → Mover p m man → is_same_kind man.kind Pawn ≡ false → is_same_kind man.kind King ≡ false →
    attacks p.board m.from m.to ≡ true → Effect p.board man m (board_after p.board p.mark man m)
effect_officer p m man f v pawn king a =
    effect_plain p m man v (passes_not p.mark man m pawn) (λ wing. castles_not wing man m king) (attacked_no_king p m man f v a)
