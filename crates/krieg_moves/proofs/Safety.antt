-- Whether a king is safe behind a move, by the board without the man who moves.
use Rattle.std.proofs.Common.{◌≡◌, ℕ, ◌<◌, Bool, true, false, not, ◌&&◌, refl, sym, ◌∙◌, ap, length, set, subst, nat_lt, ◌≢◌}
use Rattle.std.proofs.Math.Bool.{not-not, and-false}
use Rattle.std.specs.Prelude.{Some, None}
use Rattle.std.proofs.lemmas.Bool.{and_from, lt-ltb, both_ways}
use Rattle.krieg_moves.proofs.Common.{Side, Pawn, King, Man, Move, other, is_same_side, is_same_kind, Pos, man_at, is_of, is_man, is_attacked, is_king_attacked, IsValid, count_kind, after, after_by, board_after, moved, placed, is_en_passant, is_castling, is_legal, is_candidate, is_move_of, is_move_of_kind, plain_move, is_answered, Wing}
use Rattle.krieg_board.proofs.Facts.{facts}
use Rattle.krieg_board.proofs.MenLemmas.{is_man_other_kind, same_side_other, same_side_self}
use Rattle.krieg_board.proofs.OneKing.{one_king_attacked}
use Rattle.krieg_moves.proofs.Boards.{man_at_moved_other, man_at_moved_to}
use Rattle.krieg_moves.proofs.Shapes.{board_after_plain, castles_not, passes_not}
use Rattle.krieg_moves.proofs.Movers.{Mover, mover, is_of_man}
use Rattle.krieg_moves.proofs.Kings.{same_man, stands}
use Rattle.krieg_moves.proofs.Answering.{attacked_unanswered, attacked_step}

-- the mover of a candidate is the man on the from-square
pub mover_is : (p : Pos) (m : Move) (man : Man) → IsValid p → man_at p.board m.from ≡ Some man → is_candidate p m ≡ true → Mover p m man
mover_is p m man valid is h =
    let (man', v) = mover p m (facts p valid) h in
    subst (λ (x : Man). Mover p m x) (same_man (man_at p.board m.from) man' man v.departs.stands is) v

-- the parts of a candidate whose man is known
pub candidate_of : (p : Pos) (m : Move) (man : Man) → m.from < 64 → m.to < 64 → man_at p.board m.from ≡ Some man →
    is_candidate p m ≡ (not (is_of p.side (man_at p.board m.to)) && is_move_of (Some man) p m)
unfolding is_candidate
candidate_of p m man hf ht is = λ i. lt-ltb m.from 64 hf i && (lt-ltb m.to 64 ht i && (not (is_of p.side (man_at p.board m.to)) && is_move_of (is i) p m))

-- and whose man is of the side to move
pub candidate_is : (p : Pos) (m : Move) (man : Man) → m.from < 64 → m.to < 64 → man_at p.board m.from ≡ Some man → man.side ≡ p.side →
    is_candidate p m ≡ (not (is_of p.side (man_at p.board m.to)) && is_move_of_kind man.kind p m)
candidate_is p m man hf ht is own =
    candidate_of p m man hf ht is
    ∙ ap (λ t. not (is_of p.side (man_at p.board m.to)) && (t && is_move_of_kind man.kind p m)) (ap (λ s. is_same_side s p.side) own ∙ same_side_self p.side)

-- a move that is no candidate is not legal
pub illegal_off : (p : Pos) (m : Move) → is_candidate p m ≡ false → is_legal p m ≡ false
unfolding is_legal
illegal_off p m h = ap (λ x. x && not (is_king_attacked (after p m).board p.side)) h

-- no move departs from where nobody stands
pub illegal_from_nobody : (p : Pos) (m : Move) → man_at p.board m.from ≡ None → is_legal p m ≡ false
unfolding is_candidate
illegal_from_nobody p m none =
    illegal_off p m
    ((λ i. nat_lt m.from 64 && (nat_lt m.to 64 && (not (is_of p.side (man_at p.board m.to)) && is_move_of (none i) p m)))
    ∙ (λ i. nat_lt m.from 64 && (nat_lt m.to 64 && and-false (not (is_of p.side (man_at p.board m.to))) i))
    ∙ (λ i. nat_lt m.from 64 && and-false (nat_lt m.to 64) i)
    ∙ and-false (nat_lt m.from 64))

-- a move is legal where it is a candidate and what then decides holds
pub legal_as : (p : Pos) (m : Move) (c s : Bool) → is_candidate p m ≡ c → (c ≡ true → is_legal p m ≡ s) → is_legal p m ≡ (c && s)
unfolding is_legal
legal_as p m true s e f = f refl
legal_as p m false s e f = ap (λ x. x && not (is_king_attacked (after p m).board p.side)) e

-- a candidate is legal just where the king is safe on the board after it
legal_safe : (p : Pos) (m : Move) (man : Man) → man_at p.board m.from ≡ Some man → is_candidate p m ≡ true →
    is_legal p m ≡ not (is_king_attacked (board_after p.board p.mark man m) p.side)
unfolding is_legal after
legal_safe p m man is h =
    ap (λ x. x && not (is_king_attacked (after_by p (man_at p.board m.from) m).board p.side)) h
    ∙ ap (λ x. not (is_king_attacked (after_by p x m).board p.side)) is

pub legal_by_king : (p : Pos) (m : Move) (man : Man) (safe : Bool) → man_at p.board m.from ≡ Some man → is_candidate p m ≡ true →
    safe ≡ not (is_king_attacked (board_after p.board p.mark man m) p.side) → safe ≡ is_legal p m
legal_by_king p m man safe is h e = e ∙ sym (legal_safe p m man is h)

enemy_not : (side : Side) (man : Man) (m : Move) → man.side ≡ side → is_of (other side) (Some (placed man m)) ≡ false
enemy_not side man m own = ap (λ s. is_same_side s (other side)) own ∙ same_side_other side

-- a man who is no king, and who takes no pawn in passing, moves legally just where he answers the attacks on his king on the board without him
pub legal_answered : (p : Pos) (m : Move) (man : Man) (k : ℕ) → IsValid p → man_at p.board m.from ≡ Some man → is_same_kind man.kind King ≡ false → is_en_passant p.mark man m ≡ false →
    k < 64 → is_man p.side King (man_at p.board k) ≡ true → is_candidate p m ≡ true → is_legal p m ≡ is_answered (set p.board m.from None) (other p.side) k m.to
legal_answered p m man k valid is officer stays hk king h =
    let v = mover_is p m man valid is h in
    let plain : board_after p.board p.mark man m ≡ moved p.board man m = board_after_plain p.board p.mark man m stays (λ wing. castles_not wing man m officer) in
    let s = stands p man m valid is h in
    let off_from : k ≢ m.from = λ q. both_ways (is_man p.side King (man_at p.board k)) (ap (λ x. is_man p.side King (man_at p.board x)) q ∙ ap (is_man p.side King) is ∙ is_man_other_kind p.side King man officer) king in
    let off_to : k ≢ m.to = λ q. both_ways (is_of p.side (man_at p.board k)) (ap (λ x. is_of p.side (man_at p.board x)) q ∙ v.not_own) (is_of_man p.side King (man_at p.board k) king) in
    let still : is_man p.side King (man_at (moved p.board man m) k) ≡ true = ap (is_man p.side King) (man_at_moved_other p.board man m k off_from off_to) ∙ king in
    legal_safe p m man is h
    ∙ ap (λ b. not (is_king_attacked b p.side)) plain
    ∙ ap not (one_king_attacked (moved p.board man m) p.side k (ap length (sym plain) ∙ s.size) (ap (λ b. count_kind b p.side King) (sym plain) ∙ s.kings p.side) hk still
    ∙ attacked_unanswered p.board man m (other p.side) k (facts p valid).squares v.to_in hk (enemy_not p.side man m v.own))
    ∙ not-not (is_answered (set p.board m.from None) (other p.side) k m.to)

-- a king who does not castle moves legally just where no enemy man attacks his new square once he has left
pub legal_step : (p : Pos) (f t : ℕ) (man : Man) → IsValid p → man_at p.board f ≡ Some man → man.kind ≡ King → ((wing : Wing) → is_castling wing man (plain_move f t) ≡ false) →
    is_candidate p (plain_move f t) ≡ true → is_legal p (plain_move f t) ≡ not (is_attacked (set p.board f None) t (other p.side))
legal_step p f t man valid is king castles h =
    let m : Move = plain_move f t in
    let v = mover_is p m man valid is h in
    let plain : board_after p.board p.mark man m ≡ moved p.board man m =
    board_after_plain p.board p.mark man m (passes_not p.mark man m (ap (λ k. is_same_kind k Pawn) king)) castles in
    let s = stands p man m valid is h in
    let there : is_man p.side King (man_at (moved p.board man m) t) ≡ true =
    ap (is_man p.side King) (man_at_moved_to p.board man m v.departs)
    ∙ and_from (is_same_side man.side p.side) (is_same_kind man.kind King) (ap (λ x. is_same_side x p.side) v.own ∙ same_side_self p.side) (ap (λ k. is_same_kind k King) king) in
    legal_safe p m man is h
    ∙ ap (λ b. not (is_king_attacked b p.side)) plain
    ∙ ap not (one_king_attacked (moved p.board man m) p.side t (ap length (sym plain) ∙ s.size) (ap (λ b. count_kind b p.side King) (sym plain) ∙ s.kings p.side) v.to_in there
    ∙ attacked_step p.board man m (other p.side) (facts p valid).squares v.to_in (enemy_not p.side man m v.own))
