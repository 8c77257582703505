-- What a legal move tells: who moves, and whether a promotion is named.
use Rattle.std.proofs.Common.{◌≡◌, ◌<◌, Bool, true, false, not, ◌&&◌, ◌||◌, refl, cond, nat_lt, ◌==◌, sym, ◌∙◌, ap}
use Rattle.std.proofs.lemmas.Bool.{and_parts}
use Rattle.std.specs.Prelude.{Option, Some, None}
use Rattle.krieg_moves.proofs.Common.{Kind, Pawn, King, Man, Move, is_same_side, is_same_kind, Pos, rank_of, last_rank, man_at, is_of, is_man, attacks, is_king_attacked, after, promotes, is_legal, is_candidate, is_move_of, is_move_of_kind, is_plain, has_promotion, is_step, is_double_step, is_pawn_capture, can_castle, Short, Long}
use Rattle.krieg_board.specs.declared.men.Kind.TheVariants.{Knight, Bishop, Rook, Queen}
use Rattle.krieg_moves.proofs.Movers.{below_from}

-- the parts of a legal move that speak of the mover
pub record Legal (p : Pos) (m : Move) : Type 0 where
  pub from_in : nat_lt m.from 64 ≡ true
  pub to_in : nat_lt m.to 64 ≡ true
  pub moves : is_move_of (man_at p.board m.from) p m ≡ true

pub legal : (p : Pos) (m : Move) → is_legal p m ≡ true → Legal p m
unfolding is_legal is_candidate
legal p m h =
    let c = and_parts (is_candidate p m) (not (is_king_attacked (after p m).board p.side)) h in
    let u = and_parts (nat_lt m.from 64) (nat_lt m.to 64 && (not (is_of p.side (man_at p.board m.to)) && is_move_of (man_at p.board m.from) p m)) c.0 in
    let t = and_parts (nat_lt m.to 64) (not (is_of p.side (man_at p.board m.to)) && is_move_of (man_at p.board m.from) p m) u.1 in
    record { from_in = u.0; to_in = t.0; moves = (and_parts (not (is_of p.side (man_at p.board m.to))) (is_move_of (man_at p.board m.from) p m) t.1).1 }

-- both of its squares are on the board
pub legal_squares : (p : Pos) (m : Move) → is_legal p m ≡ true → (m.from < 64) × (m.to < 64)
legal_squares p m h = let l = legal p m h in (below_from m.from 64 l.from_in, below_from m.to 64 l.to_in)

-- a man of the side to move stands on the from-square
pub legal_own : (p : Pos) (m : Move) → is_legal p m ≡ true → is_of p.side (man_at p.board m.from) ≡ true
legal_own p m h = own (man_at p.board m.from) (legal p m h).moves
  where
    own : (x : Option Man) → is_move_of x p m ≡ true → is_of p.side x ≡ true
    own None h = cc
    own (Some man) h = (and_parts (is_same_side man.side p.side) (is_move_of_kind man.kind p m) h).0

-- no promotion is named exactly where no pawn reaches the last rank
pub legal_promotion : (p : Pos) (m : Move) → is_legal p m ≡ true → is_plain m.promo ≡ not (promotes p m.from m.to)
legal_promotion p m h = by_man (man_at p.board m.from) (legal p m h).moves
  where
    other_kind : (side last : Bool) (which : Kind) → is_same_kind which Pawn ≡ false → is_plain m.promo ≡ true → is_plain m.promo ≡ not ((side && is_same_kind which Pawn) && last)
    other_kind true last which officer plain = plain ∙ sym (ap (λ t. not (t && last)) officer)
    other_kind false last which officer plain = plain

    of_pawn : (side last plain : Bool) → side ≡ true → cond last (not plain) plain ≡ true → plain ≡ not ((side && true) && last)
    of_pawn true true true e h = cc
    of_pawn true true false e h = refl
    of_pawn true false plain e h = h
    of_pawn false last plain e h = cc

    by_kind : (side : Bool) (which : Kind) → side ≡ true → is_move_of_kind which p m ≡ true → is_plain m.promo ≡ not ((side && is_same_kind which Pawn) && rank_of m.to == last_rank p.side)
    by_kind side Pawn e h =
        of_pawn side (rank_of m.to == last_rank p.side) (is_plain m.promo) e
        (and_parts (has_promotion p.side m) (is_step p.board p.side m || (is_double_step p.board p.side m || is_pawn_capture p m)) h).0
    by_kind side Knight e h = other_kind side (rank_of m.to == last_rank p.side) Knight refl (and_parts (is_plain m.promo) (attacks p.board m.from m.to) h).0
    by_kind side Bishop e h = other_kind side (rank_of m.to == last_rank p.side) Bishop refl (and_parts (is_plain m.promo) (attacks p.board m.from m.to) h).0
    by_kind side Rook e h = other_kind side (rank_of m.to == last_rank p.side) Rook refl (and_parts (is_plain m.promo) (attacks p.board m.from m.to) h).0
    by_kind side Queen e h = other_kind side (rank_of m.to == last_rank p.side) Queen refl (and_parts (is_plain m.promo) (attacks p.board m.from m.to) h).0
    by_kind side King e h =
        other_kind side (rank_of m.to == last_rank p.side) King refl
        (and_parts (is_plain m.promo) (attacks p.board m.from m.to || (can_castle Short p m || can_castle Long p m)) h).0

    by_man : (x : Option Man) → is_move_of x p m ≡ true → is_plain m.promo ≡ not (is_man p.side Pawn x && rank_of m.to == last_rank p.side)
    by_man None h = cc
    by_man (Some man) h =
        let r = and_parts (is_same_side man.side p.side) (is_move_of_kind man.kind p m) h in
        by_kind (is_same_side man.side p.side) man.kind r.0 r.1
