-- The mark after a move is the square that a two-square advance has crossed.
use Rattle.std.proofs.Common.{◌≡◌, ℕ, Bool, true, false, not, ◌&&◌, ◌||◌, refl, ◌==◌, ◌+◌, arith, sym, ◌≢◌, ◌∙◌, ap, inl, inr, subst}
use Rattle.std.proofs.lemmas.Bool.{and_from, and_parts, cond-false, cond-true, or_cases, eqb-true, eq-eqb, ne_eqb}
use Rattle.std.specs.Prelude.{Some, None, is_none}
use Rattle.krieg_moves.proofs.Common.{Side, White, Black, Kind, Pawn, Man, Move, other, is_same_side, is_same_kind, Pos, file_of, rank_of, square_at, pawn_rank, crossed_rank, landing_rank, last_rank, Board, man_at, is_of, is_man, is_empty, attacks, is_forward, has_mark, is_crossed, board_after, moved, is_marked, is_advance, crossed, mark_after, is_move_of_kind, is_plain, is_step, is_double_step, is_pawn_capture, is_pawn_move, has_promotion}
use Rattle.krieg_board.proofs.MenLemmas.{same_side_self, same_kind_eq, other_other}
use Rattle.krieg_moves.proofs.Boards.{man_at_moved_to, man_at_moved_from, man_at_moved_other}
use Rattle.krieg_moves.proofs.Movers.{Mover}
use Rattle.krieg_moves.proofs.Shapes.{board_after_plain}
use Rattle.krieg_moves.proofs.Pawns.{step, double_step, attack_forward, pawn_castles_not, no_passing, same_file_passes_not}
use Rattle.krieg_moves.proofs.Arrivals.{placed_is}

-- a pawn that goes to the next rank makes no two-square advance
next_rank_not : (side : Side) (f t : ℕ) → is_forward side f t ≡ true → rank_of f ≡ pawn_rank side → rank_of t ≡ landing_rank side → ⊥
next_rank_not White f t h d l = let r = eqb-true (rank_of t) (rank_of f + 1) h in omega arith
next_rank_not Black f t h d l = let r = eqb-true (rank_of f) (rank_of t + 1) h in omega arith

is_double : (p : Pos) (m : Move) (man : Man) → Mover p m man → man.kind ≡ Pawn → rank_of m.from ≡ pawn_rank p.side → rank_of m.to ≡ landing_rank p.side →
    (is_step p.board p.side m || (is_double_step p.board p.side m || is_pawn_capture p m)) ≡ true → is_double_step p.board p.side m ≡ true
is_double p m man v pawn departs lands h =
    elim (or_cases (is_step p.board p.side m) (is_double_step p.board p.side m || is_pawn_capture p m) h) [
      | inl s ↦ absurd (next_rank_not p.side m.from m.to (step p m s).forward departs lands)
      | inr r ↦ elim (or_cases (is_double_step p.board p.side m) (is_pawn_capture p m) r) [
        | inl d ↦ d
        | inr c ↦ absurd (next_rank_not p.side m.from m.to
            (attack_forward p m man v pawn (and_parts (attacks p.board m.from m.to) (is_of (other p.side) (man_at p.board m.to) || is_marked p.mark m.to) c).0) departs lands)
      ]
    ]

-- the squares of a two-square advance
record Advance (side : Side) (f t : ℕ) : Type 0 where
  crossed_rank_is : (rank_of (crossed side f) == crossed_rank side) ≡ true
  landing_is : square_at (file_of (crossed side f)) (landing_rank side) ≡ t
  start_is : square_at (file_of (crossed side f)) (pawn_rank side) ≡ f
  not_from : crossed side f ≢ f
  not_to : crossed side f ≢ t
  not_last : (rank_of t == last_rank side) ≡ false

advance : (side : Side) (f t : ℕ) → file_of f ≡ file_of t → rank_of f ≡ pawn_rank side → rank_of t ≡ landing_rank side → Advance side f t
advance White f t file departs lands = record {
  crossed_rank_is = eq-eqb (rank_of (crossed White f)) 2 (omega arith);
  landing_is = omega arith;
  start_is = omega arith;
  not_from = λ e. omega arith;
  not_to = λ e. omega arith;
  not_last = ne_eqb (rank_of t) 7 (λ e. omega arith);
}
advance Black f t file departs lands = record {
  crossed_rank_is = eq-eqb (rank_of (crossed Black f)) 5 (omega arith);
  landing_is = omega arith;
  start_is = omega arith;
  not_from = λ e. omega arith;
  not_to = λ e. omega arith;
  not_last = ne_eqb (rank_of t) 0 (λ e. omega arith);
}

-- after a two-square advance the crossed square is a mark
crossed_by : (next : Board) (side : Side) (f t : ℕ) → Advance side f t → is_man side Pawn (man_at next t) ≡ true → man_at next (crossed side f) ≡ None → man_at next f ≡ None →
    is_crossed next side (crossed side f) ≡ true
crossed_by next side f t a there empty left =
    let s = crossed side f in
    let pawn = is_man side Pawn (man_at next (square_at (file_of s) (landing_rank side))) in
    let start = is_empty next (square_at (file_of s) (pawn_rank side)) in
    and_from (rank_of s == crossed_rank side) (pawn && (is_empty next s && start)) a.crossed_rank_is
    (and_from pawn (is_empty next s && start) (ap (λ x. is_man side Pawn (man_at next x)) a.landing_is ∙ there)
    (and_from (is_empty next s) start (ap is_none empty) (ap (λ x. is_none (man_at next x)) a.start_is ∙ ap is_none left)))

crossed_after : (p : Pos) (m : Move) (man : Man) → Mover p m man → is_advance man m ≡ true → is_crossed (board_after p.board p.mark man m) p.side (crossed p.side m.from) ≡ true
crossed_after p m man v h =
    let a = and_parts (is_same_kind man.kind Pawn) (rank_of m.from == pawn_rank man.side && rank_of m.to == landing_rank man.side) h in
    let b = and_parts (rank_of m.from == pawn_rank man.side) (rank_of m.to == landing_rank man.side) a.1 in
    let departs = eqb-true (rank_of m.from) (pawn_rank man.side) b.0 ∙ ap pawn_rank v.own in
    let lands = eqb-true (rank_of m.to) (landing_rank man.side) b.1 ∙ ap landing_rank v.own in
    let pawn = same_kind_eq man.kind Pawn a.0 in
    let moves : is_pawn_move p m ≡ true = subst (λ (k : Kind). is_move_of_kind k p m ≡ true) pawn v.moves in
    let r = and_parts (has_promotion p.side m) (is_step p.board p.side m || (is_double_step p.board p.side m || is_pawn_capture p m)) moves in
    let double = double_step p m (is_double p m man v pawn departs lands r.1) in
    let file = eqb-true (file_of m.from) (file_of m.to) double.straight.same_file in
    let s = advance p.side m.from m.to file departs lands in
    let plain : is_plain m.promo ≡ true = sym (cond-false (rank_of m.to == last_rank p.side) (not (is_plain m.promo)) (is_plain m.promo) s.not_last) ∙ r.0 in
    let board_is = board_after_plain p.board p.mark man m (no_passing p man m (same_file_passes_not (is_marked p.mark m.to) (file_of m.from == file_of m.to) double.straight.same_file))
    (pawn_castles_not man m pawn) in
    let d = v.departs in
    let there : is_man p.side Pawn (man_at (moved p.board man m) m.to) ≡ true =
    ap (is_man p.side Pawn) (man_at_moved_to p.board man m d ∙ ap (λ x. Some x) (placed_is man m plain))
    ∙ and_from (is_same_side man.side p.side) (is_same_kind man.kind Pawn) (ap (λ s. is_same_side s p.side) v.own ∙ same_side_self p.side) a.0 in
    ap (λ x. is_crossed x p.side (crossed p.side m.from)) board_is
    ∙ crossed_by (moved p.board man m) p.side m.from m.to s there
    (man_at_moved_other p.board man m (crossed p.side m.from) s.not_from s.not_to ∙ double.free) (man_at_moved_from p.board man m d)

pub mark_stands : (p : Pos) (m : Move) (man : Man) → Mover p m man → has_mark (board_after p.board p.mark man m) (other p.side) (mark_after man m) ≡ true
mark_stands p m man v = by_advance (is_advance man m) refl
  where
    next : Board
    next = board_after p.board p.mark man m

    by_advance : (t : Bool) → is_advance man m ≡ t → has_mark (board_after p.board p.mark man m) (other p.side) (mark_after man m) ≡ true
    by_advance false h = ap (has_mark (board_after p.board p.mark man m) (other p.side)) (cond-false (is_advance man m) (Some (crossed man.side m.from)) None h)
    by_advance true h =
        ap (has_mark (board_after p.board p.mark man m) (other p.side)) (cond-true (is_advance man m) (Some (crossed man.side m.from)) None h)
        ∙ (ap (λ s. is_crossed (board_after p.board p.mark man m) s (crossed man.side m.from)) (other_other p.side)
        ∙ (ap (λ s. is_crossed (board_after p.board p.mark man m) p.side (crossed s m.from)) v.own ∙ crossed_after p m man v h))
