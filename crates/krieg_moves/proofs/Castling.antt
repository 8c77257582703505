-- A king's move has one of the effects, castling on either wing among them.
use Rattle.std.proofs.Common.{◌≡◌, ℕ, Bool, true, false, not, ◌&&◌, ◌||◌, refl, cond, ◌==◌, nat_le, ◌<◌, arith, sym, set, ◌≢◌, ◌∙◌, ap, inl, inr, subst}
use Rattle.std.proofs.lemmas.Bool.{and_from, and_left, and_parts, and_right, cond-false, cond-true, not-true, or_cases, eqb-true, eq-eqb, ne_eqb}
use Rattle.std.specs.Prelude.{Option, Some, None, is_some}
use Rattle.krieg_moves.proofs.Common.{Side, White, Black, Kind, Pawn, King, Man, Move, Rights, is_same_kind, Pos, file_of, rank_of, square_at, home_rank, Board, man_at, is_man, attacks, can_reach, is_clear, is_between, apart, has_castles, has_castle, king_square, corner, arrival, crossing, board_after, moved, with_rook, is_en_passant, is_castling, can_castle, holds, is_safe, is_plain, is_king_move, is_move_of_kind, Wing, Short, Long}
use Rattle.krieg_board.specs.declared.men.Kind.TheVariants.{Rook}
use Rattle.krieg_board.proofs.SquareTests.{every_square_at}
use Rattle.krieg_board.proofs.Facts.{Facts}
use Rattle.krieg_board.proofs.MenLemmas.{same_kind_eq}
use Rattle.krieg_moves.proofs.Effects.{Effect, Effect_castle}
use Rattle.krieg_moves.proofs.Movers.{Mover, attacked_no_king}
use Rattle.krieg_moves.proofs.Shapes.{found_man, attack_reaches, passes_not, effect_plain}

-- the squares of castling differ, and they are on the board
pub record Apart (wing : Wing) (side : Side) : Type 0 where
  pub corner_in : corner wing side < 64
  arrival_in : arrival wing side < 64
  pub crossing_in : crossing wing side < 64
  corner_king : corner wing side ≢ king_square side
  corner_arrival : corner wing side ≢ arrival wing side
  crossing_king : crossing wing side ≢ king_square side
  crossing_arrival : crossing wing side ≢ arrival wing side
  crossing_corner : crossing wing side ≢ corner wing side
  crossed : is_between (king_square side) (corner wing side) (crossing wing side) ≡ true
  arrived : is_between (king_square side) (corner wing side) (arrival wing side) ≡ true

pub squares_apart : (wing : Wing) (side : Side) → Apart wing side
unfolding is_between
squares_apart Short White = record {
  corner_in = omega arith;
  arrival_in = omega arith;
  crossing_in = omega arith;
  corner_king = omega arith;
  corner_arrival = omega arith;
  crossing_king = omega arith;
  crossing_arrival = omega arith;
  crossing_corner = omega arith;
  crossed = refl;
  arrived = refl;
}
squares_apart Long White = record {
  corner_in = omega arith;
  arrival_in = omega arith;
  crossing_in = omega arith;
  corner_king = omega arith;
  corner_arrival = omega arith;
  crossing_king = omega arith;
  crossing_arrival = omega arith;
  crossing_corner = omega arith;
  crossed = refl;
  arrived = refl;
}
squares_apart Short Black = record {
  corner_in = omega arith;
  arrival_in = omega arith;
  crossing_in = omega arith;
  corner_king = omega arith;
  corner_arrival = omega arith;
  crossing_king = omega arith;
  crossing_arrival = omega arith;
  crossing_corner = omega arith;
  crossed = refl;
  arrived = refl;
}
squares_apart Long Black = record {
  corner_in = omega arith;
  arrival_in = omega arith;
  crossing_in = omega arith;
  corner_king = omega arith;
  corner_arrival = omega arith;
  crossing_king = omega arith;
  crossing_arrival = omega arith;
  crossing_corner = omega arith;
  crossed = refl;
  arrived = refl;
}

-- a king that moves by its attack does not castle: it goes one file at most
far_apart : (wing : Wing) (side : Side) → apart (file_of (king_square side)) (file_of (arrival wing side)) ≡ 2
far_apart Short White = refl
far_apart Long White = refl
far_apart Short Black = refl
far_apart Long Black = refl

near_not : (wing : Wing) (side : Side) (f t : ℕ) → nat_le (apart (file_of f) (file_of t)) 1 ≡ true → (f == king_square side && t == arrival wing side) ≡ false
near_not wing side f t h = by_test (f == king_square side) refl (t == arrival wing side) refl
  where
    by_test : (a : Bool) → (f == king_square side) ≡ a → (b : Bool) → (t == arrival wing side) ≡ b → (f == king_square side && t == arrival wing side) ≡ false
    by_test false e b e' = and_left (f == king_square side) (t == arrival wing side) e
    by_test true e false e' = and_right (f == king_square side) (t == arrival wing side) e'
    by_test true e true e' =
        let from_is = eqb-true f (king_square side) e in
        let to_is = eqb-true t (arrival wing side) e' in
        let two : apart (file_of f) (file_of t) ≡ 2 =
        ap (λ x. apart (file_of x) (file_of t)) from_is ∙ (ap (λ x. apart (file_of (king_square side)) (file_of x)) to_is ∙ far_apart wing side) in
        absurd (no_two (apart (file_of f) (file_of t)) h two)
      where
        no_two : (n : ℕ) → nat_le n 1 ≡ true → n ≡ 2 → ⊥
        no_two n h e = (let no : nat_le 2 1 ≡ true = ap (λ x. nat_le x 1) (sym e) ∙ h in cc)

pub king_near : (p : Pos) (m : Move) (man : Man) (wing : Wing) → Mover p m man → man.kind ≡ King → attacks p.board m.from m.to ≡ true → is_castling wing man m ≡ false
king_near p m man wing v king a =
    let r = attack_reaches p.board man m.from m.to v.departs.stands a in
    let near : can_reach King man.side m.from m.to ≡ true = ap (λ k. can_reach k man.side m.from m.to) (sym king) ∙ r in
    let q = and_parts (nat_le (apart (file_of m.from) (file_of m.to)) 1) (nat_le (apart (rank_of m.from) (rank_of m.to)) 1) near in
    and_right (is_same_kind man.kind King) (m.from == king_square man.side && m.to == arrival wing man.side) (near_not wing man.side m.from m.to q.0)

pub record FourCastles (b : Board) (r : Rights) : Type 0 where
  pub white_short : has_castle b r.white_short White 7 ≡ true
  pub white_long : has_castle b r.white_long White 0 ≡ true
  pub black_short : has_castle b r.black_short Black 7 ≡ true
  pub black_long : has_castle b r.black_long Black 0 ≡ true

pub four_castles : (b : Board) (r : Rights) → has_castles b r ≡ true → FourCastles b r
four_castles b r h =
    let p = and_parts (has_castle b r.white_short White 7) (has_castle b r.white_long White 0 && (has_castle b r.black_short Black 7 && has_castle b r.black_long Black 0)) h in
    let q = and_parts (has_castle b r.white_long White 0) (has_castle b r.black_short Black 7 && has_castle b r.black_long Black 0) p.1 in
    let s = and_parts (has_castle b r.black_short Black 7) (has_castle b r.black_long Black 0) q.1 in
    record { white_short = p.0; white_long = q.0; black_short = s.0; black_long = s.1 }

-- a right that is held has its king and its rook on their squares
pub held_castle : (b : Board) (held : Bool) (side : Side) (rook : ℕ) → has_castle b held side rook ≡ true → held ≡ true →
    (is_man side King (man_at b (square_at 4 (home_rank side))) ≡ true) × (is_man side Rook (man_at b (square_at rook (home_rank side))) ≡ true)
held_castle b true side rook h k = and_parts (is_man side King (man_at b (square_at 4 (home_rank side)))) (is_man side Rook (man_at b (square_at rook (home_rank side)))) h
held_castle b false side rook h k = cc

pub rook_stands : (b : Board) (r : Rights) (wing : Wing) (side : Side) → has_castles b r ≡ true → holds r side wing ≡ true → is_man side Rook (man_at b (corner wing side)) ≡ true
rook_stands b r Short White h k = (held_castle b r.white_short White 7 (four_castles b r h).white_short k).1
rook_stands b r Long White h k = (held_castle b r.white_long White 0 (four_castles b r h).white_long k).1
rook_stands b r Short Black h k = (held_castle b r.black_short Black 7 (four_castles b r h).black_short k).1
rook_stands b r Long Black h k = (held_castle b r.black_long Black 0 (four_castles b r h).black_long k).1

none_from_some : {A : Type 0} (x : Option A) → is_some x ≡ false → x ≡ None
none_from_some None h = refl
none_from_some (Some a) h = cc

-- a square between two with a clear way is empty
clear_empty : (b : Board) (f t s : ℕ) → is_clear b f t ≡ true → is_between f t s ≡ true → s < 64 → man_at b s ≡ None
unfolding is_clear
clear_empty b f t s h between l =
    let r = every_square_at (λ s. not (is_between f t s && is_some (man_at b s))) h s l in
    none_from_some (man_at b s) (at_true (is_between f t s) (is_some (man_at b s)) between (not-true (is_between f t s && is_some (man_at b s)) r))
  where
    at_true : (a b : Bool) → a ≡ true → (a && b) ≡ false → b ≡ false
    at_true true b h k = k
    at_true false b h k = cc

-- the king arrives on one wing only
one_wing : (side : Side) (t : ℕ) → t ≡ arrival Long side → (t == arrival Short side) ≡ false
one_wing White t e = ne_eqb t 6 (λ z. omega arith)
one_wing Black t e = ne_eqb t 62 (λ z. omega arith)

castles_short_not : (man : Man) (m : Move) → m.to ≡ arrival Long man.side → is_castling Short man m ≡ false
castles_short_not man m e =
    and_right (is_same_kind man.kind King) (m.from == king_square man.side && m.to == arrival Short man.side)
    (and_right (m.from == king_square man.side) (m.to == arrival Short man.side) (one_wing man.side m.to e))

-- the board after castling
board_after_castling : (b : Board) (mark : Option ℕ) (man : Man) (m : Move) (wing : Wing) → man.kind ≡ King → m.from ≡ king_square man.side → m.to ≡ arrival wing man.side →
    board_after b mark man m ≡ with_rook wing man.side (moved b man m)
board_after_castling b mark man m wing king from_is to_is =
    let no_pawn = passes_not mark man m (ap (λ k. is_same_kind k Pawn) king) in
    cond-false (is_en_passant mark man m) _ _ no_pawn ∙ by_wing wing to_is
  where
    castles : (wing : Wing) → m.to ≡ arrival wing man.side → is_castling wing man m ≡ true
    castles wing to_is =
        and_from (is_same_kind man.kind King) (m.from == king_square man.side && m.to == arrival wing man.side) (ap (λ k. is_same_kind k King) king)
        (and_from (m.from == king_square man.side) (m.to == arrival wing man.side) (eq-eqb m.from (king_square man.side) from_is) (eq-eqb m.to (arrival wing man.side) to_is))

    by_wing : (wing : Wing) → m.to ≡ arrival wing man.side →
        cond (is_castling Short man m) (with_rook Short man.side (moved b man m)) (cond (is_castling Long man m) (with_rook Long man.side (moved b man m)) (moved b man m)) ≡ with_rook wing man.side (moved b man m)
    by_wing Short to_is = cond-true (is_castling Short man m) _ _ (castles Short to_is)
    by_wing Long to_is = cond-false (is_castling Short man m) _ _ (castles_short_not man m to_is) ∙ cond-true (is_castling Long man m) _ _ (castles Long to_is)

man_is : (x : Man) (side : Side) (which : Kind) → x.side ≡ side → x.kind ≡ which → x ≡ record { side = side; kind = which }
man_is x side which e f = λ i. record { side = e i; kind = f i }

-- The king castles: it goes from its own square to an empty one, the wing's rook stands in the corner, and nobody between them.
pub record Castling (p : Pos) (m : Move) (wing : Wing) : Type 0 where
  pub from_is : m.from ≡ king_square p.side
  pub to_is : m.to ≡ arrival wing p.side
  pub empty : man_at p.board m.to ≡ None
  pub rook : man_at p.board (corner wing p.side) ≡ Some (record { side = p.side; kind = Rook })
  pub free : man_at p.board (crossing wing p.side) ≡ None

pub castling_by : (p : Pos) (m : Move) (wing : Wing) → Facts p → can_castle wing p m ≡ true → Castling p m wing
castling_by p m wing f h =
    let safe = is_safe p (king_square p.side) && (is_safe p (crossing wing p.side) && is_safe p (arrival wing p.side)) in
    let clear = is_clear p.board (king_square p.side) (corner wing p.side) in
    let h1 = and_parts (m.from == king_square p.side) (m.to == arrival wing p.side && (holds p.rights p.side wing && (clear && safe))) h in
    let h2 = and_parts (m.to == arrival wing p.side) (holds p.rights p.side wing && (clear && safe)) h1.1 in
    let h3 = and_parts (holds p.rights p.side wing) (clear && safe) h2.1 in
    let h4 = and_parts clear safe h3.1 in
    let to_is : m.to ≡ arrival wing p.side = eqb-true m.to (arrival wing p.side) h2.0 in
    let s = squares_apart wing p.side in
    let (rook, is, side, kind) = found_man p.side Rook (man_at p.board (corner wing p.side)) (rook_stands p.board p.rights wing p.side f.castles h3.0) in
    record {
      from_is = eqb-true m.from (king_square p.side) h1.0;
      to_is = to_is;
      empty = ap (man_at p.board) to_is ∙ clear_empty p.board (king_square p.side) (corner wing p.side) (arrival wing p.side) h4.0 s.arrived s.arrival_in;
      rook = is ∙ ap (λ x. Some x) (man_is rook p.side Rook side kind);
      free = clear_empty p.board (king_square p.side) (corner wing p.side) (crossing wing p.side) h4.0 s.crossed s.crossing_in;
    }

effect_castling : (p : Pos) (m : Move) (man : Man) (wing : Wing) → Facts p → Mover p m man → man.kind ≡ King → can_castle wing p m ≡ true →
    Effect p.board man m (board_after p.board p.mark man m)
effect_castling p m man wing f v king h =
    let c = castling_by p m wing f h in
    let s = squares_apart wing p.side in
    let rook : Man = record { side = p.side; kind = Rook } in
    let board_is : board_after p.board p.mark man m ≡ set (set (moved p.board man m) (corner wing p.side) None) (crossing wing p.side) (Some rook) =
    board_after_castling p.board p.mark man m wing king (c.from_is ∙ ap king_square (sym v.own)) (c.to_is ∙ ap (arrival wing) (sym v.own))
    ∙ ap (λ x. with_rook wing x (moved p.board man m)) v.own in
    subst (Effect p.board man m) (sym board_is)
    (Effect_castle p.board man m (corner wing p.side) (crossing wing p.side) rook v.departs c.empty king
    (omega (arith, f.squares, s.corner_in)) (omega (arith, f.squares, s.crossing_in))
    (λ e. s.corner_king (e ∙ c.from_is)) (λ e. s.corner_arrival (e ∙ c.to_is)) (λ e. s.crossing_king (e ∙ c.from_is)) (λ e. s.crossing_arrival (e ∙ c.to_is)) s.crossing_corner
    c.rook c.free refl (sym v.own))

pub effect_king : (p : Pos) (m : Move) (man : Man) → Facts p → Mover p m man → man.kind ≡ King →
    (attacks p.board m.from m.to || (can_castle Short p m || can_castle Long p m)) ≡ true → Effect p.board man m (board_after p.board p.mark man m)
effect_king p m man f v king h =
    elim (or_cases (attacks p.board m.from m.to) (can_castle Short p m || can_castle Long p m) h) [
      | inl a ↦ effect_plain p m man v (passes_not p.mark man m (ap (λ k. is_same_kind k Pawn) king))
          (λ wing. king_near p m man wing v king a) (attacked_no_king p m man f v a)
      | inr c ↦ elim (or_cases (can_castle Short p m) (can_castle Long p m) c) [
        | inl s ↦ effect_castling p m man Short f v king s
        | inr l ↦ effect_castling p m man Long f v king l
      ]
    ]

arrival_tells : (a b : Wing) (side : Side) → arrival a side ≡ arrival b side → a ≡ b
arrival_tells Short Short side e = refl
arrival_tells Long Long side e = refl
arrival_tells Short Long White e = absurd (omega arith)
arrival_tells Short Long Black e = absurd (omega arith)
arrival_tells Long Short White e = absurd (omega arith)
arrival_tells Long Short Black e = absurd (omega arith)

-- a king that goes as in castling castles
pub castling : (p : Pos) (m : Move) (man : Man) (wing : Wing) → Facts p → Mover p m man → is_castling wing man m ≡ true → Castling p m wing
castling p m man wing f v h =
    let a = and_parts (is_same_kind man.kind King) (m.from == king_square man.side && m.to == arrival wing man.side) h in
    let b = and_parts (m.from == king_square man.side) (m.to == arrival wing man.side) a.1 in
    let king = same_kind_eq man.kind King a.0 in
    let moves : is_king_move p m ≡ true = subst (λ (k : Kind). is_move_of_kind k p m ≡ true) king v.moves in
    let r = and_parts (is_plain m.promo) (attacks p.board m.from m.to || (can_castle Short p m || can_castle Long p m)) moves in
    elim (or_cases (attacks p.board m.from m.to) (can_castle Short p m || can_castle Long p m) r.1) [
      | inl a ↦ absurd (let no = king_near p m man wing v king a in cc)
      | inr c ↦ elim (or_cases (can_castle Short p m) (can_castle Long p m) c) [
        | inl s ↦ on_wing Short (eqb-true m.to (arrival wing man.side) b.1) s
        | inr l ↦ on_wing Long (eqb-true m.to (arrival wing man.side) b.1) l
      ]
    ]
  where
    on_wing : (w : Wing) → m.to ≡ arrival wing man.side → can_castle w p m ≡ true → Castling p m wing
    on_wing w to_is h =
        let c = castling_by p m w f h in
        let same = arrival_tells w wing p.side (sym c.to_is ∙ (to_is ∙ ap (arrival wing) v.own)) in
        subst (λ (x : Wing). Castling p m x) same c
