-- A pawn's move has one of the effects.
use Rattle.std.proofs.Common.{◌≡◌, ℕ, Bool, true, false, not, ◌&&◌, ◌||◌, refl, ◌==◌, ◌+◌, ◌<◌, arith, sym, set, ◌≢◌, ◌∙◌, ap, inl, inr, subst}
use Rattle.std.proofs.lemmas.Bool.{and_from, and_left, and_parts, cond-true, or_cases, eqb-true, ne_eqb}
use Rattle.std.specs.Prelude.{Option, Some, None}
use Rattle.krieg_moves.proofs.Common.{Side, White, Black, Kind, Pawn, King, Man, Move, other, is_same_kind, Pos, file_of, rank_of, square_at, pawn_rank, crossed_rank, landing_rank, Board, man_at, is_empty, is_of, is_man, attacks, can_reach, apart, is_forward, has_mark, is_crossed, board_after, moved, is_en_passant, is_castling, is_marked, passed_square, crossed, is_step, is_double_step, is_pawn_capture, is_pawn_move, is_move_of_kind, has_promotion, Wing}
use Rattle.krieg_board.proofs.Facts.{Facts}
use Rattle.krieg_board.proofs.MenLemmas.{same_kind_eq}
use Rattle.krieg_moves.proofs.Effects.{Effect, Effect_passing}
use Rattle.krieg_moves.proofs.Movers.{Mover, attacked_no_king, empty_no_king}
use Rattle.krieg_moves.proofs.Shapes.{none_from, found_man, attack_reaches, castles_not, effect_plain}

-- a pawn that goes straight forward
pub record Straight (p : Pos) (m : Move) : Type 0 where
  pub empty : man_at p.board m.to ≡ None
  pub same_file : (file_of m.from == file_of m.to) ≡ true

pub pawn_castles_not : (man : Man) (m : Move) → man.kind ≡ Pawn → (wing : Wing) → is_castling wing man m ≡ false
pawn_castles_not man m pawn wing = castles_not wing man m (ap (λ k. is_same_kind k King) pawn)

pub no_passing : (p : Pos) (man : Man) (m : Move) → (is_marked p.mark m.to && not (file_of m.from == file_of m.to)) ≡ false → is_en_passant p.mark man m ≡ false
no_passing p man m h = go (is_same_kind man.kind Pawn)
  where
    go : (t : Bool) → (t && (is_marked p.mark m.to && not (file_of m.from == file_of m.to))) ≡ false
    go true = h
    go false = refl

pub same_file_passes_not : (t u : Bool) → u ≡ true → (t && not u) ≡ false
same_file_passes_not true true h = refl
same_file_passes_not true false h = cc
same_file_passes_not false u h = refl

pub effect_straight : (p : Pos) (m : Move) (man : Man) → Mover p m man → man.kind ≡ Pawn → Straight p m → Effect p.board man m (board_after p.board p.mark man m)
effect_straight p m man v pawn s =
    effect_plain p m man v (no_passing p man m (same_file_passes_not (is_marked p.mark m.to) (file_of m.from == file_of m.to) s.same_file))
    (pawn_castles_not man m pawn) (empty_no_king p m s.empty)

-- what a step tells
pub record Step (p : Pos) (m : Move) : Type 0 where
  pub straight : Straight p m
  pub forward : is_forward p.side m.from m.to ≡ true

pub step : (p : Pos) (m : Move) → is_step p.board p.side m ≡ true → Step p m
step p m h =
    let r = and_parts (file_of m.from == file_of m.to) (is_forward p.side m.from m.to && is_empty p.board m.to) h in
    let q = and_parts (is_forward p.side m.from m.to) (is_empty p.board m.to) r.1 in
    record { straight = record { empty = none_from (man_at p.board m.to) q.1; same_file = r.0 }; forward = q.0 }

-- what a two-square advance tells
pub record DoubleStep (p : Pos) (m : Move) : Type 0 where
  pub straight : Straight p m
  pub departs : rank_of m.from ≡ pawn_rank p.side
  pub lands : rank_of m.to ≡ landing_rank p.side
  pub free : man_at p.board (crossed p.side m.from) ≡ None

pub double_step : (p : Pos) (m : Move) → is_double_step p.board p.side m ≡ true → DoubleStep p m
double_step p m h =
    let free = is_empty p.board (crossed p.side m.from) && is_empty p.board m.to in
    let r = and_parts (file_of m.from == file_of m.to) (rank_of m.from == pawn_rank p.side && (rank_of m.to == landing_rank p.side && free)) h in
    let q = and_parts (rank_of m.from == pawn_rank p.side) (rank_of m.to == landing_rank p.side && free) r.1 in
    let s = and_parts (rank_of m.to == landing_rank p.side) free q.1 in
    let t = and_parts (is_empty p.board (crossed p.side m.from)) (is_empty p.board m.to) s.1 in
    record {
      straight = record { empty = none_from (man_at p.board m.to) t.1; same_file = r.0 };
      departs = eqb-true (rank_of m.from) (pawn_rank p.side) q.0;
      lands = eqb-true (rank_of m.to) (landing_rank p.side) s.0;
      free = none_from (man_at p.board (crossed p.side m.from)) t.0;
    }

-- a pawn's attack goes to the next rank and the next file
pub attack_forward : (p : Pos) (m : Move) (man : Man) → Mover p m man → man.kind ≡ Pawn → attacks p.board m.from m.to ≡ true → is_forward p.side m.from m.to ≡ true
attack_forward p m man v pawn a =
    let r = attack_reaches p.board man m.from m.to v.departs.stands a in
    let q : can_reach Pawn man.side m.from m.to ≡ true = ap (λ k. can_reach k man.side m.from m.to) (sym pawn) ∙ r in
    ap (λ s. is_forward s m.from m.to) (sym v.own) ∙ (and_parts (apart (file_of m.from) (file_of m.to) == 1) (is_forward man.side m.from m.to) q).1

pub leaves_file : (p : Pos) (m : Move) (man : Man) → Mover p m man → man.kind ≡ Pawn → attacks p.board m.from m.to ≡ true → apart (file_of m.from) (file_of m.to) ≡ 1
leaves_file p m man v pawn a =
    let r = attack_reaches p.board man m.from m.to v.departs.stands a in
    let q : can_reach Pawn man.side m.from m.to ≡ true = ap (λ k. can_reach k man.side m.from m.to) (sym pawn) ∙ r in
    eqb-true (apart (file_of m.from) (file_of m.to)) 1 (and_parts (apart (file_of m.from) (file_of m.to) == 1) (is_forward man.side m.from m.to) q).0

-- what a mark tells of the pawn that crossed it
pub record Crossed (b : Board) (side : Side) (s : ℕ) : Type 0 where
  pub rank : rank_of s ≡ crossed_rank (other side)
  pub pawn : is_man (other side) Pawn (man_at b (square_at (file_of s) (landing_rank (other side)))) ≡ true
  pub empty : man_at b s ≡ None

crossed_by : (b : Board) (side : Side) (s : ℕ) → is_crossed b (other side) s ≡ true → Crossed b side s
crossed_by b side s h =
    let stands = is_man (other side) Pawn (man_at b (square_at (file_of s) (landing_rank (other side)))) in
    let left = is_empty b (square_at (file_of s) (pawn_rank (other side))) in
    let r = and_parts (rank_of s == crossed_rank (other side)) (stands && (is_empty b s && left)) h in
    let q = and_parts stands (is_empty b s && left) r.1 in
    let t = and_parts (is_empty b s) left q.1 in
    record { rank = eqb-true (rank_of s) (crossed_rank (other side)) r.0; pawn = q.0; empty = none_from (man_at b s) t.0 }

marked_is : (mark : Option ℕ) (b : Board) (side : Side) (s : ℕ) → is_marked mark s ≡ true → has_mark b side mark ≡ true → is_crossed b (other side) s ≡ true
marked_is None b side s h k = cc
marked_is (Some t) b side s h k = subst (λ (x : ℕ). is_crossed b (other side) x ≡ true) (eqb-true t s h) k

-- what a square tells that is marked
pub marked_crossed : (p : Pos) (s : ℕ) → Facts p → is_marked p.mark s ≡ true → Crossed p.board p.side s
marked_crossed p s f h = crossed_by p.board p.side s (marked_is p.mark p.board p.side s h f.mark)

-- a pawn that arrives on the mark departs from the rank of the pawn that crossed it
passed_rank : (side : Side) (f t : ℕ) → is_forward side f t ≡ true → rank_of t ≡ crossed_rank (other side) → rank_of f ≡ landing_rank (other side)
passed_rank White f t h e = let r = eqb-true (rank_of t) (rank_of f + 1) h in omega arith
passed_rank Black f t h e = let r = eqb-true (rank_of f) (rank_of t + 1) h in omega arith

passed_apart : (side : Side) (f t : ℕ) → f < 64 → apart (file_of f) (file_of t) ≡ 1 → is_forward side f t ≡ true →
    (square_at (file_of t) (rank_of f) < 64) × (square_at (file_of t) (rank_of f) ≢ f) × (square_at (file_of t) (rank_of f) ≢ t)
passed_apart White f t l files h = let r = eqb-true (rank_of t) (rank_of f + 1) h in (omega arith, (λ e. omega arith), (λ e. omega arith))
passed_apart Black f t l files h = let r = eqb-true (rank_of f) (rank_of t + 1) h in (omega arith, (λ e. omega arith), (λ e. omega arith))

pub other_file : (a b : ℕ) → apart a b ≡ 1 → (a == b) ≡ false
other_file a b h = ne_eqb a b (λ e. omega arith)

-- A capture in passing: the to-square is empty, and the enemy pawn that is captured stands on the passed square.
pub record Passing (p : Pos) (m : Move) (man : Man) : Type 0 where
  pub passes : is_en_passant p.mark man m ≡ true
  pub empty : man_at p.board m.to ≡ None
  pub gone : Man
  pub stands : man_at p.board (passed_square m) ≡ Some gone
  pub enemy : gone.side ≡ other p.side
  pub kind : gone.kind ≡ Pawn
  pub inside : passed_square m < 64
  pub not_from : passed_square m ≢ m.from
  pub not_to : passed_square m ≢ m.to

passing_marked : (p : Pos) (m : Move) (man : Man) → Facts p → Mover p m man → man.kind ≡ Pawn → attacks p.board m.from m.to ≡ true → is_marked p.mark m.to ≡ true → Passing p m man
passing_marked p m man f v pawn a marked =
    let c = marked_crossed p m.to f marked in
    let files = leaves_file p m man v pawn a in
    let forward = attack_forward p m man v pawn a in
    let where_is : passed_square m ≡ square_at (file_of m.to) (landing_rank (other p.side)) =
    ap (square_at (file_of m.to)) (passed_rank p.side m.from m.to forward c.rank) in
    let (gone, is, side, kind) = found_man (other p.side) Pawn (man_at p.board (square_at (file_of m.to) (landing_rank (other p.side)))) c.pawn in
    let away = passed_apart p.side m.from m.to v.from_in files forward in
    record {
      passes = and_from (is_same_kind man.kind Pawn) (is_marked p.mark m.to && not (file_of m.from == file_of m.to)) (ap (λ k. is_same_kind k Pawn) pawn)
          (and_from (is_marked p.mark m.to) (not (file_of m.from == file_of m.to)) marked (ap not (other_file (file_of m.from) (file_of m.to) files)));
      empty = c.empty;
      gone = gone;
      stands = ap (man_at p.board) where_is ∙ is;
      enemy = side;
      kind = kind;
      inside = away.0;
      not_from = away.1;
      not_to = away.2;
    }

effect_passing : (p : Pos) (m : Move) (man : Man) → Facts p → Mover p m man → Passing p m man → Effect p.board man m (board_after p.board p.mark man m)
effect_passing p m man f v w =
    let board_is : board_after p.board p.mark man m ≡ set (moved p.board man m) (passed_square m) None = cond-true (is_en_passant p.mark man m) _ _ w.passes in
    subst (Effect p.board man m) (sym board_is)
    (Effect_passing p.board man m (passed_square m) w.gone v.departs w.empty (omega (arith, f.squares, w.inside)) w.not_from w.not_to w.stands w.kind)

effect_capture : (p : Pos) (m : Move) (man : Man) → Facts p → Mover p m man → man.kind ≡ Pawn → is_pawn_capture p m ≡ true → Effect p.board man m (board_after p.board p.mark man m)
effect_capture p m man f v pawn h =
    let r = and_parts (attacks p.board m.from m.to) (is_of (other p.side) (man_at p.board m.to) || is_marked p.mark m.to) h in
    by_mark (is_marked p.mark m.to) refl r.0
  where
    by_mark : (t : Bool) → is_marked p.mark m.to ≡ t → attacks p.board m.from m.to ≡ true → Effect p.board man m (board_after p.board p.mark man m)
    by_mark true marked a = effect_passing p m man f v (passing_marked p m man f v pawn a marked)
    by_mark false marked a =
        effect_plain p m man v (no_passing p man m (and_left (is_marked p.mark m.to) (not (file_of m.from == file_of m.to)) marked))
        (pawn_castles_not man m pawn) (attacked_no_king p m man f v a)

pub effect_pawn : (p : Pos) (m : Move) (man : Man) → Facts p → Mover p m man → man.kind ≡ Pawn →
    (is_step p.board p.side m || (is_double_step p.board p.side m || is_pawn_capture p m)) ≡ true → Effect p.board man m (board_after p.board p.mark man m)
effect_pawn p m man f v pawn h =
    elim (or_cases (is_step p.board p.side m) (is_double_step p.board p.side m || is_pawn_capture p m) h) [
      | inl s ↦ effect_straight p m man v pawn (step p m s).straight
      | inr r ↦ elim (or_cases (is_double_step p.board p.side m) (is_pawn_capture p m) r) [
        | inl d ↦ effect_straight p m man v pawn (double_step p m d).straight
        | inr c ↦ effect_capture p m man f v pawn c
      ]
    ]

not_both : (t : Bool) → t ≡ true → not t ≡ true → ⊥
not_both true h k = cc
not_both false h k = cc

-- a pawn that goes as in a capture in passing makes one
pub passing : (p : Pos) (m : Move) (man : Man) → Facts p → Mover p m man → is_en_passant p.mark man m ≡ true → Passing p m man
passing p m man f v h =
    let same_file = file_of m.from == file_of m.to in
    let a = and_parts (is_same_kind man.kind Pawn) (is_marked p.mark m.to && not same_file) h in
    let b = and_parts (is_marked p.mark m.to) (not same_file) a.1 in
    let pawn = same_kind_eq man.kind Pawn a.0 in
    let moves : is_pawn_move p m ≡ true = subst (λ (k : Kind). is_move_of_kind k p m ≡ true) pawn v.moves in
    let r = and_parts (has_promotion p.side m) (is_step p.board p.side m || (is_double_step p.board p.side m || is_pawn_capture p m)) moves in
    elim (or_cases (is_step p.board p.side m) (is_double_step p.board p.side m || is_pawn_capture p m) r.1) [
      | inl s ↦ absurd (not_both same_file (step p m s).straight.same_file b.1)
      | inr r ↦ elim (or_cases (is_double_step p.board p.side m) (is_pawn_capture p m) r) [
        | inl d ↦ absurd (not_both same_file (double_step p m d).straight.same_file b.1)
        | inr c ↦ passing_marked p m man f v pawn (and_parts (attacks p.board m.from m.to) (is_of (other p.side) (man_at p.board m.to) || is_marked p.mark m.to) c).0 b.0
      ]
    ]
