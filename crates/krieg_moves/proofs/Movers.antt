-- The man that a candidate moves, and that it takes no king.
use Rattle.std.proofs.Common.{◌≡◌, ℕ, true, false, not, ◌&&◌, refl, nat_lt, ◌<◌, arith, sym, ◌∙◌, ap, inl, inr}
use Rattle.std.proofs.lemmas.Bool.{and_from, and_parts, not-true, false_from_ne_true}
use Rattle.std.specs.Prelude.{Option, Some, None, ◌⊎◌}
use Rattle.std.proofs.lemmas.Bool.Decides.{nat_tests}
use Rattle.krieg_moves.proofs.Common.{Side, White, Black, Kind, King, Man, Move, other, is_same_side, is_same_kind, Pos, Board, man_at, is_man, is_of, attacks, is_attacked, is_king_attacked, is_candidate, is_move_of, is_move_of_kind}
use Rattle.krieg_board.proofs.SquareTests.{some_square_at}
use Rattle.krieg_board.proofs.Facts.{Facts}
use Rattle.krieg_board.proofs.MenLemmas.{same_side_eq, same_side_self, same_side_other, other_other}
use Rattle.krieg_moves.proofs.Boards.{Departs}

pub record Mover (p : Pos) (m : Move) (man : Man) : Type 0 where
  pub departs : Departs p.board man m
  pub from_in : m.from < 64
  pub to_in : m.to < 64
  pub own : man.side ≡ p.side
  pub not_own : is_of p.side (man_at p.board m.to) ≡ false
  pub moves : is_move_of_kind man.kind p m ≡ true

pub below_from : (a b : ℕ) → nat_lt a b ≡ true → a < b
below_from a b h = grind (arith, nat_tests)

-- the man on the from-square, which a candidate has
from_man : (b : Board) (p : Pos) (m : Move) (x : Option Man) → is_move_of x p m ≡ true →
    (man : Man) × (x ≡ Some man) × (is_same_side man.side p.side ≡ true) × (is_move_of_kind man.kind p m ≡ true)
from_man b p m None h = cc
from_man b p m (Some man) h =
    let (s, k) = and_parts (is_same_side man.side p.side) (is_move_of_kind man.kind p m) h in
    (man, refl, s, k)

pub mover : (p : Pos) (m : Move) → Facts p → is_candidate p m ≡ true → (man : Man) × Mover p m man
unfolding is_candidate
mover p m f h =
    let (u, g) = and_parts (nat_lt m.from 64) (nat_lt m.to 64 && (not (is_of p.side (man_at p.board m.to)) && is_move_of (man_at p.board m.from) p m)) h in
    let (t, r) = and_parts (nat_lt m.to 64) (not (is_of p.side (man_at p.board m.to)) && is_move_of (man_at p.board m.from) p m) g in
    let (n, k) = and_parts (not (is_of p.side (man_at p.board m.to))) (is_move_of (man_at p.board m.from) p m) r in
    let (man, is, own, moves) = from_man p.board p m (man_at p.board m.from) k in
    let from_in : m.from < 64 = below_from m.from 64 u in
    let to_in : m.to < 64 = below_from m.to 64 t in
    let not_own = not-true (is_of p.side (man_at p.board m.to)) n in (
      man,
      record {
        departs = record {
          from_in = omega (arith, f.squares);
          to_in = omega (arith, f.squares);
          apart = λ e. (let same : is_of p.side (Some man) ≡ false = ap (is_of p.side) (sym is ∙ ap (man_at p.board) (sym e)) ∙ not_own in cc);
          stands = is;
        };
        from_in = from_in;
        to_in = to_in;
        own = same_side_eq man.side p.side own;
        not_own = not_own;
        moves = moves;
      },
    )

side_cases : (s t : Side) → (s ≡ t) ⊎ (s ≡ other t)
side_cases White White = inl refl
side_cases Black Black = inl refl
side_cases White Black = inr refl
side_cases Black White = inr refl

pub is_of_man : (side : Side) (which : Kind) (x : Option Man) → is_man side which x ≡ true → is_of side x ≡ true
is_of_man side which None h = h
is_of_man side which (Some man) h = (and_parts (is_same_side man.side side) (is_same_kind man.kind which) h).0

-- an own man is no enemy
pub not_enemy : (side : Side) (x : Option Man) → is_of side x ≡ true → is_of (other side) x ≡ false
not_enemy side None h = cc
not_enemy side (Some x) h = ap (λ s. is_same_side s (other side)) (same_side_eq x.side side h) ∙ same_side_other side

-- a square that the mover attacks holds no king, since the idle king is not attacked
pub attacked_no_king : (p : Pos) (m : Move) (man : Man) → Facts p → Mover p m man → attacks p.board m.from m.to ≡ true →
    (side : Side) → is_man side King (man_at p.board m.to) ≡ false
unfolding is_attacked is_king_attacked
attacked_no_king p m man f v a side =
    false_from_ne_true (is_man side King (man_at p.board m.to)) (λ king. elim (side_cases side p.side) [
      | inl e ↦ (let own : is_of p.side (man_at p.board m.to) ≡ true = ap (λ s. is_of s (man_at p.board m.to)) (sym e) ∙ is_of_man side King (man_at p.board m.to) king in
          let no = v.not_own in cc)
      | inr e ↦ (let king' : is_man (other p.side) King (man_at p.board m.to) ≡ true = ap (λ s. is_man s King (man_at p.board m.to)) (sym e) ∙ king in
          let mine : is_of (other (other p.side)) (man_at p.board m.from) ≡ true =
          ap (is_of (other (other p.side))) v.departs.stands ∙ rw (other_other p.side, v.own) (same_side_self p.side) in
          let hit : is_attacked p.board m.to (other (other p.side)) ≡ true =
          some_square_at (λ k. is_of (other (other p.side)) (man_at p.board k) && attacks p.board k m.to) m.from v.from_in (and_from (is_of (other (other p.side)) (man_at p.board m.from)) (attacks p.board m.from m.to) mine a) in
          let yes = some_square_at (λ k. is_man (other p.side) King (man_at p.board k) && is_attacked p.board k (other (other p.side))) m.to v.to_in (and_from (is_man (other p.side) King (man_at p.board m.to)) (is_attacked p.board m.to (other (other p.side))) king' hit) in
          let no = f.idle in
          cc)
    ])

pub empty_no_king : (p : Pos) (m : Move) → man_at p.board m.to ≡ None → (side : Side) → is_man side King (man_at p.board m.to) ≡ false
empty_no_king p m e side = ap (is_man side King) e
