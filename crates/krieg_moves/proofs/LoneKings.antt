-- A king who is the only man of his side can't castle, so his steps are all that may be done.
use Rattle.std.specs.List.{filter}
use Rattle.std.proofs.Common.{◌≡◌, ◌≢◌, ℕ, ◌<◌, ◌^◌, Bool, true, false, not, ◌&&◌, ◌||◌, ◌==◌, ◌⊎◌, inl, inr, length, sym, ◌∙◌, ap, subst}
use Rattle.std.specs.Prelude.{Option, Some, None, count_ones, slice_set}
use Rattle.std.proofs.Math.Bool.{or-false, and-false, and-true}
use Rattle.std.proofs.lemmas.Bool.{cases_eq, eqb-true, eq-eqb, ne_eqb, false_from_ne_true, and_parts, both_ways}
use Rattle.krieg_moves.proofs.Common.{other, is_same_side, is_same_kind, Pos, has, Board, man_at, is_of, is_man, can_reach, is_attacked, is_king_attacked, IsValid, Side, White, Pawn, King, Man, Move, goes, corner, king_square, arrival, moved, placed, board_after, after, after_by, is_legal, is_candidate, holds, can_castle, can_go, plain_move, moves, moves_from, is_king_step, is_step_of_king, IsAlone, Wing, Short, Long}
use Rattle.krieg_board.specs.declared.men.Kind.TheVariants.{Rook}
use Rattle.krieg_board.proofs.Facts.{facts}
use Rattle.krieg_board.proofs.MenLemmas.{is_man_tells, is_man_other_kind, same_side_self, other_other}
use Rattle.krieg_rays.proofs.Attacking.{king_from}
use Rattle.krieg_moves.proofs.Boards.{man_at_moved_to, man_at_moved_from, man_at_moved_other}
use Rattle.krieg_moves.proofs.Castling.{rook_stands, squares_apart}
use Rattle.krieg_moves.proofs.Counting.{counted_plain, lone_counted}
use Rattle.krieg_moves.proofs.Going.{king_goes}
use Rattle.krieg_moves.proofs.KeepsValid.{effect, valid_after}
use Rattle.krieg_moves.proofs.Movers.{Mover, is_of_man, not_enemy}
use Rattle.krieg_moves.proofs.Safety.{mover_is}
use Rattle.krieg_moves.proofs.Shapes.{found_man}

-- nobody is both a king and a rook
no_rook : (side : Side) (x : Option Man) → is_man side King x ≡ true → is_man side Rook x ≡ true → ⊥
no_rook side None h k = cc
no_rook side (Some man) h k = let a = sym (is_man_tells side King man h).1 ∙ (is_man_tells side Rook man k).1 in cc

third_not : (a b c d : Bool) → c ≡ false → (a && (b && (c && d))) ≡ false
third_not a b c d h = (λ i. a && (b && (h i && d))) ∙ (λ i. a && and-false b i) ∙ and-false a

-- the step of a king, by the sets
step_is : (p : Pos) (man : Man) (f t : ℕ) → man.kind ≡ King → is_step_of_king p.board p.side f t ≡ is_king_step p f man t
step_is p man f t king = ap (λ x. (x && not (is_of p.side (man_at p.board t))) && not (is_attacked (slice_set p.board f None) t (other p.side))) (king_from p.board man f t king)

-- the same of a board, a side and a square that the code found
pub step_found : (p : Pos) (b : Board) (side : Side) (f f' t steps : ℕ) (man : Man) → b ≡ p.board → side ≡ p.side → f ≡ f' → man.kind ≡ King → has steps t ≡ is_step_of_king b side f t → has steps t ≡ is_king_step p f' man t
step_found p b side f f' t steps man board turn place king are = are ∙ (λ i. is_step_of_king (board i) (turn i) (place i) t) ∙ step_is p man f' t king

-- a king who can't castle
module _ (p : Pos) (king : ℕ) (valid : IsValid p) (inside : king < 64) (stands : is_man p.side King (man_at p.board king) ≡ true) (none : (wing : Wing) → holds p.rights p.side wing ≡ false) where
  castles_not : (wing : Wing) (t : ℕ) → can_castle wing p (plain_move king t) ≡ false
  castles_not wing t = third_not (king == king_square p.side) (t == arrival wing p.side) (holds p.rights p.side wing) _ (none wing)

  pub steps_go : (t : ℕ) → t < 64 → is_step_of_king p.board p.side king t ≡ can_go p king t
  steps_go t h =
      let (man, is, own, kind) = found_man p.side King (man_at p.board king) stands in
      let m = plain_move king t in
      step_is p man king t kind
      ∙ sym ((λ i. (is_king_step p king man t || (castles_not Short t i && is_legal p m)) || (castles_not Long t i && is_legal p m))
      ∙ or-false (is_king_step p king man t || false) ∙ or-false (is_king_step p king man t))
      ∙ king_goes p king t man valid inside h is own kind

  -- his moves are counted, where a set has them
  pub king_counted : (steps : ℕ) → steps < 2 ^ 64 → ((t : ℕ) → t < 64 → has steps t ≡ is_step_of_king p.board p.side king t) → count_ones steps ≡ length (filter (is_legal p) (moves_from king))
  king_counted steps small are =
      let (man, is, own, kind) = found_man p.side King (man_at p.board king) stands in
      counted_plain p king steps valid inside small (λ t h. are t h ∙ steps_go t h)
      (ap (is_man p.side Pawn) is ∙ is_man_other_kind p.side Pawn man (ap (λ k. is_same_kind k Pawn) kind))

module _ (p : Pos) (king : ℕ) (valid : IsValid p) (inside : king < 64) (alone : IsAlone p.board p.side king) where
  holds_none : (wing : Wing) → holds p.rights p.side wing ≡ false
  holds_none wing = false_from_ne_true (holds p.rights p.side wing) (λ h.
      let rook = rook_stands p.board p.rights wing p.side (facts p valid).castles h in
      let of_side = is_of_man p.side Rook (man_at p.board (corner wing p.side)) rook in
      let here = eqb-true (corner wing p.side) king (sym (alone.alone (corner wing p.side) (squares_apart wing p.side).corner_in) ∙ of_side) in
      no_rook p.side (man_at p.board king) alone.stands (subst (λ s. is_man p.side Rook (man_at p.board s) ≡ true) here rook))

  -- the steps are counted, where a set has them
  pub steps_counted : (steps : ℕ) → steps < 2 ^ 64 → ((t : ℕ) → t < 64 → has steps t ≡ is_step_of_king p.board p.side king t) → count_ones steps ≡ length (moves p)
  steps_counted steps small are = king_counted p king valid inside alone.stands holds_none steps small are ∙ lone_counted p king inside alone

-- the board and the side to move after the move of a man
pub board_is : (p : Pos) (m : Move) (man : Man) (b : Board) → b ≡ board_after p.board p.mark man m → man_at p.board m.from ≡ Some man → b ≡ (after p m).board
unfolding after
board_is p m man b e is = e ∙ sym (ap (λ x. (after_by p x m).board) is)

pub side_is : (p : Pos) (m : Move) (man : Man) → man_at p.board m.from ≡ Some man → other p.side ≡ (after p m).side
unfolding after
side_is p m man is = sym (ap (λ x. (after_by p x m).side) is)

-- nobody goes to where he stands
goes_off : (king t : ℕ) → goes King White king t ≡ (goes King White king t && not (t == king))
unfolding goes
goes_off king t = by_place (cases_eq t king)
  where
    by_place : (t ≡ king) ⊎ (t ≢ king) → (not (king == t) && can_reach King White king t) ≡ ((not (king == t) && can_reach King White king t) && not (t == king))
    by_place (inl e) = ap (λ x. not x && can_reach King White king t) (eq-eqb king t (sym e)) ∙ ap (λ x. (not x && can_reach King White king t) && not (t == king)) (sym (eq-eqb king t (sym e)))
    by_place (inr off) = sym (ap (λ x. (not (king == t) && can_reach King White king t) && not x) (ne_eqb t king off) ∙ and-true (not (king == t) && can_reach King White king t))

-- a king who can't be captured is alone behind a legal move of the other side
module _ (p : Pos) (m : Move) (man : Man) (king : ℕ) (valid : IsValid p) (is : man_at p.board m.from ≡ Some man) (legal : is_legal p m ≡ true) (stands : is_man (other p.side) King (man_at p.board king) ≡ true) where
  pub moves_man : Mover p m man
  unfolding is_legal
  moves_man = mover_is p m man valid is (and_parts (is_candidate p m) (not (is_king_attacked (after p m).board p.side)) legal).0

  pub to_off : m.to ≢ king
  to_off e = both_ways (is_man (other p.side) King (man_at p.board king)) (ap (λ s. is_man (other p.side) King (man_at p.board s)) (sym e) ∙ (effect p m man (facts p valid) moves_man).no_king_there (other p.side)) stands

  pub from_off : king ≢ m.from
  from_off e =
      let own : is_of p.side (man_at p.board m.from) ≡ true = ap (is_of p.side) is ∙ ap (λ s. is_same_side s p.side) moves_man.own ∙ same_side_self p.side in
      both_ways (is_of (other p.side) (man_at p.board king)) (ap (λ s. is_of (other p.side) (man_at p.board s)) e ∙ not_enemy p.side (man_at p.board m.from) own) (is_of_man (other p.side) King (man_at p.board king) stands)

  pub placed_off : is_of (other p.side) (Some (placed man m)) ≡ false
  placed_off = not_enemy p.side (Some (placed man m)) (ap (λ s. is_same_side s p.side) moves_man.own ∙ same_side_self p.side)

-- the same king, where he is alone
module _ (p : Pos) (m : Move) (man : Man) (king : ℕ) (valid : IsValid p) (is : man_at p.board m.from ≡ Some man) (legal : is_legal p m ≡ true) (inside : king < 64) (alone : IsAlone p.board (other p.side) king) where
  goes_to : m.to ≢ king
  goes_to = to_off p m man king valid is legal alone.stands

  goes_from : king ≢ m.from
  goes_from = from_off p m man king valid is legal alone.stands

  mover : Mover p m man
  mover = moves_man p m man king valid is legal alone.stands

  alone_moved : IsAlone (moved p.board man m) (other p.side) king
  alone_moved = record {
    stands = ap (is_man (other p.side) King) (man_at_moved_other p.board man m king goes_from (λ e. goes_to (sym e))) ∙ alone.stands;
    alone = λ k h. by_place k h (cases_eq k m.to) (cases_eq k m.from);
  }
    where
      by_place : (k : ℕ) → k < 64 → (k ≡ m.to) ⊎ (k ≢ m.to) → (k ≡ m.from) ⊎ (k ≢ m.from) → is_of (other p.side) (man_at (moved p.board man m) k) ≡ (k == king)
      by_place k h (inl e) f = ap (λ s. is_of (other p.side) (man_at (moved p.board man m) s)) e ∙ ap (is_of (other p.side)) (man_at_moved_to p.board man m mover.departs) ∙ placed_off p m man king valid is legal alone.stands ∙ sym (ne_eqb k king (λ q. goes_to (sym e ∙ q)))
      by_place k h (inr t) (inl e) = ap (λ s. is_of (other p.side) (man_at (moved p.board man m) s)) e ∙ ap (is_of (other p.side)) (man_at_moved_from p.board man m mover.departs) ∙ sym (ne_eqb k king (λ q. goes_from (sym q ∙ e)))
      by_place k h (inr t) (inr f) = ap (is_of (other p.side)) (man_at_moved_other p.board man m k f t) ∙ alone.alone k h

  -- the steps are counted, where a set has them
  pub replies_counted : (steps : ℕ) → steps < 2 ^ 64 → board_after p.board p.mark man m ≡ moved p.board man m
      → ((t : ℕ) → t < 64 → has steps t ≡ (goes King White king t && not (is_attacked (slice_set (moved p.board man m) king None) t man.side))) → count_ones steps ≡ length (moves (after p m))
  replies_counted steps small single are =
      let board = board_is p m man (moved p.board man m) (sym single) is in
      let side = side_is p m man is in
      steps_counted (after p m) king (valid_after p m valid legal) inside (subst (λ s. IsAlone (after p m).board s king) side (subst (λ b. IsAlone b (other p.side) king) board alone_moved)) steps small
      (λ t h. are t h ∙ step t h ∙ (λ i. is_step_of_king (board i) (side i) king t))
    where
      step : (t : ℕ) → t < 64 → (goes King White king t && not (is_attacked (slice_set (moved p.board man m) king None) t man.side)) ≡ is_step_of_king (moved p.board man m) (other p.side) king t
      step t h = λ i. (goes_off king t ∙ ap (λ x. goes King White king t && not x) (sym (alone_moved.alone t h))) i
          && not (is_attacked (slice_set (moved p.board man m) king None) t ((mover.own ∙ sym (other_other p.side)) i))
