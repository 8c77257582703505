-- The replies of a side whose king has pawns alone beside him, to a move that neither gives check nor can pin a pawn.
use Rattle.std.proofs.Common.{◌≡◌, ◌≢◌, ℕ, zero, suc, ◌+◌, ◌*◌, ◌%◌, ◌<◌, ◌^◌, Bool, true, false, not, ◌&&◌, ◌||◌, ◌==◌, ◌⊎◌, inl, inr, List, [], ◌∷◌, length, set, refl, sym, ◌∙◌, ap, subst, bit_and, arith}
use Rattle.std.specs.Prelude.{Option, Some, None, is_some, is_none, count_ones, slice_set, if◌then◌else◌}
use Rattle.std.proofs.Math.Bool.{or-false, and-false, and-true}
use Rattle.std.proofs.lemmas.List.{set-get_or}
use Rattle.std.proofs.lemmas.Bool.{cases_eq, eq-eqb, ne_eqb, eqb-true, false_from_ne_true, or_right, or_cases, both_ways}
use Rattle.krieg_moves.proofs.Common.{other, is_same_side, is_same_kind, Pos, has, rank_of, last_rank, pawn_rank, landing_rank, Board, man_at, is_of, is_man, is_empty, attacks, is_attacked, IsValid, count_kind, Side, Kind, Pawn, King, Plain, Man, Move, White, goes, is_pinned, corner, moved, placed, board_after, crossed, after, after_by, is_legal, holds, IsGuard, answers, is_answered, moves, HasOnlyPawns, is_step_of_king, ways, Guard, Wing}
use Rattle.krieg_board.specs.declared.men.Kind.TheVariants.{Knight, Bishop, Rook, Queen}
use Rattle.krieg_board.proofs.Facts.{facts}
use Rattle.krieg_board.proofs.MenLemmas.{is_man_tells, same_side_self, other_other}
use Rattle.krieg_board.proofs.SquareTests.{some_square_at, every_square_all}
use Rattle.krieg_board.proofs.SetLemmas.{has_zero, has_all, has_place}
use Rattle.krieg_moves.proofs.Answering.{attacked_step}
use Rattle.krieg_moves.proofs.Boards.{length_moved, man_at_moved_to, man_at_moved_from, man_at_moved_other}
use Rattle.krieg_moves.proofs.Castling.{rook_stands, squares_apart}
use Rattle.krieg_moves.proofs.Counting.{one_counted, all_counted, counted_apart}
use Rattle.krieg_moves.proofs.FreePawns.{counted_free_pawns}
use Rattle.krieg_moves.proofs.Kings.{one_king}
use Rattle.krieg_moves.proofs.KeepsValid.{valid_after}
use Rattle.krieg_moves.proofs.LoneKings.{king_counted, board_is, side_is, moves_man, to_off, from_off}
use Rattle.krieg_moves.proofs.Movers.{Mover, is_of_man, not_enemy}
use Rattle.krieg_moves.proofs.Shapes.{found_man}

set_twice : {X : Type 0} (xs : List X) (i : ℕ) (a b : X) → set (set xs i a) i b ≡ set xs i b
set_twice [] i a b = refl
set_twice (x ∷ xs) zero a b = refl
set_twice (x ∷ xs) (suc i) a b = ap (λ r. x ∷ r) (set_twice xs i a b)

-- nobody is of two kinds
no_two : (side : Side) (one two : Kind) (x : Option Man) → is_same_kind one two ≡ false → is_man side one x ≡ true → is_man side two x ≡ true → ⊥
no_two side one two None e h k = cc
no_two side one two (Some man) e h k =
    let a = (is_man_tells side one man h).1 in
    let b = (is_man_tells side two man k).1 in
    both_ways (is_same_kind one two) e (ap (λ x. is_same_kind x two) (sym a) ∙ ap (λ x. is_same_kind man.kind x) (sym b) ∙ self man.kind)
  where
    self : (k : Kind) → is_same_kind k k ≡ true
    self Pawn = refl
    self Knight = refl
    self Bishop = refl
    self Rook = refl
    self Queen = refl
    self King = refl

-- who attacks a king does not depend on whether he stands there
pub safe_there : (b : Board) (king : ℕ) (side by : Side) → length b ≡ 64 → king < 64 → is_man side King (man_at b king) ≡ true → other side ≡ by → is_attacked (set b king None) king by ≡ is_attacked b king by
safe_there b king side by size inside stands by_is =
    let (man, is, own, kind) = found_man side King (man_at b king) stands in
    let m : Move = record { from = king; to = king; promo = Plain } in
    let off : is_of by (Some man) ≡ false = ap (λ s. is_of s (Some man)) (sym by_is) ∙ not_enemy side (Some man) (ap (λ s. is_same_side s side) own ∙ same_side_self side) in
    sym (attacked_step b man m by size inside off)
    ∙ ap (λ c. is_attacked c king by) (set_twice b king None (Some man) ∙ ap (set b king) (sym is) ∙ set-get_or b king None)

-- a side has no rook, so it can't castle
holds_none : (p : Pos) (king : ℕ) → IsValid p → HasOnlyPawns p.board p.side king → (wing : Wing) → holds p.rights p.side wing ≡ false
holds_none p king valid only wing = false_from_ne_true (holds p.rights p.side wing) (λ h.
    let rook = rook_stands p.board p.rights wing p.side (facts p valid).castles h in
    let of_side = is_of_man p.side Rook (man_at p.board (corner wing p.side)) rook in
    by_man rook (or_cases (corner wing p.side == king) _ (sym (only.others (corner wing p.side) (squares_apart wing p.side).corner_in) ∙ of_side)))
  where
    by_man : is_man p.side Rook (man_at p.board (corner wing p.side)) ≡ true → ((corner wing p.side == king) ≡ true) ⊎ (is_man p.side Pawn (man_at p.board (corner wing p.side)) ≡ true) → ⊥
    by_man rook (inl e) = no_two p.side King Rook (man_at p.board king) refl only.stands (subst (λ s. is_man p.side Rook (man_at p.board s) ≡ true) (eqb-true (corner wing p.side) king e) rook)
    by_man rook (inr pawn) = no_two p.side Pawn Rook (man_at p.board (corner wing p.side)) refl pawn rook

-- a move that moves its man alone
module _ (p : Pos) (m : Move) (man : Man) (king : ℕ) (valid : IsValid p) (is : man_at p.board m.from ≡ Some man) (legal : is_legal p m ≡ true) (only : HasOnlyPawns p.board (other p.side) king) where
  mover : Mover p m man
  mover = moves_man p m man king valid is legal only.stands

  goes_to : m.to ≢ king
  goes_to = to_off p m man king valid is legal only.stands

  abbrev behind : Board
  behind = moved p.board man m

  -- what passes a test that neither the man who moves passes nor an empty square
  pub stays : (t : Option Man → Bool) → t None ≡ false → t (Some (placed man m)) ≡ false → t (man_at p.board m.from) ≡ false → (k : ℕ) → t (man_at behind k) ≡ (t (man_at p.board k) && not (k == m.to))
  stays t none here gone k = by_place (cases_eq k m.to) (cases_eq k m.from)
    where
      by_place : (k ≡ m.to) ⊎ (k ≢ m.to) → (k ≡ m.from) ⊎ (k ≢ m.from) → t (man_at behind k) ≡ (t (man_at p.board k) && not (k == m.to))
      by_place (inl e) y = ap (λ s. t (man_at behind s)) e ∙ ap t (man_at_moved_to p.board man m mover.departs) ∙ here ∙ sym (ap (λ x. t (man_at p.board k) && not x) (eq-eqb k m.to e) ∙ and-false (t (man_at p.board k)))
      by_place (inr d) (inl e) = ap (λ s. t (man_at behind s)) e ∙ ap t (man_at_moved_from p.board man m mover.departs) ∙ none ∙ sym (ap (λ x. x && not (k == m.to)) (ap (λ s. t (man_at p.board s)) e ∙ gone))
      by_place (inr d) (inr f) = ap t (man_at_moved_other p.board man m k f d) ∙ sym (ap (λ x. t (man_at p.board k) && not x) (ne_eqb k m.to d) ∙ and-true (t (man_at p.board k)))

  -- what passes a test that the man who moves passes, and an empty square does not
  pub comes : (t : Option Man → Bool) → t None ≡ false → t (Some (placed man m)) ≡ true → (k : ℕ) → t (man_at behind k) ≡ ((t (man_at p.board k) && not (k == m.from)) || k == m.to)
  comes t none here k = by_place (cases_eq k m.to) (cases_eq k m.from)
    where
      by_place : (k ≡ m.to) ⊎ (k ≢ m.to) → (k ≡ m.from) ⊎ (k ≢ m.from) → t (man_at behind k) ≡ ((t (man_at p.board k) && not (k == m.from)) || k == m.to)
      by_place (inl e) y = ap (λ s. t (man_at behind s)) e ∙ ap t (man_at_moved_to p.board man m mover.departs) ∙ here ∙ sym (or_right (t (man_at p.board k) && not (k == m.from)) (k == m.to) (eq-eqb k m.to e))
      by_place (inr d) (inl e) =
          ap (λ s. t (man_at behind s)) e ∙ ap t (man_at_moved_from p.board man m mover.departs) ∙ none
          ∙ sym ((λ i. (t (man_at p.board k) && not (eq-eqb k m.from e i)) || ne_eqb k m.to d i) ∙ or-false (t (man_at p.board k) && false) ∙ and-false (t (man_at p.board k)))
      by_place (inr d) (inr f) =
          ap t (man_at_moved_other p.board man m k f d)
          ∙ sym ((λ i. (t (man_at p.board k) && not (ne_eqb k m.from f i)) || ne_eqb k m.to d i) ∙ or-false (t (man_at p.board k) && true) ∙ and-true (t (man_at p.board k)))

  placed_own : is_of p.side (Some (placed man m)) ≡ true
  placed_own = ap (λ s. is_same_side s p.side) mover.own ∙ same_side_self p.side

  left_own : is_of p.side (man_at p.board m.from) ≡ true
  left_own = ap (is_of p.side) is ∙ ap (λ s. is_same_side s p.side) mover.own ∙ same_side_self p.side

  no_pawn_of : (x : Option Man) → is_of (other p.side) x ≡ false → is_man (other p.side) Pawn x ≡ false
  no_pawn_of x off = false_from_ne_true (is_man (other p.side) Pawn x) (λ h. both_ways (is_of (other p.side) x) off (is_of_man (other p.side) Pawn x h))

  pub enemy_men : (k : ℕ) → is_of (other p.side) (man_at behind k) ≡ (is_of (other p.side) (man_at p.board k) && not (k == m.to))
  enemy_men = stays (is_of (other p.side)) refl (not_enemy p.side (Some (placed man m)) placed_own) (not_enemy p.side (man_at p.board m.from) left_own)

  pub enemy_pawns : (k : ℕ) → is_man (other p.side) Pawn (man_at behind k) ≡ (is_man (other p.side) Pawn (man_at p.board k) && not (k == m.to))
  enemy_pawns = stays (is_man (other p.side) Pawn) refl (no_pawn_of (Some (placed man m)) (not_enemy p.side (Some (placed man m)) placed_own)) (no_pawn_of (man_at p.board m.from) (not_enemy p.side (man_at p.board m.from) left_own))

  pub own_men : (k : ℕ) → is_of p.side (man_at behind k) ≡ ((is_of p.side (man_at p.board k) && not (k == m.from)) || k == m.to)
  own_men = comes (is_of p.side) refl placed_own

  pub all_men : (k : ℕ) → is_some (man_at behind k) ≡ ((is_some (man_at p.board k) && not (k == m.from)) || k == m.to)
  all_men = comes is_some refl refl

  pub only_behind : HasOnlyPawns behind (other p.side) king
  only_behind = record {
    stands = ap (is_man (other p.side) King) (man_at_moved_other p.board man m king (from_off p m man king valid is legal only.stands) (λ e. goes_to (sym e))) ∙ only.stands;
    others = λ k h. enemy_men k ∙ ap (λ x. x && not (k == m.to)) (only.others k h) ∙ by_king k (cases_eq k king) ∙ ap (λ x. k == king || x) (sym (enemy_pawns k));
  }
    where
      by_king : (k : ℕ) → (k ≡ king) ⊎ (k ≢ king) → ((k == king || is_man (other p.side) Pawn (man_at p.board k)) && not (k == m.to)) ≡ (k == king || (is_man (other p.side) Pawn (man_at p.board k) && not (k == m.to)))
      by_king k (inl e) = (λ i. (eq-eqb k king e i || is_man (other p.side) Pawn (man_at p.board k)) && not (ne_eqb k m.to (λ t. goes_to (sym t ∙ e)) i)) ∙ sym (ap (λ x. x || (is_man (other p.side) Pawn (man_at p.board k) && not (k == m.to))) (eq-eqb k king e))
      by_king k (inr d) = (λ i. (ne_eqb k king d i || is_man (other p.side) Pawn (man_at p.board k)) && not (k == m.to)) ∙ sym (ap (λ x. x || (is_man (other p.side) Pawn (man_at p.board k) && not (k == m.to))) (ne_eqb k king d))

-- a position in which the side to move has a king and pawns, is not in check, and has no man pinned
module _ (q : Pos) (king : ℕ) (valid : IsValid q) (inside : king < 64) (only : HasOnlyPawns q.board q.side king) (unmarked : q.mark ≡ None)
    (safe : is_attacked q.board king (other q.side) ≡ false) (free : (k : ℕ) → k < 64 → is_pinned q.board q.side k ≡ false) where
  quiet : Guard
  quiet = record { king = king; checkers = 0; pinned = 0; answers = 18446744073709551615 }

  nobody : (k : ℕ) → k < 64 → (is_of (other q.side) (man_at q.board k) && attacks q.board k king) ≡ false
  unfolding is_attacked
  nobody k h = false_from_ne_true (is_of (other q.side) (man_at q.board k) && attacks q.board k king) (λ t. both_ways (is_attacked q.board king (other q.side)) safe (some_square_at (λ f. is_of (other q.side) (man_at q.board f) && attacks q.board f king) k h t))

  is_quiet : IsGuard q quiet
  unfolding quiet is_answered
  is_quiet = record {
    inside = inside;
    king = only.stands;
    checkers = λ k h. has_zero k ∙ sym (nobody k h);
    pinned = λ k h. has_zero k ∙ sym (free k h);
    answers = λ t h. has_all t h ∙ sym (every_square_all (λ s. not (is_of (other q.side) (man_at q.board s) && attacks q.board s king) || answers s king t) (λ s l. ap (λ x. not x || answers s king t) (nobody s l)));
  }

  absorbed : (e x : Bool) → x ≡ ((e || x) && x)
  absorbed true x = refl
  absorbed false true = refl
  absorbed false false = refl

  king_left : (e x : Bool) → (e ≡ true → x ≡ false) → e ≡ ((e || x) && not x)
  king_left true x h = sym (ap not (h refl))
  king_left false true h = refl
  king_left false false h = refl

  pub replies_are : (pawns men empty captures last steps : ℕ) → empty < 2 ^ 64 → captures < 2 ^ 64 → steps < 2 ^ 64
      → ((k : ℕ) → k < 64 → has pawns k ≡ is_man q.side Pawn (man_at q.board k)) → ((k : ℕ) → k < 64 → has men k ≡ is_of q.side (man_at q.board k))
      → ((t : ℕ) → t < 64 → has empty t ≡ is_empty q.board t) → ((t : ℕ) → t < 64 → has captures t ≡ is_of (other q.side) (man_at q.board t))
      → ((t : ℕ) → t < 64 → has last t ≡ (rank_of t == last_rank q.side)) → ((t : ℕ) → t < 64 → has steps t ≡ is_step_of_king q.board q.side king t)
      → count_ones steps + (ways q.side pawns empty empty captures + 3 * ways q.side pawns empty (bit_and empty last) (bit_and captures last)) ≡ length (moves q)
  unfolding quiet
  replies_are pawns men empty captures last steps small fewer least are_pawns are_men are_empty are_captures are_last are_steps =
      let place = 1 * 2 ^ king % 18446744073709551616 in
      let of_men = λ (k : ℕ) (h : k < 64). are_men k h ∙ only.others k h ∙ ap (λ x. k == king || x) (sym (are_pawns k h)) in
      omega (
        arith,
        king_counted q king valid inside only.stands (holds_none q king valid only) steps least are_steps,
        one_counted q king inside,
        counted_free_pawns q quiet pawns empty empty captures last valid is_quiet small fewer
            (λ k h here. record { pawn = sym (are_pawns k h) ∙ here; free = free k h; unmarked = unmarked }) are_empty
            (λ t h. are_empty t h ∙ sym (ap (λ x. is_empty q.board t && x) (has_all t h) ∙ and-true (is_empty q.board t)))
            (λ t h. are_captures t h ∙ sym (ap (λ x. is_of (other q.side) (man_at q.board t) && x) (has_all t h) ∙ and-true (is_of (other q.side) (man_at q.board t)))) are_last,
        counted_apart q men pawns pawns place (λ k h. absorbed (k == king) (has pawns k) ∙ ap (λ x. x && has pawns k) (sym (of_men k h)))
            (λ k h. has_place king k inside h ∙ king_left (k == king) (has pawns k) (λ e. are_pawns k h ∙ false_from_ne_true (is_man q.side Pawn (man_at q.board k)) (λ t. no_two q.side King Pawn (man_at q.board king) refl only.stands (subst (λ s. is_man q.side Pawn (man_at q.board s) ≡ true) (eqb-true k king e) t)))
            ∙ ap (λ x. x && not (has pawns k)) (sym (of_men k h))),
        all_counted q men are_men,
      )

not_some : (x : Option Man) → not (is_some x) ≡ is_none x
not_some None = refl
not_some (Some m) = refl

-- the replies to a move of an officer or of the king, who moves alone
module _ (p : Pos) (m : Move) (man : Man) (king : ℕ) (valid : IsValid p) (is : man_at p.board m.from ≡ Some man) (legal : is_legal p m ≡ true) (only : HasOnlyPawns p.board (other p.side) king) (inside : king < 64)
    (single : board_after p.board p.mark man m ≡ moved p.board man m) (officer : is_same_kind man.kind Pawn ≡ false)
    (safe : is_attacked (slice_set (moved p.board man m) king None) king man.side ≡ false)
    (free : (c : Board) → c ≡ moved p.board man m → (who : Side) → other who ≡ man.side → count_kind c who King ≡ 1 → is_man who King (man_at c king) ≡ true → (k : ℕ) → k < 64 → is_pinned c who k ≡ false) where
  own : man.side ≡ p.side
  own = (moves_man p m man king valid is legal only.stands).own

  own_again : man.side ≡ other (other p.side)
  own_again = own ∙ sym (other_other p.side)

  has_only : HasOnlyPawns (moved p.board man m) (other p.side) king
  has_only = only_behind p m man king valid is legal only

  board : moved p.board man m ≡ (after p m).board
  board = board_is p m man (moved p.board man m) (sym single) is

  turn : other p.side ≡ (after p m).side
  turn = side_is p m man is

  valid_there : IsValid (after p m)
  valid_there = valid_after p m valid legal

  unmarked : (after p m).mark ≡ None
  unfolding after
  unmarked = ap (λ x. (after_by p x m).mark) is ∙ ap (λ (b : Bool). if b && (rank_of m.from == pawn_rank man.side && rank_of m.to == landing_rank man.side) then Some (crossed man.side m.from) else None) officer

  safe_king : is_attacked (after p m).board king (other (after p m).side) ≡ false
  safe_king =
      (λ i. is_attacked (sym board i) king (other (sym turn i)))
      ∙ ap (is_attacked (moved p.board man m) king) (sym own_again)
      ∙ sym (safe_there (moved p.board man m) king (other p.side) man.side (length_moved p.board man m ∙ valid.squares) inside has_only.stands (sym own_again))
      ∙ safe

  nobody_pinned : (k : ℕ) → k < 64 → is_pinned (after p m).board (after p m).side k ≡ false
  nobody_pinned k h =
      (λ i. is_pinned (sym board i) (sym turn i) k)
      ∙ free (moved p.board man m) refl (other p.side) (sym own_again) (ap (λ b. count_kind b (other p.side) King) board ∙ one_king (after p m) valid_there (other p.side)) has_only.stands k h

  pub quiet_replies : (pawns men empty captures last steps : ℕ) → empty < 2 ^ 64 → captures < 2 ^ 64 → steps < 2 ^ 64
      → ((k : ℕ) → k < 64 → has pawns k ≡ (is_man (other p.side) Pawn (man_at p.board k) && not (k == m.to)))
      → ((k : ℕ) → k < 64 → has men k ≡ (is_of (other p.side) (man_at p.board k) && not (k == m.to)))
      → ((t : ℕ) → t < 64 → has empty t ≡ not ((is_some (man_at p.board t) && not (t == m.from)) || t == m.to))
      → ((t : ℕ) → t < 64 → has captures t ≡ ((is_of p.side (man_at p.board t) && not (t == m.from)) || t == m.to))
      → ((t : ℕ) → t < 64 → has last t ≡ (rank_of t == last_rank (other p.side)))
      → ((t : ℕ) → t < 64 → has steps t ≡ ((goes King White king t && not (has men t)) && not (is_attacked (slice_set (moved p.board man m) king None) t man.side)))
      → count_ones steps + (ways (other p.side) pawns empty empty captures + 3 * ways (other p.side) pawns empty (bit_and empty last) (bit_and captures last)) ≡ length (moves (after p m))
  quiet_replies pawns men empty captures last steps small fewer least are_pawns are_men are_empty are_captures are_last are_steps =
      (λ i. count_ones steps + (ways (turn i) pawns empty empty captures + 3 * ways (turn i) pawns empty (bit_and empty last) (bit_and captures last)))
      ∙ replies_are (after p m) king valid_there inside (subst (λ s. HasOnlyPawns (after p m).board s king) turn (subst (λ b. HasOnlyPawns b (other p.side) king) board has_only)) unmarked safe_king nobody_pinned pawns men empty captures last steps small fewer least
      (λ k h. are_pawns k h ∙ sym (enemy_pawns p m man king valid is legal only k) ∙ (λ i. is_man (turn i) Pawn (man_at (board i) k)))
      (λ k h. are_men k h ∙ sym (enemy_men p m man king valid is legal only k) ∙ (λ i. is_of (turn i) (man_at (board i) k)))
      (λ t h. are_empty t h ∙ ap not (sym (all_men p m man king valid is legal only t)) ∙ not_some (man_at (moved p.board man m) t) ∙ ap (λ b. is_none (man_at b t)) board)
      (λ t h. are_captures t h ∙ sym (own_men p m man king valid is legal only t) ∙ (λ i. is_of ((sym (other_other p.side) ∙ ap other turn) i) (man_at (board i) t)))
      (λ t h. are_last t h ∙ ap (λ s. rank_of t == last_rank s) turn)
      (λ t h. are_steps t h
      ∙ (λ i. (goes King White king t && not ((are_men t h ∙ sym (enemy_men p m man king valid is legal only t)) i)) && not (is_attacked (slice_set (moved p.board man m) king None) t (own_again i)))
      ∙ (λ i. is_step_of_king (board i) (turn i) king t))
