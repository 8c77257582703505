-- A net: White's men on the two highest ranks attack Black's king there, wherever he goes and whatever stands below.
use Rattle.std.proofs.Common.{◌≡◌, ℕ, ◌<◌, ◌+◌, ◌/◌, Bool, true, false, not, ◌&&◌, ◌||◌, ◌==◌, nat_lt, Option, Some, None, length, set, refl, sym, ◌∙◌, ap, subst, inl, inr, arith}
use Rattle.std.specs.Prelude.{◌⊎◌, get_or, is_some}
use Rattle.std.specs.List.{list_any}
use Rattle.std.proofs.lemmas.Bool.{and_from, and_parts, and_right, both_ways, cases_eq, eqb-true, false_from_ne_true, lt-ltb, not-true, not_from_false, or_cases, or_from}
use Rattle.std.proofs.lemmas.List.Folds.{list_any_none}
use Rattle.std.proofs.Math.ListN.{length-set}
use Rattle.krieg_make.proofs.Common.{attacks, man_attacks, can_reach, slides, is_adjacent, is_attacked, is_between, is_clear, is_forward, is_king_attacked, Board, man_at, is_of, is_man, is_same_side, Pos, every_square, rank_of, IsValid, Kind, Pawn, King, Man, Move, Side, White, Black, after, after_by, board_after, placed, is_candidate, is_legal, is_plain, has_promotion, is_step, is_double_step, is_pawn_capture, can_castle, all_moves, moves, in_check, is_ended, is_mate, Short, Long, man}
use Rattle.krieg_board.proofs.Facts.{facts}
use Rattle.krieg_board.proofs.SquareTests.{every_square_all, every_square_at, some_square_at, some_square_tells}
use Rattle.krieg_moves.proofs.Arrivals.{placed_is}
use Rattle.krieg_moves.proofs.Boards.{man_at_set_same, man_at_set_other}
use Rattle.krieg_moves.proofs.Castling.{king_near}
use Rattle.krieg_moves.proofs.Kings.{same_man}
use Rattle.krieg_moves.proofs.MoveLists.{is_nil_filter}
use Rattle.krieg_moves.proofs.Movers.{Mover, mover, not_enemy}
use Rattle.krieg_moves.proofs.Pawns.{step, double_step, attack_forward}
use Rattle.krieg_moves.proofs.Shapes.{attack_reaches, board_after_plain, found_man}
use Rattle.krieg_make.proofs.Walks.{implied}

-- that side is to move, and nobody may castle
abbrev pub to_move : Side → Board → Pos
to_move side b = record {
  board = b;
  side = side;
  rights = record { white_short = false; white_long = false; black_short = false; black_long = false };
  mark = None;
}

pub man_found : (side : Side) (which : Kind) (x : Option Man) → is_man side which x ≡ true → x ≡ Some (man side which)
man_found side which x h = let (found, is, its_side, its_kind) = found_man side which x h in is ∙ (λ i. Some (record { side = its_side i; kind = its_kind i }))

-- the same men stand on the two highest ranks
abbrev pub Agree : Board → Board → Type 0
Agree b c = (s : ℕ) → 47 < s → s < 64 → man_at b s ≡ man_at c s

-- black men stand everywhere below
unfoldable pub is_filled : Board → Bool
is_filled c = every_square (λ s. not (nat_lt s 48) || is_of Black (man_at c s))

pub below_or_not : (s : ℕ) → (s < 48) ⊎ (47 < s)
below_or_not s = grind arith

filled_at : (c : Board) (s : ℕ) → is_filled c ≡ true → s < 48 → is_of Black (man_at c s) ≡ true
unfolding is_filled
filled_at c s filled low = implied (nat_lt s 48) (is_of Black (man_at c s)) (lt-ltb s 48 low) (every_square_at (λ s. not (nat_lt s 48) || is_of Black (man_at c s)) filled s (omega arith))

agree_set : (b c : Board) (i : ℕ) (v : Option Man) → length b ≡ 64 → length c ≡ 64 → i < 64 → Agree b c → Agree (set b i v) (set c i v)
agree_set b c i v size other_size inside agree s high l = by (cases_eq s i)
  where
    by : (s ≡ i) ⊎ (s ≡ i → ⊥) → man_at (set b i v) s ≡ man_at (set c i v) s
    by (inl e) = rw e (man_at_set_same b i v (omega arith) ∙ sym (man_at_set_same c i v (omega arith)))
    by (inr n) = man_at_set_other b i s v n ∙ (agree s high l ∙ sym (man_at_set_other c i s v n))

agree_below : (b c : Board) (i : ℕ) (v : Option Man) → i < 48 → Agree b c → Agree (set b i v) c
agree_below b c i v low agree s high l = man_at_set_other b i s v (λ e. omega arith) ∙ agree s high l

-- what White attacks where everything below is filled, he attacks
clear_kept : (b c : Board) (f t : ℕ) → Agree b c → is_filled c ≡ true → is_clear c f t ≡ true → is_clear b f t ≡ true
unfolding is_clear
clear_kept b c f t agree filled clear =
    every_square_all (λ s. not (is_between f t s && is_some (man_at b s))) (λ s l. by s l (below_or_not s) (every_square_at (λ s. not (is_between f t s && is_some (man_at c s))) clear s l))
  where
    stands : (a : Bool) (x y : Option Man) → is_of Black x ≡ true → not (a && is_some x) ≡ true → not (a && is_some y) ≡ true
    stands false x y is h = refl
    stands true None y is h = cc
    stands true (Some m) y is h = cc

    by : (s : ℕ) → s < 64 → (s < 48) ⊎ (47 < s) → not (is_between f t s && is_some (man_at c s)) ≡ true → not (is_between f t s && is_some (man_at b s)) ≡ true
    by s l (inl low) h = stands (is_between f t s) (man_at c s) (man_at b s) (filled_at c s filled low) h
    by s l (inr high) h = ap (λ x. not (is_between f t s && is_some x)) (agree s high l) ∙ h

attack_kept : (b c : Board) (f t : ℕ) → f < 64 → Agree b c → is_filled c ≡ true → (is_of White (man_at c f) && attacks c f t) ≡ true → (is_of White (man_at b f) && attacks b f t) ≡ true
unfolding attacks
attack_kept b c f t l agree filled hit = by (below_or_not f) (and_parts (is_of White (man_at c f)) (man_attacks c (man_at c f) f t) hit)
  where
    slide : (x y : Bool) (a : Bool) → (x ≡ true → y ≡ true) → (a || x) ≡ true → (a || y) ≡ true
    slide x y true more h = refl
    slide x y false more h = more h

    by_man : (x : Option Man) → man_attacks c x f t ≡ true → man_attacks b x f t ≡ true
    by_man None h = h
    by_man (Some m) h =
        let r = and_parts (not (f == t)) (can_reach m.kind m.side f t && (not (slides m.kind) || is_clear c f t)) h in
        let q = and_parts (can_reach m.kind m.side f t) (not (slides m.kind) || is_clear c f t) r.1 in
        and_from (not (f == t)) (can_reach m.kind m.side f t && (not (slides m.kind) || is_clear b f t)) r.0
        (and_from (can_reach m.kind m.side f t) (not (slides m.kind) || is_clear b f t) q.0
        (slide (is_clear c f t) (is_clear b f t) (not (slides m.kind)) (clear_kept b c f t agree filled) q.1))

    by : (f < 48) ⊎ (47 < f) → (is_of White (man_at c f) ≡ true) × (man_attacks c (man_at c f) f t ≡ true) → (is_of White (man_at b f) && man_attacks b (man_at b f) f t) ≡ true
    by (inl low) (white, there) = absurd (both_ways (is_of White (man_at c f)) (not_enemy Black (man_at c f) (filled_at c f filled low)) white)
    by (inr high) (white, there) =
        ap (λ x. is_of White x && man_attacks b x f t) (agree f high l) ∙ and_from (is_of White (man_at c f)) (man_attacks b (man_at c f) f t) white (by_man (man_at c f) there)

king_hit : (b c : Board) (t : ℕ) → Agree b c → is_filled c ≡ true → t < 64 → man_at b t ≡ Some (man Black King) → is_attacked c t White ≡ true → is_king_attacked b Black ≡ true
unfolding is_king_attacked is_attacked
king_hit b c t agree filled inside king hit =
    let (f, l, test) = some_square_tells (λ f. is_of White (man_at c f) && attacks c f t) hit in
    some_square_at (λ k. is_man Black King (man_at b k) && is_attacked b k White) t inside
    (and_from (is_man Black King (man_at b t)) (is_attacked b t White) (ap (is_man Black King) king)
    (some_square_at (λ f. is_of White (man_at b f) && attacks b f t) f l (attack_kept b c f t l agree filled test)))

-- the board after the king went from k to t
abbrev gone : Board → ℕ → ℕ → Board
gone c k t = set (set c k None) t (Some (man Black King))

-- wherever the king on k steps, White attacks him
unfoldable pub is_caught : Board → ℕ → Bool
is_caught c k = every_square (λ t. not (is_adjacent k t) || (is_filled (gone c k t) && is_attacked (gone c k t) t White))

-- what is computed of a board with black men everywhere below
pub record Net (c : Board) (k : ℕ) : Type 0 where
  pub size : length c ≡ 64
  pub high : 47 < k
  pub inside : k < 64
  pub filled : is_filled c ≡ true
  pub king : man_at c k ≡ Some (man Black King)
  pub check : is_attacked c k White ≡ true
  pub caught : is_caught c k ≡ true

check_stays : (b c : Board) (k : ℕ) → Agree b c → Net c k → is_king_attacked b Black ≡ true
check_stays b c k agree n = king_hit b c k agree n.filled n.inside (agree k n.high n.inside ∙ n.king) n.check

-- a pawn that begins below stays there
pawn_low : (b : Board) (m : Move) → Mover (to_move Black b) m (man Black Pawn) → m.from < 48 → m.to < 48
pawn_low b m v low =
    by (or_cases (is_step b Black m) (is_double_step b Black m || is_pawn_capture (to_move Black b) m)
    (and_parts (has_promotion Black m) (is_step b Black m || (is_double_step b Black m || is_pawn_capture (to_move Black b) m)) v.moves).1)
  where
    down : is_forward Black m.from m.to ≡ true → m.to < 48
    down forward = let e : m.from / 8 ≡ m.to / 8 + 1 = eqb-true (rank_of m.from) (rank_of m.to + 1) forward in omega arith

    further : (is_double_step b Black m ≡ true) ⊎ (is_pawn_capture (to_move Black b) m ≡ true) → m.to < 48
    further (inl two) = omega (arith, (double_step (to_move Black b) m two).lands)
    further (inr takes) =
        down (attack_forward (to_move Black b) m (man Black Pawn) v refl (and_parts (attacks b m.from m.to) _ takes).0)

    by : (is_step b Black m ≡ true) ⊎ ((is_double_step b Black m || is_pawn_capture (to_move Black b) m) ≡ true) → m.to < 48
    by (inl one) = down (step (to_move Black b) m one).forward
    by (inr more) = further (or_cases (is_double_step b Black m) (is_pawn_capture (to_move Black b) m) more)

-- the king's move is a step
king_step : (b : Board) (m : Move) → Mover (to_move Black b) m (man Black King) → (is_plain m.promo ≡ true) × (attacks b m.from m.to ≡ true)
king_step b m v =
    let r = and_parts (is_plain m.promo) (attacks b m.from m.to || (can_castle Short (to_move Black b) m || can_castle Long (to_move Black b) m)) v.moves in
    (r.0, by (or_cases (attacks b m.from m.to) (can_castle Short (to_move Black b) m || can_castle Long (to_move Black b) m) r.1))
  where
    by : (attacks b m.from m.to ≡ true) ⊎ ((can_castle Short (to_move Black b) m || can_castle Long (to_move Black b) m) ≡ true) → attacks b m.from m.to ≡ true
    by (inl steps) = steps
    by (inr castles) =
        absurd (both_ways (can_castle Short (to_move Black b) m || can_castle Long (to_move Black b) m)
        (or_from (can_castle Short (to_move Black b) m) (can_castle Long (to_move Black b) m) (and_right (m.from == 60) _ (and_right (m.to == 62) _ refl)) (and_right (m.from == 60) _ (and_right (m.to == 58) _ refl))) castles)

king_escapes_not : (b c : Board) (k : ℕ) (m : Move) → Agree b c → length b ≡ 64 → Net c k → Mover (to_move Black b) m (man Black King) → m.from ≡ k →
    is_king_attacked (board_after b None (man Black King) m) Black ≡ true
unfolding is_caught
king_escapes_not b c k m agree size n v same =
    let (plain, steps) = king_step b m v in
    let near : is_adjacent m.from m.to ≡ true = attack_reaches b (man Black King) m.from m.to v.departs.stands steps in
    let r = and_parts (is_filled (gone c m.from m.to)) (is_attacked (gone c m.from m.to) m.to White)
    (implied (is_adjacent m.from m.to) _ near (every_square_at (λ t. not (is_adjacent m.from t) || (is_filled (gone c m.from t) && is_attacked (gone c m.from t) t White)) (ap (is_caught c) same ∙ n.caught) m.to v.to_in)) in
    let left : length (set b m.from None) ≡ 64 = rw length-set size in
    let both : Agree (gone b m.from m.to) (gone c m.from m.to) =
    agree_set (set b m.from None) (set c m.from None) m.to (Some (man Black King)) left (rw length-set n.size) v.to_in (agree_set b c m.from None size n.size v.from_in agree) in
    ap (λ d. is_king_attacked d Black) (board_after_plain b None (man Black King) m refl (λ wing. king_near (to_move Black b) m (man Black King) wing v refl steps))
    ∙ ap (λ y. is_king_attacked (set (set b m.from None) m.to (Some y)) Black) (placed_is (man Black King) m plain)
    ∙ king_hit (gone b m.from m.to) (gone c m.from m.to) m.to both r.0 v.to_in (man_at_set_same (set b m.from None) m.to (Some (man Black King)) (rw left (omega (arith, v.to_in)))) r.1

-- Black's men are pawns below, and the king on k
abbrev pub Mans : Board → ℕ → Type 0
Mans b k = (s : ℕ) → s < 64 → is_of Black (man_at b s) ≡ true → ((s < 48) × (man_at b s ≡ Some (man Black Pawn))) ⊎ ((s ≡ k) × (man_at b s ≡ Some (man Black King)))

none_legal : (b c : Board) (k : ℕ) (m : Move) → Agree b c → Mans b k → Net c k → IsValid (to_move Black b) → is_legal (to_move Black b) m ≡ false
unfolding is_legal after
none_legal b c k m agree mans n valid =
    false_from_ne_true (is_candidate q m && not (is_king_attacked (after q m).board Black)) (λ yes.
    (let r = and_parts (is_candidate q m) (not (is_king_attacked (after q m).board Black)) yes in
    let (who, v) = mover q m (facts q valid) r.0 in
    both_ways (is_king_attacked (after q m).board Black) (not-true (is_king_attacked (after q m).board Black) r.1)
    (by who v (mans m.from v.from_in (ap (is_of Black) v.departs.stands ∙ ap (λ s. is_same_side s Black) v.own)))))
  where
    q : Pos
    q = to_move Black b

    moving : (who is : Man) → man_at b m.from ≡ Some is → Mover q m who → Mover q m is
    moving who is e v = subst (λ (w : Man). Mover q m w) (same_man (man_at b m.from) who is v.departs.stands e) v

    by : (who : Man) → Mover q m who → ((m.from < 48) × (man_at b m.from ≡ Some (man Black Pawn))) ⊎ ((m.from ≡ k) × (man_at b m.from ≡ Some (man Black King))) →
        is_king_attacked (after q m).board Black ≡ true
    by who v (inl (low, is)) =
        ap (λ x. is_king_attacked (after_by q x m).board Black) is
        ∙ check_stays (set (set b m.from None) m.to (Some (placed (man Black Pawn) m))) c k
        (agree_below (set b m.from None) c m.to (Some (placed (man Black Pawn) m)) (pawn_low b m (moving who (man Black Pawn) is v) low) (agree_below b c m.from None low agree)) n
    by who v (inr (same, is)) =
        ap (λ x. is_king_attacked (after_by q x m).board Black) is
        ∙ king_escapes_not b c k m agree (facts q valid).squares n (moving who (man Black King) is v) same

pub net_mates : (b c : Board) (k : ℕ) → Agree b c → Mans b k → Net c k → IsValid (to_move Black b) → is_mate (to_move Black b) ≡ true
unfolding is_mate is_ended in_check moves
net_mates b c k agree mans n valid =
    and_from (is_king_attacked b Black) (is_ended (to_move Black b)) (check_stays b c k agree n)
    (is_nil_filter (is_legal (to_move Black b)) all_moves
    ∙ not_from_false (list_any (is_legal (to_move Black b)) all_moves)
    (list_any_none (is_legal (to_move Black b)) all_moves (λ k d l. none_legal b c _ (get_or all_moves k d) agree mans n valid)))
