-- What a board holds after a square is written, and how many men of a kind.
use Rattle.std.proofs.Common.{◌≡◌, ℕ, Bool, false, ◌+◌, ◌<◌, length, arith, sym, set, ◌≢◌, ◌∙◌, ap}
use Rattle.std.specs.Prelude.{Option, Some, None, count_by}
use Rattle.std.proofs.lemmas.List.{get_or-set_same, get_or-set_other}
use Rattle.std.proofs.Math.ListN.{length-set}
use Rattle.krieg_moves.proofs.Common.{Man, Move, Board, man_at, moved, placed}
use Rattle.krieg_board.proofs.Counting.{one, count_set}

pub man_at_set_same : (b : Board) (s : ℕ) (v : Option Man) → s < length b → man_at (set b s v) s ≡ v
man_at_set_same b s v h = get_or-set_same b s v None h

pub man_at_set_other : (b : Board) (i s : ℕ) (v : Option Man) → s ≢ i → man_at (set b i v) s ≡ man_at b s
man_at_set_other b i s v h = get_or-set_other b i s v None h

-- a man stands on the from-square of a move on the board
pub record Departs (b : Board) (man : Man) (m : Move) : Type 0 where
  pub from_in : m.from < length b
  pub to_in : m.to < length b
  pub apart : m.to ≢ m.from
  pub stands : man_at b m.from ≡ Some man

pub length_moved : (b : Board) (man : Man) (m : Move) → length (moved b man m) ≡ length b
length_moved b man m = simp (length-set)

pub man_at_moved_to : (b : Board) (man : Man) (m : Move) → Departs b man m → man_at (moved b man m) m.to ≡ Some (placed man m)
man_at_moved_to b man m d = man_at_set_same (set b m.from None) m.to (Some (placed man m)) (rw length-set d.to_in)

pub man_at_moved_from : (b : Board) (man : Man) (m : Move) → Departs b man m → man_at (moved b man m) m.from ≡ None
man_at_moved_from b man m d =
    man_at_set_other (set b m.from None) m.to m.from (Some (placed man m)) (λ e. d.apart (sym e)) ∙ man_at_set_same b m.from None d.from_in

pub man_at_moved_other : (b : Board) (man : Man) (m : Move) (s : ℕ) → s ≢ m.from → s ≢ m.to → man_at (moved b man m) s ≡ man_at b s
man_at_moved_other b man m s f t =
    man_at_set_other (set b m.from None) m.to s (Some (placed man m)) t ∙ man_at_set_other b m.from s None f

pub count_moved : (q : Option Man → Bool) → q None ≡ false → (b : Board) (man : Man) (m : Move) → Departs b man m →
    count_by q (moved b man m) + one (q (Some man)) + one (q (man_at b m.to)) ≡ count_by q b + one (q (Some (placed man m)))
count_moved q none b man m d =
    let first = count_set q b m.from None d.from_in in
    let second = count_set q (set b m.from None) m.to (Some (placed man m)) (rw length-set d.to_in) in
    let there = man_at_set_other b m.from m.to None d.apart in
    let e1 : one (q (man_at b m.from)) ≡ one (q (Some man)) = ap (λ x. one (q x)) d.stands in
    let e2 : one (q (man_at (set b m.from None) m.to)) ≡ one (q (man_at b m.to)) = ap (λ x. one (q x)) there in
    let e3 : one (q None) ≡ 0 = ap one none in
    omega (arith, first, second, e1, e2, e3)
