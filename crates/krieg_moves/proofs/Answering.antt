-- A man who leaves one square and arrives on another: who attacks his king then, by the attacks on the board without him.
use Rattle.std.proofs.Common.{◌≡◌, ℕ, ◌<◌, Bool, true, false, not, ◌&&◌, ◌||◌, ◌==◌, ◌⊎◌, inl, inr, refl, sym, ◌∙◌, ap, arith, length, set, ◌≢◌}
use Rattle.std.specs.Prelude.{Option, Some, None, is_some}
use Rattle.std.proofs.lemmas.Bool.{and_left, and_right, and_from, cases_eq, eq-eqb, ne_eqb, both_ways, false_from_ne_true, true_from_ne_false, not_from_true, not-true, not-false}
use Rattle.std.proofs.Math.ListN.{length-set}
use Rattle.std.proofs.lemmas.List.{get_or-set_same, get_or-set_other}
use Rattle.krieg_moves.proofs.Common.{Side, King, Man, Move, other, some_square, every_square, Board, man_at, is_of, is_man, attacks, man_attacks, is_attacked, is_between, can_reach, slides, is_clear, is_pinned, is_pinned_by, moved, placed, answers, is_answered}
use Rattle.krieg_board.proofs.SameTests.{same_tests, some_square_same, every_square_same}
use Rattle.krieg_board.proofs.SquareTests.{some_square_at, some_square_tells, every_square_all, every_square_not}
use Rattle.krieg_moves.proofs.Putting.{Puts, attacks_at_with, not_between_end}

-- some square passes where not every one fails
some_by_not : (p q : ℕ → Bool) → ((k : ℕ) → k < 64 → p k ≡ not (q k)) → some_square p ≡ not (every_square q)
some_by_not p q e =
    same_tests (some_square p) (not (every_square q))
    (λ h. let (k, l, t) = some_square_tells p h in ap not (every_square_not q k l (not-true (q k) (sym (e k l) ∙ t))))
    (λ h. true_from_ne_false (some_square p) (λ none. every_not h (every_square_all q (λ k l. not-false (q k) (sym (e k l) ∙ none_at none k l)))))
  where
    none_at : some_square p ≡ false → (k : ℕ) → k < 64 → p k ≡ false
    none_at none k l = false_from_ne_true (p k) (λ h. both_ways (some_square p) none (some_square_at p k l h))

    every_not : not (every_square q) ≡ true → every_square q ≡ true → ⊥
    every_not h k = both_ways (every_square q) (not-true (every_square q) h) k

-- the board with an own man put on t, and the one without him
puts_moved : (b : Board) (man : Man) (m : Move) → length b ≡ 64 → m.to < 64 → Puts (set b m.from None) (moved b man m) m.to
puts_moved b man m size to_in =
    let there : man_at (moved b man m) m.to ≡ Some (placed man m) =
    get_or-set_same (set b m.from None) m.to (Some (placed man m)) None (rw length-set (omega arith)) in
    record {
      inside = to_in;
      there = ap is_some there;
      others = λ j l n. get_or-set_other (set b m.from None) m.to j (Some (placed man m)) None n;
    }

arrived : (b : Board) (man : Man) (m : Move) → length b ≡ 64 → m.to < 64 → man_at (moved b man m) m.to ≡ Some (placed man m)
arrived b man m size to_in =
    get_or-set_same (set b m.from None) m.to (Some (placed man m)) None (rw length-set (omega arith))

-- the king on k is attacked behind the move just where an attack on the board without the man is not answered
pub attacked_unanswered : (b : Board) (man : Man) (m : Move) (by : Side) (k : ℕ) → length b ≡ 64 → m.to < 64 → k < 64 → is_of by (Some (placed man m)) ≡ false →
    is_attacked (moved b man m) k by ≡ not (is_answered (set b m.from None) by k m.to)
unfolding is_attacked is_answered
attacked_unanswered b man m by k size to_in hk own =
    some_by_not (λ s. is_of by (man_at d s) && attacks d s k) (λ s. not (is_of by (man_at c s) && attacks c s k) || answers s k m.to) (λ s l. each s l (cases_eq s m.to))
  where
    c : Board
    c = set b m.from None

    d : Board
    d = moved b man m

    p : Puts c d m.to
    p = puts_moved b man m size to_in

    or_true : (x y : Bool) → y ≡ true → not (x || y) ≡ false
    or_true true y e = refl
    or_true false y e = ap not e

    shut : (o a e n : Bool) → e ≡ false → (o && (a && not n)) ≡ not (not (o && a) || (e || n))
    shut true true e true z = sym (ap (λ x. not (false || (x || true))) z)
    shut true true e false z = sym (ap (λ x. not (false || (x || false))) z)
    shut true false e n z = refl
    shut false a e n z = refl

    each : (s : ℕ) → s < 64 → (s ≡ m.to) ⊎ (s ≢ m.to) →
        (is_of by (man_at d s) && attacks d s k) ≡ not (not (is_of by (man_at c s) && attacks c s k) || answers s k m.to)
    each s l (inl e) =
        ap (λ x. is_of by x && attacks d s k) (ap (man_at d) e ∙ arrived b man m size to_in) ∙ ap (λ x. x && attacks d s k) own
        ∙ sym (or_true (not (is_of by (man_at c s) && attacks c s k)) (answers s k m.to) (ap (λ x. x || is_between s k m.to) (eq-eqb m.to s (sym e))))
    each s l (inr n) =
        (λ i. is_of by (p.others s l n i) && attacks_at_with c d m.to s k p l hk n i)
        ∙ shut (is_of by (man_at c s)) (attacks c s k) (m.to == s) (is_between s k m.to) (ne_eqb m.to s (λ e. n (sym e)))

-- a king who steps is attacked where he arrives just where the square is attacked once he has left
pub attacked_step : (b : Board) (man : Man) (m : Move) (by : Side) → length b ≡ 64 → m.to < 64 → is_of by (Some (placed man m)) ≡ false →
    is_attacked (moved b man m) m.to by ≡ is_attacked (set b m.from None) m.to by
unfolding is_attacked attacks
attacked_step b man m by size to_in own =
    some_square_same (λ s. is_of by (man_at d s) && attacks d s m.to) (λ s. is_of by (man_at c s) && attacks c s m.to) (λ s l. each s l (cases_eq s m.to))
  where
    c : Board
    c = set b m.from None

    d : Board
    d = moved b man m

    p : Puts c d m.to
    p = puts_moved b man m size to_in

    never : (x : Option Man) (s : ℕ) → (s == m.to) ≡ true → man_attacks c x s m.to ≡ false
    never None s e = refl
    never (Some x) s e = and_left (not (s == m.to)) (can_reach x.kind x.side s m.to && (not (slides x.kind) || is_clear c s m.to)) (not_from_true (s == m.to) e)

    still : (a n : Bool) → n ≡ false → (a && not n) ≡ a
    still true n e = ap not e
    still false n e = refl

    each : (s : ℕ) → s < 64 → (s ≡ m.to) ⊎ (s ≢ m.to) → (is_of by (man_at d s) && attacks d s m.to) ≡ (is_of by (man_at c s) && attacks c s m.to)
    each s l (inl e) =
        ap (λ x. is_of by x && attacks d s m.to) (ap (man_at d) e ∙ arrived b man m size to_in) ∙ ap (λ x. x && attacks d s m.to) own
        ∙ sym (ap (λ x. is_of by (man_at c s) && x) (never (man_at c s) s (eq-eqb s m.to e)) ∙ and_right (is_of by (man_at c s)) false refl)
    each s l (inr n) =
        (λ i. is_of by (p.others s l n i) && attacks_at_with c d m.to s m.to p l to_in n i)
        ∙ ap (λ x. is_of by (man_at c s) && x) (still (attacks c s m.to) (is_between s m.to m.to) (not_between_end s m.to l to_in))

-- what answers the attacks on a king without one of his men answers those with him, where that man is not pinned
pub unpinned_answered : (b : Board) (who : Side) (k f t : ℕ) → length b ≡ 64 → k < 64 → f < 64 → is_man who King (man_at b k) ≡ true → is_of who (man_at b f) ≡ true →
    is_of (other who) (man_at b f) ≡ false → is_pinned b who f ≡ false → is_answered (set b f None) (other who) k t ≡ is_answered b (other who) k t
unfolding is_answered is_pinned
unpinned_answered b who k f t size hk hf king own enemy free =
    every_square_same (λ s. not (is_of by (man_at c s) && attacks c s k) || answers s k t) (λ s. not (is_of by (man_at b s) && attacks b s k) || answers s k t)
    (λ s l. ap (λ x. not x || answers s k t) (each s l (cases_eq s f)))
  where
    by : Side
    by = other who

    c : Board
    c = set b f None

    some_there : (x : Option Man) → is_of who x ≡ true → is_some x ≡ true
    some_there None h = cc
    some_there (Some x) h = refl

    p : Puts c b f
    p = record {
      inside = hf;
      there = some_there (man_at b f) own;
      others = λ j l n. sym (get_or-set_other b f j None None n);
    }

    unpinned : (s : ℕ) → s < 64 → is_pinned_by b by s k f ≡ false
    unpinned s l = false_from_ne_true (is_pinned_by b by s k f) (λ h.
        both_ways (is_of who (man_at b f) && some_square (λ k. is_man who King (man_at b k) && some_square (λ s. is_pinned_by b by s k f))) free
        (and_from (is_of who (man_at b f)) (some_square (λ k. is_man who King (man_at b k) && some_square (λ s. is_pinned_by b by s k f))) own
        (some_square_at (λ k. is_man who King (man_at b k) && some_square (λ s. is_pinned_by b by s k f)) k hk
        (and_from (is_man who King (man_at b k)) (some_square (λ s. is_pinned_by b by s k f)) king (some_square_at (λ s. is_pinned_by b by s k f) s l h)))))

    open_line : (o n a : Bool) → (o && (n && a)) ≡ false → (o && a) ≡ (o && (a && not n))
    open_line true true true e = cc
    open_line true true false e = refl
    open_line true false true e = refl
    open_line true false false e = refl
    open_line false n a e = refl

    gone : man_at c f ≡ None
    gone = get_or-set_same b f None None (omega arith)

    each : (s : ℕ) → s < 64 → (s ≡ f) ⊎ (s ≢ f) → (is_of by (man_at c s) && attacks c s k) ≡ (is_of by (man_at b s) && attacks b s k)
    each s l (inl e) =
        ap (λ x. is_of by x && attacks c s k) (ap (man_at c) e ∙ gone)
        ∙ sym (ap (λ x. x && attacks b s k) (ap (λ z. is_of by (man_at b z)) e ∙ enemy))
    each s l (inr n) =
        ap (λ x. is_of by x && attacks c s k) (sym (p.others s l n))
        ∙ open_line (is_of by (man_at b s)) (is_between s k f) (attacks c s k) (unpinned s l)
        ∙ ap (λ x. is_of by (man_at b s) && x) (sym (attacks_at_with c b f s k p l hk n))
