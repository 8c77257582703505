use Rattle.std.proofs.Common.{◌≡◌, ◌-◌, ◌≤◌, true, false, not, length, map, find, List, Some, None, refl, sym, subst, ap, ◌∙◌, arith}
use Rattle.std.proofs.lemmas.List.{length-map, nil_from_length}
use Rattle.std.specs.Vec.Iter.{into_iter_items}
use Rattle.krieg_search.proofs.Common.{Pos, CoversTry, can, made, chess, class_pair, set_at, Wins, Loses, move_of, sets_of, items_of}
use Rattle.krieg_search.proofs.Searching.{ready_from, searched_nothing, searched_number, still_within, stopped}
use Rattle.krieg_search.proofs.Noted.{more_notes, no_notes, one_noted, all_noted}
use Rattle.krieg_search.proofs.Blocked.{is_lost, first_here, first_later}
use Rattle.krieg_search.proofs.Tries as tries
use Rattle.krieg_search.proofs.Tries.{none_tried, next_legal, next_within, fails, win_first, win_searched, win_paid, win_backed, loss_first, loss_searched, loss_backed}
use Rattle.krieg_search.proofs.Telling.{move_at, told_at}
use Rattle.krieg_search.proofs.NextNotes.{still_next}
use Rattle.krieg_search.proofs.Noting.{found_tells, pair_stopped, noted_more, noted}
use Rattle.krieg_search.proofs.Trying.{empty_is, some_is, tried_at, covers_classes, after_split, after_classes, class_lost, none_refuses, rest_smaller, before_rest, covers_rest, after_rest, rest_won, rest_lost}
use Rattle.krieg_search.proofs.StillBlocked.{more_blockers, part_less, part_covers, asked_part, after_keep, split_again, still_paid, still_short, class_kept, refused_kept}
use Rattle.krieg_search.proofs.Checking as sets
use Rattle.krieg_search.proofs.Checking.{IsChecking, none_checked, all_checked, set_lost, set_won}
use Rattle.krieg_search.proofs.Numbers.{first_number, next_covers, number_wins, number_fails, all_fail}
use Rattle.krieg_search.proofs.search.Search.+search.Goals as goal

pub can_win-can_win_in-requires : goal.can_win-can_win_in-requires
can_win-can_win_in-requires t c =
    let a = c.loop-fewer.invariant.counting in
    let l = c.loop-fewer-test.true in
    let w = c.requires.within in
    let same = a.searched.more.same c.args.set w in
    let size : length (set_at c.loop-fewer.self.table c.args.set) ≡ length (set_at c.args.self.now.table c.args.set) = ap length same in
    (omega (arith, size), (omega arith, (still_within c.args.set a.searched.more w, (c.loop-fewer.invariant.ready, rw (sym same) at a.lost))))

pub can_win-returns-in_err-can_win_in-clause-searched : goal.can_win-returns-in_err-can_win_in-clause-searched
can_win-returns-in_err-can_win_in-clause-searched t c =
    let d = c.args.way.d in
    let a = c.loop-fewer.invariant.counting in
    let same = a.searched.more.same c.args.set c.requires.within in
    let covers = next_covers d c.args.way.cut (set_at c.args.self.now.table c.args.set) c.args.moves c.loop-fewer.fewer c.loop-fewer-test.true in
    stopped d c.args.way.cut c.from_residual.result c.in_err-can_win_in.field-0.0 _ _ _ (λ x h. cc) c.from_residual.ensures.1 _ _ _ covers a.searched (omega arith) (rw same at c.in_err-can_win_in.ensures.searched)

pub can_win-returns-then-branch-clause-searched : goal.can_win-returns-then-branch-clause-searched
can_win-returns-then-branch-clause-searched t c =
    let a = c.loop-fewer.invariant.counting in
    let w = rw (a.searched.more.same c.args.set c.requires.within) at c.in_ok-can_win_in.ensures.searched in
    number_wins c.args.way.d c.args.way.cut a c.loop-fewer-test.true w.1 (rw c.if-branch.true at w.0)

pub can_win-loop-fewer-init : goal.can_win-loop-fewer-init
can_win-loop-fewer-init t c = record {
  counting = first_number c.args.way.d c.args.way.cut c.args.self.now.table (set_at c.args.self.now.table c.args.set) c.args.moves c.min-fewer.result c.args.self.now.units c.requires.ready.0 (let e = c.min-fewer.ensures in omega (arith, e)) (λ i p l. c.lost.ensures.all i p (let e = c.min-fewer.ensures in omega (arith, e, l)));
  ready = c.requires.ready;
  most = refl;
}

pub can_win-loop-fewer-preserved : goal.can_win-loop-fewer-preserved
can_win-loop-fewer-preserved t c =
    let a = c.loop-fewer.invariant.counting in
    let w = rw (a.searched.more.same c.args.set c.requires.within) at c.in_ok-can_win_in.ensures.searched in
    record { counting = number_fails c.args.way.d c.args.way.cut a c.loop-fewer-test.true w.1 (rw c.if-branch.false at w.0); ready = c.in_ok-can_win_in.ensures.ready; most = c.can_win_in.ensures.most ∙ c.loop-fewer.invariant.most }

pub can_win-returns-clause-searched : goal.can_win-returns-clause-searched
can_win-returns-clause-searched t c = all_fail c.args.way.d c.args.way.cut c.loop-fewer.invariant.counting c.loop-fewer-test.false

pub can_win_in-returns-in-Some-Wins-clause-searched : goal.can_win_in-returns-in-Some-Wins-clause-searched
can_win_in-returns-in-Some-Wins-clause-searched t c =
    rw c.in-Some-Wins.field-0-is at (found_tells c.args.way.d c.args.way.cut c.args.self.now.units c.requires.ready.0 c.in-Some-Wins.is c.result.ensures.by_sets)

pub can_win_in-returns-in-Some-Loses-clause-searched : goal.can_win_in-returns-in-Some-Loses-clause-searched
can_win_in-returns-in-Some-Loses-clause-searched t c =
    rw c.in-Some-Loses.field-0-is at (found_tells c.args.way.d c.args.way.cut c.args.self.now.units c.requires.ready.0 c.in-Some-Loses.is c.result.ensures.by_sets)

pub win_by_a_try-loop-tried-init : goal.win_by_a_try-loop-tried-init
win_by_a_try-loop-tried-init t c = record {
  trying = none_tried c.args.way.d c.args.way.cut c.args.self.now.table (set_at c.args.self.now.table c.args.set) c.args.moves (map move_of c.deref-tried-items.result.now) c.args.self.now.units
      (ap (map move_of) c.deref-tried-items.ensures.value ∙ c.in_ok-at_hand.ensures.tries c.args.way.d) c.requires.ready.0;
  ready = c.requires.ready;
  most = refl;
  row = no_notes c.args.way.d c.args.way.cut c.args.self.now.table (set_at c.args.self.now.table c.args.set) c.args.moves (map move_of c.deref-tried-items.result.now) (items_of c.in_ok-row.row) c.in_ok-row.ensures;
}

pub win_by_a_try-block_of-requires : goal.win_by_a_try-block_of-requires
win_by_a_try-block_of-requires t c =
    let d = c.args.way.d in
    let at = move_at c.deref-tried-items.result.now c.loop-tried.tried-index c.tried-item.result c.loop-tried-test.true c.tried-item.is in
    let a = c.loop-tried.invariant.trying in
    let legal = next_legal d c.args.way.cut at a in
    let w = c.requires.within in
    let same = a.searched.more.same c.args.set w in
    let size : length (set_at c.loop-tried.self.table c.args.set) ≡ length (set_at c.args.self.now.table c.args.set) = ap length same in
    let told = told_at (set_at c.args.self.now.table c.args.set) (set_at c.loop-tried.self.table c.args.set) c.args.moves c.deref-tried-items.result.now c.in_ok-at_hand.at_hand.tries.items c.loop-tried.tried-index c.tried-item.result c.in_ok-at_hand.ensures.told c.deref-tried-items.ensures.value c.loop-tried-test.true c.tried-item.is (sym same) in
    (omega (arith, size), (record { some = c.requires.next.some; within = still_within c.args.set a.searched.more w; opened = rw (sym same) at c.in_ok-at_hand.ensures.opened }, (c.loop-tried.invariant.ready, record { told = told; legal = rw (sym same) at legal })))

pub win_by_a_try-returns-in_err-block-clause-searched : goal.win_by_a_try-returns-in_err-block-clause-searched
win_by_a_try-returns-in_err-block-clause-searched t c =
    let d = c.args.way.d in
    let at = move_at c.deref-tried-items.result.now c.loop-tried.tried-index c.tried-item.result c.loop-tried-test.true c.tried-item.is in
    let a = c.loop-tried.invariant.trying in
    let r = c.from_residual-in_err-block.result in
    let fails = c.from_residual-in_err-block.ensures.1 in
    let same = a.searched.more.same c.args.set c.requires.within in
    pair_stopped d c.args.way.cut r _ _ _ _ _ _ _ c.from_residual-in_err-block.ensures.0 c.requires.next.unknown
    (stopped d c.args.way.cut r c.in_err-block.field-0.0 _ _ _ (λ x h. cc) fails _ _ _ (tries.next_covers d c.args.way.cut at a) a.searched (next_within d c.args.way.cut at a) (rw same at c.in_err-block.ensures.searched))

pub win_by_a_try-returns-in-None-clause-searched : goal.win_by_a_try-returns-in-None-clause-searched
win_by_a_try-returns-in-None-clause-searched t c =
    let d = c.args.way.d in
    let at = move_at c.deref-tried-items.result.now c.loop-tried.tried-index c.tried-item.result c.loop-tried-test.true c.tried-item.is in
    let x = move_of c.tried-item.result in
    let a = c.loop-tried.invariant.trying in
    let some = c.requires.next.some in
    let v = rw (a.searched.more.same c.args.set c.requires.within, c.in-None.is) at c.in_ok-block.ensures.searched in
    let w = v.0.tells in
    let none = c.requires.next.unknown in
    noted d c.args.way.cut c.args.self.now.table c.block_of.new.self.table c.note.new.self c.args.set c.args.moves (Wins x) (Some x) c.args.self.now.units c.block_of.new.self.units some c.requires.within (win_searched d c.args.way.cut at a v.1 w) (win_paid d c.args.way.cut at a v.1 w (v.0.paid refl)) none (rw c.move_of_try-mv.ensures at c.note.ensures.noted) refl
    (win_first d c.args.way.cut at a v.1 w) (win_backed d c.args.way.cut at a v.1 w some c.requires.next.below)

pub win_by_a_try-returns-in-None-clause-ready : goal.win_by_a_try-returns-in-None-clause-ready
win_by_a_try-returns-in-None-clause-ready t c = (ready_from c.args.way.d c.args.way.cut (win_by_a_try-returns-in-None-clause-searched t c).1, more_notes c.args.way.d c.args.way.cut c.block_of.new.self.notes (noted_more c.note.ensures.noted) c.in_ok-block.ensures.ready.1, more_blockers c.args.way.d c.args.way.cut c.block_of.new.self.blockers (noted_more c.note.ensures.noted) c.in_ok-block.ensures.ready.2)

pub win_by_a_try-loop-tried-preserved : goal.win_by_a_try-loop-tried-preserved
win_by_a_try-loop-tried-preserved t c =
    let d = c.args.way.d in
    let at = move_at c.deref-tried-items.result.now c.loop-tried.tried-index c.tried-item.result c.loop-tried-test.true c.tried-item.is in
    let a = c.loop-tried.invariant.trying in
    let v = rw (a.searched.more.same c.args.set c.requires.within, c.in-Some.is) at c.in_ok-block.ensures.searched in
    record {
      trying = fails d c.args.way.cut at a v.1 v.0.tells;
      ready = c.in_ok-block.ensures.ready;
      most = c.block_of.ensures.most ∙ c.loop-tried.invariant.most;
      row = one_noted d c.args.way.cut c.loop-tried.self.table (set_at c.args.self.now.table c.args.set) c.args.moves (map move_of c.deref-tried-items.result.now) c.loop-tried.tried-index (items_of c.loop-tried.row) (items_of c.add.new.row) (record { mv = move_of c.tried-item.result; block = c.in-Some.block })
          v.1.more at.0 at.1 v.0.blocked (rw c.move_of_try.ensures at c.in_ok-add-in-Some.ensures) c.loop-tried.invariant.row;
    }

pub win_by_a_try-note-requires-clause-next : goal.win_by_a_try-note-requires-clause-next
win_by_a_try-note-requires-clause-next t c =
    let d = c.args.way.d in
    let at = move_at c.deref-tried-items.result.now c.loop-tried.tried-index c.tried-item.result c.loop-tried-test.true c.tried-item.is in
    let a = c.loop-tried.invariant.trying in
    let v = rw (a.searched.more.same c.args.set c.requires.within, c.in-None.is) at c.in_ok-block.ensures.searched in
    still_next d c.args.way.cut _ _ c.args.set c.args.moves _ _ _ c.requires.within c.requires.next (win_searched d c.args.way.cut at a v.1 v.0.tells)

pub win_by_a_try-note-requires-2 : goal.win_by_a_try-note-requires-2
win_by_a_try-note-requires-2 t c =
    let d = c.args.way.d in
    let a = c.loop-tried.invariant.trying in
    let l : length (map move_of c.deref-tried-items.result.now) ≤ c.loop-tried.tried-index = rw length-map c.loop-tried-test.false in
    record { within = still_within c.args.set a.searched.more c.requires.within; next = still_next d c.args.way.cut _ _ c.args.set c.args.moves _ _ _ c.requires.within c.requires.next (loss_searched d c.args.way.cut l a) }

pub win_by_a_try-returns-clause-searched : goal.win_by_a_try-returns-clause-searched
win_by_a_try-returns-clause-searched t c =
    let d = c.args.way.d in
    let a = c.loop-tried.invariant.trying in
    let l : length (map move_of c.deref-tried-items.result.now) ≤ c.loop-tried.tried-index = rw length-map c.loop-tried-test.false in
    let some = c.requires.next.some in
    let none = c.requires.next.unknown in
    noted d c.args.way.cut c.args.self.now.table c.loop-tried.self.table c.note-2.new.self c.args.set c.args.moves Loses None c.args.self.now.units c.loop-tried.self.units some c.requires.within (loss_searched d c.args.way.cut l a) tt none c.note-2.ensures.noted refl
    (loss_first d c.args.way.cut l a) (loss_backed d c.args.way.cut l a some c.requires.next.below)

pub win_by_a_try-returns-clause-ready : goal.win_by_a_try-returns-clause-ready
win_by_a_try-returns-clause-ready t c =
    let d = c.args.way.d in
    let a = c.loop-tried.invariant.trying.searched.more in
    let l : length (map move_of c.deref-tried-items.result.now) ≤ c.loop-tried.tried-index = rw length-map c.loop-tried-test.false in
    let more = noted_more c.note-2.ensures.noted in
    let here = still_within c.args.set a c.requires.within in
    let searched = win_by_a_try-returns-clause-searched t c in (
      ready_from d c.args.way.cut searched.1,
      c.in_ok-keep.ensures.noted d c.args.way.cut c.note-2.new.self (more_notes d c.args.way.cut c.loop-tried.self.notes more c.loop-tried.invariant.ready.1)
          (all_noted d c.args.way.cut c.loop-tried.self.table (set_at c.args.self.now.table c.args.set) c.args.moves (map move_of c.deref-tried-items.result.now) c.loop-tried.tried-index c.args.set (items_of c.loop-tried.row)
          more (still_within c.args.set more here) (more.same c.args.set here ∙ a.same c.args.set c.requires.within) c.loop-tried.invariant.trying.are (sym searched.0.right) l c.loop-tried.invariant.row),
      more_blockers d c.args.way.cut c.loop-tried.self.blockers more c.loop-tried.invariant.ready.2,
    )

pub block_anew-returns-in_err-lost-clause-searched : goal.block_anew-returns-in_err-lost-clause-searched
block_anew-returns-in_err-lost-clause-searched t c =
    let d = c.args.way.d in
    let a = tried_at d c.args.way.cut (move_of c.args.tried.now) c.args.asked.now.moves c.args.self.now.units c.left_of.new.units c.of-b.ensures c.in-Some.is c.requires.asked.some c.requires.ready.0 c.requires.tried.legal c.in_ok-left.ensures.left c.in_ok-left.ensures.units in
    stopped d c.args.way.cut c.from_residual-in_err-lost.result c.in_err-lost.field-0.0 _ _ _ (λ x h. cc) c.from_residual-in_err-lost.ensures.1 _ _ _ (covers_classes d c.args.way.cut a) (after_split d c.args.way.cut a) (omega arith) c.in_err-lost.ensures.searched

pub block_anew-returns-in-Some-lost-clause-searched : goal.block_anew-returns-in-Some-lost-clause-searched
block_anew-returns-in-Some-lost-clause-searched t c =
    let d = c.args.way.d in
    let a = tried_at d c.args.way.cut (move_of c.args.tried.now) c.args.asked.now.moves c.args.self.now.units c.left_of.new.units c.of-b.ensures c.in-Some.is c.requires.asked.some c.requires.ready.0 c.requires.tried.legal c.in_ok-left.ensures.left c.in_ok-left.ensures.units in
    let w = rw c.in-Some-lost.is at c.in_ok-lost.ensures.searched in
    (class_lost d c.args.way.cut a c.in-Some-lost.class.0 c.in-Some-lost.class.1 w.0, after_classes d c.args.way.cut a w.1)

pub block_anew-returns-then-is_empty-clause-searched : goal.block_anew-returns-then-is_empty-clause-searched
block_anew-returns-then-is_empty-clause-searched t c =
    let d = c.args.way.d in
    let a = tried_at d c.args.way.cut (move_of c.args.tried.now) c.args.asked.now.moves c.args.self.now.units c.left_of.new.units c.of-b.ensures c.in-Some.is c.requires.asked.some c.requires.ready.0 c.requires.tried.legal c.in_ok-left.ensures.left c.in_ok-left.ensures.units in
    let w = rw c.in_default-lost.is at c.in_ok-lost.ensures.searched in
    let none = empty_is c.in-Some.field-0.refused c.is_empty.result c.is_empty.ensures c.if-is_empty.true in
    (none_refuses d c.args.way.cut a w.0 w.1 none, after_classes d c.args.way.cut a w.1)

pub block_anew-can_win-requires : goal.block_anew-can_win-requires
block_anew-can_win-requires t c =
    let d = c.args.way.d in
    let a = tried_at d c.args.way.cut (move_of c.args.tried.now) c.args.asked.now.moves c.args.self.now.units c.left_of.new.units c.of-b.ensures c.in-Some.is c.requires.asked.some c.requires.ready.0 c.requires.tried.legal c.in_ok-left.ensures.left c.in_ok-left.ensures.units in
    let w = rw c.in_default-lost.is at c.in_ok-lost.ensures.searched in
    let n = some_is c.in-Some.field-0.refused c.is_empty.result c.is_empty.ensures c.if-is_empty.false in
    let i = c.in_ok-rest.ensures in
    let smaller = rest_smaller d c.args.way.cut a w.0 w.1 n i in
    (omega (arith, smaller), (i.interned.within, (ready_from d c.args.way.cut (before_rest d c.args.way.cut a w.0 w.1 n i), more_notes d c.args.way.cut c.first_lost.new.self.notes i.interned.more c.in_ok-lost.ensures.ready.1, more_blockers d c.args.way.cut c.first_lost.new.self.blockers i.interned.more c.in_ok-lost.ensures.ready.2)))

pub block_anew-returns-in_err-can_win-clause-searched : goal.block_anew-returns-in_err-can_win-clause-searched
block_anew-returns-in_err-can_win-clause-searched t c =
    let d = c.args.way.d in
    let a = tried_at d c.args.way.cut (move_of c.args.tried.now) c.args.asked.now.moves c.args.self.now.units c.left_of.new.units c.of-b.ensures c.in-Some.is c.requires.asked.some c.requires.ready.0 c.requires.tried.legal c.in_ok-left.ensures.left c.in_ok-left.ensures.units in
    let w = rw c.in_default-lost.is at c.in_ok-lost.ensures.searched in
    let n = some_is c.in-Some.field-0.refused c.is_empty.result c.is_empty.ensures c.if-is_empty.false in
    let i = c.in_ok-rest.ensures in
    stopped d c.args.way.cut c.from_residual-in_err-can_win.result c.in_err-can_win.field-0.0 _ _ _ (λ x h. cc) c.from_residual-in_err-can_win.ensures.1 _ _ _ (covers_rest d c.args.way.cut a w.0 w.1 n i) (before_rest d c.args.way.cut a w.0 w.1 n i) (omega arith) c.in_err-can_win.ensures.searched

pub block_anew-returns-then-branch-clause-searched : goal.block_anew-returns-then-branch-clause-searched
block_anew-returns-then-branch-clause-searched t c =
    let d = c.args.way.d in
    let a = tried_at d c.args.way.cut (move_of c.args.tried.now) c.args.asked.now.moves c.args.self.now.units c.left_of.new.units c.of-b.ensures c.in-Some.is c.requires.asked.some c.requires.ready.0 c.requires.tried.legal c.in_ok-left.ensures.left c.in_ok-left.ensures.units in
    let w = rw c.in_default-lost.is at c.in_ok-lost.ensures.searched in
    let n = some_is c.in-Some.field-0.refused c.is_empty.result c.is_empty.ensures c.if-is_empty.false in
    let i = c.in_ok-rest.ensures in
    let v = rw c.if-branch.true at c.in_ok-can_win.ensures.searched in
    (rest_won d c.args.way.cut a w.0 w.1 n i v.1 v.0, after_rest d c.args.way.cut a w.0 w.1 n i v.1)

pub block_anew-returns-clause-searched : goal.block_anew-returns-clause-searched
block_anew-returns-clause-searched t c =
    let d = c.args.way.d in
    let a = tried_at d c.args.way.cut (move_of c.args.tried.now) c.args.asked.now.moves c.args.self.now.units c.left_of.new.units c.of-b.ensures c.in-Some.is c.requires.asked.some c.requires.ready.0 c.requires.tried.legal c.in_ok-left.ensures.left c.in_ok-left.ensures.units in
    let w = rw c.in_default-lost.is at c.in_ok-lost.ensures.searched in
    let n = some_is c.in-Some.field-0.refused c.is_empty.result c.is_empty.ensures c.if-is_empty.false in
    let i = c.in_ok-rest.ensures in
    let v = rw c.if-branch.false at c.in_ok-can_win.ensures.searched in
    (rest_lost d c.args.way.cut a w.0 w.1 n i v.1 v.0, after_rest d c.args.way.cut a w.0 w.1 n i v.1)

pub first_lost-loop-class-init : goal.first_lost-loop-class-init
first_lost-loop-class-init t c =
    let d = c.args.way.d in
    let T = c.args.self.now.table in
    let Cs = sets_of c.args.classes.items in
    let gives = c.into_iter-class-iterator.ensures.into_iter_gives in
    record {
      checking = subst (λ (ahead : List (List Pos)). IsChecking d c.args.way.cut T T Cs ahead c.args.moves c.args.self.now.units c.args.self.now.units) (ap sets_of (sym gives.0)) (none_checked d c.args.way.cut T Cs c.args.moves c.args.self.now.units c.requires.ready.0);
      counted = omega (arith, gives.1, ap length gives.0);
      first = ap (λ cs. find (is_lost d c.args.moves) (map class_pair cs)) (sym gives.0);
      ready = c.requires.ready;
      most = refl;
    }

pub first_lost-can_win-requires : goal.first_lost-can_win-requires
first_lost-can_win-requires t c =
    let d = c.args.way.d in
    let i = c.in_ok-set.ensures in
    let few = i.counted c.in_ok-set.set in
    (omega arith, (i.interned.within, (ready_from d c.args.way.cut (searched_number d c.args.way.cut c.loop-class.invariant.checking.searched i), more_notes d c.args.way.cut c.loop-class.self.notes i.interned.more c.loop-class.invariant.ready.1, more_blockers d c.args.way.cut c.loop-class.self.blockers i.interned.more c.loop-class.invariant.ready.2)))

pub first_lost-returns-in_err-can_win-clause-searched : goal.first_lost-returns-in_err-can_win-clause-searched
first_lost-returns-in_err-can_win-clause-searched t c =
    let d = c.args.way.d in
    let i = c.in_ok-set.ensures in
    let a = rw c.in-Some.ensures.steps.0 at c.loop-class.invariant.checking in
    let before = searched_number d c.args.way.cut a.searched i in
    stopped d c.args.way.cut c.from_residual-in_err-can_win.result c.in_err-can_win.field-0.0 _ _ _ (λ x h. cc) c.from_residual-in_err-can_win.ensures.1 _ _ _ (sets.next_covers d c.args.way.cut a i.interned.at i.interned.noted before) before (omega arith) c.in_err-can_win.ensures.searched

pub first_lost-returns-then-not-branch-clause-searched : goal.first_lost-returns-then-not-branch-clause-searched
first_lost-returns-then-not-branch-clause-searched t c =
    let d = c.args.way.d in
    let i = c.in_ok-set.ensures in
    let e = c.in-Some.ensures.steps.0 in
    let a = rw e at c.loop-class.invariant.checking in
    let w = rw c.if-not-branch.true at c.in_ok-can_win.ensures.searched in
    let s = set_lost d c.args.way.cut a i.interned.at i.interned.noted (searched_number d c.args.way.cut a.searched i) w.1 w.0 in
    let within = i.interned.within in
    let first = first_here d c.args.moves c.args.classes.items c.in-Some.class (into_iter_items c.next.new.self) (c.loop-class.invariant.first ∙ ap (λ cs. find (is_lost d c.args.moves) (map class_pair cs)) e) (sym (w.0.right ∙ ap (can (chess d) c.args.moves) i.interned.at)) in
    let words = sym c.new.ensures in
    let at = sym (w.1.more.same c.in_ok-set.set within ∙ i.interned.at) in
    (record { tells = s.0; first = first ∙ (λ k. Some (words k, at k)); within = still_within c.in_ok-set.set w.1.more within }, s.1)

pub first_lost-loop-class-preserved : goal.first_lost-loop-class-preserved
first_lost-loop-class-preserved t c =
    let d = c.args.way.d in
    let i = c.in_ok-set.ensures in
    let steps = c.in-Some.ensures.steps in
    let a = rw steps.0 at c.loop-class.invariant.checking in
    let w = rw c.if-not-branch.false at c.in_ok-can_win.ensures.searched in
    record {
      checking = set_won d c.args.way.cut a i.interned.at i.interned.noted (searched_number d c.args.way.cut a.searched i) w.1 w.0;
      counted = omega (arith, c.loop-class.invariant.counted, steps.1, ap length steps.0);
      first = first_later d c.args.moves c.args.classes.items c.in-Some.class (into_iter_items c.next.new.self) (c.loop-class.invariant.first ∙ ap (λ cs. find (is_lost d c.args.moves) (map class_pair cs)) steps.0) (sym (w.0.right ∙ ap (can (chess d) c.args.moves) i.interned.at));
      ready = c.in_ok-can_win.ensures.ready;
      most = c.can_win.ensures.most ∙ c.loop-class.invariant.most;
    }

pub first_lost-returns-clause-searched : goal.first_lost-returns-clause-searched
first_lost-returns-clause-searched t c =
    let none = nil_from_length (into_iter_items c.loop-class.class-iterator) (let n = c.in-None.ensures.steps in let k = c.loop-class.invariant.counted in omega arith) in
    let s = all_checked c.args.way.d c.args.way.cut (rw none at c.loop-class.invariant.checking) in
    (record { tells = s.0; first = c.loop-class.invariant.first ∙ ap (λ cs. find (is_lost c.args.way.d c.args.moves) (map class_pair cs)) none; within = tt }, s.1)

pub block_of-can_win-requires : goal.block_of-can_win-requires
block_of-can_win-requires t c =
    let d = c.args.way.d in
    let T = c.args.self.now.table in
    let B = set_at T c.args.asked.now.set in
    let b = c.in-Some.blocker in
    let right = c.requires.ready.2 b c.in-Some.ensures.there in
    let p = rw (c.in-Some.ensures.set, c.in-Some.ensures.mv, c.move_of_try.ensures) at right.part in
    let l = part_less d c.args.way.cut B (move_of c.args.tried.now) c.args.asked.now.moves c.requires.asked.some b.refuses (set_at T b.part) c.requires.tried.legal (c.requires.ready.0.counted b.part) p in
    (omega (arith, l, c.moves_for-moves.ensures), (right.part_within, c.requires.ready))

pub block_of-returns-in_err-can_win-clause-searched : goal.block_of-returns-in_err-can_win-clause-searched
block_of-returns-in_err-can_win-clause-searched t c =
    let d = c.args.way.d in
    let T = c.args.self.now.table in
    let B = set_at T c.args.asked.now.set in
    let b = c.in-Some.blocker in
    let right = c.requires.ready.2 b c.in-Some.ensures.there in
    let p = rw (c.in-Some.ensures.set, c.in-Some.ensures.mv, c.move_of_try.ensures) at right.part in
    let covers = part_covers d c.args.way.cut B (move_of c.args.tried.now) c.args.asked.now.moves c.requires.asked.some b.refuses (set_at T b.part) p in
    let before = searched_nothing d c.args.way.cut (CoversTry (chess d) B c.args.asked.now.moves (move_of c.args.tried.now)) T c.args.self.now.units c.requires.ready.0 in
    stopped d c.args.way.cut c.from_residual.result c.in_err-can_win.field-0.0 _ _ _ (λ x h. cc) c.from_residual.ensures.1 _ _ _ covers before (omega arith) (rw c.moves_for-moves.ensures at c.in_err-can_win.ensures.searched)

pub block_of-returns-then-branch-clause-searched : goal.block_of-returns-then-branch-clause-searched
block_of-returns-then-branch-clause-searched t c =
    let again = c.block_anew-then-branch in
    let d = c.args.way.d in
    let T = c.args.self.now.table in
    let B = set_at T c.args.asked.now.set in
    let b = c.in-Some.blocker in
    let right = c.requires.ready.2 b c.in-Some.ensures.there in
    let p = rw (c.in-Some.ensures.set, c.in-Some.ensures.mv, c.move_of_try.ensures) at right.part in
    let v = asked_part d c.args.way.cut B (move_of c.args.tried.now) c.args.asked.now.moves c.requires.asked.some b.refuses (set_at T b.part) p c.requires.ready.0 (rw c.moves_for-moves.ensures at c.in_ok-can_win.ensures.searched) in
    split_again d c.args.way.cut v.1 again.new.self.table again.new.self.units again.result (rw (v.1.more.same c.args.asked.now.set c.requires.asked.within) at again.ensures.searched)

pub block_of-returns-in-Ok-clause-searched : goal.block_of-returns-in-Ok-clause-searched
block_of-returns-in-Ok-clause-searched t c =
    let d = c.args.way.d in
    let T = c.args.self.now.table in
    let B = set_at T c.args.asked.now.set in
    let b = c.in-Some.blocker in
    let right = c.requires.ready.2 b c.in-Some.ensures.there in
    let p = rw (c.in-Some.ensures.set, c.in-Some.ensures.mv, c.move_of_try.ensures) at right.part in
    let v = asked_part d c.args.way.cut B (move_of c.args.tried.now) c.args.asked.now.moves c.requires.asked.some b.refuses (set_at T b.part) p c.requires.ready.0 (rw c.moves_for-moves.ensures at c.in_ok-can_win.ensures.searched) in
    let made = right.made ∙ ap (λ (X : List Pos). made (chess d) X b.mv) (ap (set_at T) c.in-Some.ensures.set) ∙ ap (made (chess d) B) (c.in-Some.ensures.mv ∙ c.move_of_try.ensures) in
    still_paid d c.args.way.cut v.1 c.take.new.self right.may (v.0 (ap not c.if-branch.false)) (rw made at c.in-Ok.ensures.ok)

pub block_of-returns-in-Err-clause-searched : goal.block_of-returns-in-Err-clause-searched
block_of-returns-in-Err-clause-searched t c =
    let d = c.args.way.d in
    let T = c.args.self.now.table in
    let B = set_at T c.args.asked.now.set in
    let b = c.in-Some.blocker in
    let right = c.requires.ready.2 b c.in-Some.ensures.there in
    let p = rw (c.in-Some.ensures.set, c.in-Some.ensures.mv, c.move_of_try.ensures) at right.part in
    let v = asked_part d c.args.way.cut B (move_of c.args.tried.now) c.args.asked.now.moves c.requires.asked.some b.refuses (set_at T b.part) p c.requires.ready.0 (rw c.moves_for-moves.ensures at c.in_ok-can_win.ensures.searched) in
    let made = right.made ∙ ap (λ (X : List Pos). made (chess d) X b.mv) (ap (set_at T) c.in-Some.ensures.set) ∙ ap (made (chess d) B) (c.in-Some.ensures.mv ∙ c.move_of_try.ensures) in
    still_short d c.args.way.cut v.1 c.take.new.self c.in-Err.ensures.err (rw made at (c.in-Err.ensures.refused.0 refl))

pub block_anew-returns-in-Some-lost-clause-ready : goal.block_anew-returns-in-Some-lost-clause-ready
block_anew-returns-in-Some-lost-clause-ready t c =
    let d = c.args.way.d in
    let cut = c.args.way.cut in
    let u0 = c.args.self.now.units in
    let u1 = c.left_of.new.units in
    let mv = move_of c.args.tried.now in
    let class = c.in-Some-lost.class in
    let a = tried_at d cut mv c.args.asked.now.moves u0 u1 c.of-b.ensures c.in-Some.is c.requires.asked.some c.requires.ready.0 c.requires.tried.legal c.in_ok-left.ensures.left c.in_ok-left.ensures.units in
    let w = rw c.in-Some-lost.is at c.in_ok-lost.ensures.searched in
    let r = c.in_ok-lost.ensures.ready in (
      r.0,
      r.1,
      after_keep d cut c.first_lost.new.self.table c.first_lost.new.self.blockers c.keep.new.self (record { set = c.args.asked.now.set; mv = mv; part = class.1; refuses = false; made = u0 - u1 })
          (rw (c.move_of_try.ensures, c.left-before.ensures, c.left.ensures) at c.new-kept.ensures) c.keep.ensures r.2
          (λ may. class_kept d cut u0 u1 may c.requires.asked.within w.1.more c.requires.asked.some class.1 a.taken class.0 (class_lost d cut a {u2 = c.first_lost.new.self.units} class.0 class.1 w.0).blocked),
    )

pub block_anew-returns-clause-ready : goal.block_anew-returns-clause-ready
block_anew-returns-clause-ready t c =
    let d = c.args.way.d in
    let cut = c.args.way.cut in
    let u0 = c.args.self.now.units in
    let u1 = c.left_of.new.units in
    let mv = move_of c.args.tried.now in
    let a = tried_at d cut mv c.args.asked.now.moves u0 u1 c.of-b.ensures c.in-Some.is c.requires.asked.some c.requires.ready.0 c.requires.tried.legal c.in_ok-left.ensures.left c.in_ok-left.ensures.units in
    let w = rw c.in_default-lost.is at c.in_ok-lost.ensures.searched in
    let n = some_is c.in-Some.field-0.refused c.is_empty.result c.is_empty.ensures c.if-is_empty.false in
    let i = c.in_ok-rest.ensures in
    let v = rw c.if-branch.false at c.in_ok-can_win.ensures.searched in
    let r = c.in_ok-can_win.ensures.ready in (
      r.0,
      r.1,
      after_keep d cut c.can_win.new.self.table c.can_win.new.self.blockers c.keep-2.new.self (record { set = c.args.asked.now.set; mv = mv; part = c.in_ok-rest.rest; refuses = true; made = u0 - u1 })
          (rw (c.move_of_try-2.ensures, c.left-before.ensures, c.left.ensures) at c.new-kept-2.ensures) c.keep-2.ensures r.2
          (λ may. refused_kept d cut u0 u1 may c.requires.asked.within (after_rest d cut a w.0 w.1 n i v.1).more c.requires.asked.some c.in_ok-rest.rest a.taken (rest_lost d cut a w.0 w.1 n i v.1 v.0).blocked),
    )
