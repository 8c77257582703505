use Rattle.std.proofs.Common.{List, refl, subst, ◌∙◌, arith}
use Rattle.std.proofs.lemmas.List.{drop_all}
use Rattle.krieg_search.proofs.Common.{Opening, sets_in}
use Rattle.krieg_search.proofs.Searching.{stopped}
use Rattle.krieg_search.proofs.Checking.{IsChecking, none_checked, all_checked}
use Rattle.krieg_search.proofs.Asking.{opening_within, opening_covers, opening_lost, opening_won}
use Rattle.krieg_search.proofs.decide.all_openings_win.Goals as goal

pub loop-o-init : goal.loop-o-init
loop-o-init c = record {
  checking = none_checked c.args.way.d c.args.way.cut c.args.search.now.table (sets_in c.args.search.now.table c.args.openings.now) c.args.moves c.args.search.now.units c.requires.ready.0;
  ready = c.requires.ready;
  most = refl;
}

pub can_win-requires-clause-within : goal.can_win-requires-clause-within
can_win-requires-clause-within c = opening_within c.args.way.d c.args.way.cut c.args.openings.now c.loop-o.o-index c.o-item.result c.loop-o-test.true c.o-item.is c.requires.numbered c.loop-o.invariant.checking

pub returns-in_err-can_win-clause-searched : goal.returns-in_err-can_win-clause-searched
returns-in_err-can_win-clause-searched c =
    let d = c.args.way.d in
    let covers = opening_covers d c.args.way.cut c.args.openings.now c.loop-o.o-index c.o-item.result c.loop-o-test.true c.o-item.is c.requires.numbered c.loop-o.invariant.checking in
    stopped d c.args.way.cut c.from_residual.result c.in_err-can_win.field-0.0 _ _ _ (λ x h. cc) c.from_residual.ensures.1 _ _ _ covers c.loop-o.invariant.checking.searched (omega arith) c.in_err-can_win.ensures.searched

pub returns-then-not-branch-clause-searched : goal.returns-then-not-branch-clause-searched
returns-then-not-branch-clause-searched c =
    let w = c.in_ok-can_win.ensures.searched in
    opening_lost c.args.way.d c.args.way.cut c.args.openings.now c.loop-o.o-index c.o-item.result c.loop-o-test.true c.o-item.is c.requires.numbered c.loop-o.invariant.checking w.1 (rw c.if-not-branch.true at w.0)

pub loop-o-preserved : goal.loop-o-preserved
loop-o-preserved c =
    let w = c.in_ok-can_win.ensures.searched in
    record { checking = opening_won c.args.way.d c.args.way.cut c.args.openings.now c.loop-o.o-index c.o-item.result c.loop-o-test.true c.o-item.is c.requires.numbered c.loop-o.invariant.checking w.1 (rw c.if-not-branch.false at w.0); ready = c.in_ok-can_win.ensures.ready; most = c.can_win.ensures.most ∙ c.loop-o.invariant.most }

pub returns-clause-searched : goal.returns-clause-searched
returns-clause-searched c =
    let T0 = c.args.search.now.table in
    let Cs = sets_in T0 c.args.openings.now in
    let none = drop_all c.loop-o.o-index c.args.openings.now c.loop-o-test.false in
    all_checked c.args.way.d c.args.way.cut (subst (λ (ys : List Opening). IsChecking c.args.way.d c.args.way.cut T0 c.loop-o.search.table Cs (sets_in T0 ys) c.args.moves c.args.search.now.units c.loop-o.search.units) none c.loop-o.invariant.checking)
