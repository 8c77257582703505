use Rattle.std.proofs.Common.{Bool, Err, refl, sym, subst, List, Option, Vec}
use Rattle.std.specs.declared.alloc.Global.{Global}
use Rattle.krieg_search.proofs.Common.{CoversSets, chess, Opening, Outlook, AreCounted, IsSearched, Stretches, TellsSets, AreNumbered, IsOpened, sets_in}
use Rattle.krieg_search.proofs.Noted.{more_notes}
use Rattle.krieg_search.proofs.StillBlocked.{more_blockers}
use Rattle.krieg_search.proofs.Deciding.{empty_counted, are_opened, openings_stopped, opened_ready, search_stopped, sets_asked}
use Rattle.krieg_search.proofs.decide.ask_openings.Goals as goal

pub find_openings-requires-clause-counted : goal.find_openings-requires-clause-counted
find_openings-requires-clause-counted c = subst AreCounted (sym c.requires.empty) empty_counted

pub returns-in_err-openings-clause-asked : goal.returns-in_err-openings-clause-asked
returns-in_err-openings-clause-asked c =
    let d = c.args.way.d in
    let who = c.args.who in
    let S = c.args.b.now in
    openings_stopped d c.args.way.cut who S c.args.moves _ c.from_residual.result c.in_err-openings.field-0.0 (IsOpened d who S c.args.search.now.table c.find_openings.new.table) c.find_openings.new.table c.args.search.now.units c.find_openings.new.units (λ x h. cc) c.from_residual.ensures.1 c.in_err-openings.ensures

pub returns-in_default-clause-asked : goal.returns-in_default-clause-asked
returns-in_default-clause-asked c =
    let d = c.args.way.d in
    let who = c.args.who in
    let S = c.args.b.now in
    (subst (λ (x : Option (Vec Opening Global)). IsOpened d who S c.args.search.now.table c.find_openings.new.table x) c.in_default.is c.in_ok-openings.ensures.0, c.in_ok-openings.ensures.1)

pub all_openings_win-requires-clause-ready : goal.all_openings_win-requires-clause-ready
all_openings_win-requires-clause-ready c =
    let d = c.args.way.d in
    let T1 = c.find_openings.new.table in
    let os = c.in-Some.openings in
    let o = are_opened d c.args.way.cut c.args.who c.args.b.now c.args.moves c.args.search.now.table T1 c.in_ok-openings.field-0 os c.requires.empty c.in-Some.is c.in_ok-openings.ensures.0 in (
      opened_ready d c.args.way.cut c.args.who c.args.b.now c.args.moves T1 os.items o.1,
      more_notes d c.args.way.cut c.args.search.now.notes o.1.sets.more (rw c.requires.empty at c.requires.ready.1),
      more_blockers d c.args.way.cut c.args.search.now.blockers o.1.sets.more (rw c.requires.empty at c.requires.ready.2),
    )

pub all_openings_win-requires-clause-numbered : goal.all_openings_win-requires-clause-numbered
all_openings_win-requires-clause-numbered c =
    let T1 = c.find_openings.new.table in
    let os = c.in-Some.openings in
    let o = are_opened c.args.way.d c.args.way.cut c.args.who c.args.b.now c.args.moves c.args.search.now.table T1 c.in_ok-openings.field-0 os c.requires.empty c.in-Some.is c.in_ok-openings.ensures.0 in
    subst (λ (xs : List Opening). AreNumbered T1 xs) (sym c.deref.ensures.value) o.1.numbered

pub returns-in_err-all_win-clause-asked : goal.returns-in_err-all_win-clause-asked
returns-in_err-all_win-clause-asked c =
    let d = c.args.way.d in
    let n = c.args.moves in
    let T1 = c.find_openings.new.table in
    let T2 = c.all_openings_win.new.search.table in
    let u1 = c.find_openings.new.units in
    let u2 = c.all_openings_win.new.search.units in
    let os = c.in-Some.openings in
    let o = are_opened d c.args.way.cut c.args.who c.args.b.now n c.args.search.now.table T1 c.in_ok-openings.field-0 os c.requires.empty c.in-Some.is c.in_ok-openings.ensures.0 in
    search_stopped d c.args.way.cut c.args.who c.args.b.now n T1 os.items o.1 _ c.from_residual-in_err-all_win.result c.in_err-all_win.field-0.0 (TellsSets d T2 (sets_in T1 os.items) n) T2 c.args.search.now.units u1 u2 (λ x h. cc) c.from_residual-in_err-all_win.ensures.1
    c.in_ok-openings.ensures.1
    (subst (λ (xs : List Opening). Stretches d c.args.way.cut {A = Bool} (Err c.in_err-all_win.field-0.0) (TellsSets d T2 (sets_in T1 xs) n) (CoversSets (chess d) (sets_in T1 xs) n) 0 T1 T2 u1 u2) c.deref.ensures.value c.in_err-all_win.ensures.searched)

pub returns-clause-asked : goal.returns-clause-asked
returns-clause-asked c =
    let d = c.args.way.d in
    let n = c.args.moves in
    let T1 = c.find_openings.new.table in
    let T2 = c.all_openings_win.new.search.table in
    let u1 = c.find_openings.new.units in
    let u2 = c.all_openings_win.new.search.units in
    let os = c.in-Some.openings in
    let o = are_opened d c.args.way.cut c.args.who c.args.b.now n c.args.search.now.table T1 c.in_ok-openings.field-0 os c.requires.empty c.in-Some.is c.in_ok-openings.ensures.0 in
    let asked : Outlook = record { openings = os; all_win = c.in_ok-all_win.all_win } in
    sets_asked d c.args.way.cut c.args.who c.args.b.now n T1 os.items o.1 T2 asked c.args.search.now.units u1 u2 refl o.0 c.in_ok-openings.ensures.1
    (subst (λ (xs : List Opening). TellsSets d T2 (sets_in T1 xs) n c.in_ok-all_win.all_win × IsSearched d c.args.way.cut (CoversSets (chess d) (sets_in T1 xs) n) 0 T1 T2 u1 u2) c.deref.ensures.value c.in_ok-all_win.ensures.searched)

pub returns-clause-ready : goal.returns-clause-ready
returns-clause-ready c = c.in_ok-all_win.ensures.ready
