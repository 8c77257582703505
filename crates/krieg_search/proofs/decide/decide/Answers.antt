use Rattle.std.proofs.Common.{Vec, ap, sym, ◌∙◌}
use Rattle.std.specs.declared.alloc.Global.{Global}
use Rattle.krieg_search.proofs.Common.{Opening}
use Rattle.krieg_search.proofs.Deciding.{asking_stopped, over, not_won, all_are_won}
use Rattle.krieg_search.proofs.decide.decide.Goals as goal

pub returns-in_err-asked-clause-decided : goal.returns-in_err-asked-clause-decided
returns-in_err-asked-clause-decided c =
    asking_stopped c.args.way.d c.args.way.cut c.args.who c.args.b.now c.args.moves _ c.from_residual.result c.in_err-asked.field-0.0 c.ask_openings.new.search.table c.args.units.now c.ask_openings.new.search.units c.new_search-search.result.units
    (λ x h. cc) c.from_residual.ensures.1 (c.new_search-search.ensures.units ∙ c.left.ensures) c.in_err-asked.ensures.asked

pub returns-in_default-clause-decided : goal.returns-in_default-clause-decided
returns-in_default-clause-decided c =
    let k = rw (c.in_default.is, c.new_search-search.ensures.units, c.left.ensures, sym c.left-2.ensures, sym c.new.ensures) at c.in_ok-asked.ensures.asked in
    over c.args.way.d c.args.way.cut c.args.who c.args.b.now c.args.moves c.args.units.now c.new.result k.0 k.1

pub returns-then-not-all_win-clause-decided : goal.returns-then-not-all_win-clause-decided
returns-then-not-all_win-clause-decided c =
    let a = rw (c.in-Some.is, c.new_search-search.ensures.units, c.left.ensures, sym c.left-2.ensures, sym c.new.ensures) at c.in_ok-asked.ensures.asked in
    let ready = rw c.in-Some.is at c.in_ok-asked.ensures.ready in
    let noted = rw (sym c.take_findings-found.ensures.notes) at ready.1 in
    not_won c.args.way.d c.args.way.cut c.args.who c.args.b.now c.args.moves c.ask_openings.new.search.table c.in-Some.field-0 c.args.units.now c.new.result a c.take_findings-found.ensures.once c.if-not-all_win.true c.take_findings-found.result c.take_findings-found.ensures.table (ap (λ (v : Vec Opening Global). v.items) c.take_findings-found.ensures.openings) noted

pub returns-clause-decided : goal.returns-clause-decided
returns-clause-decided c =
    let a = rw (c.in-Some.is, c.new_search-search.ensures.units, c.left.ensures, sym c.left-2.ensures, sym c.new.ensures) at c.in_ok-asked.ensures.asked in
    let ready = rw c.in-Some.is at c.in_ok-asked.ensures.ready in
    let noted = rw (sym c.take_findings-found.ensures.notes) at ready.1 in
    all_are_won c.args.way.d c.args.way.cut c.args.who c.args.b.now c.args.moves c.ask_openings.new.search.table c.in-Some.field-0 c.args.units.now c.new.result a c.take_findings-found.ensures.once c.if-not-all_win.false c.take_findings-found.result c.take_findings-found.ensures.table (ap (λ (v : Vec Opening Global). v.items) c.take_findings-found.ensures.openings) noted
