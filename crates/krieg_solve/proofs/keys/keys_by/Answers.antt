use Rattle.std.proofs.Common.{ℕ, List, sym, subst, ◌∙◌}
use Rattle.krieg_solve.proofs.Common.{AreSetKeys}
use Rattle.krieg_search.proofs.Deciding.{none_can, answer}
use Rattle.krieg_solve.proofs.Solving.{none_mates}
use Rattle.krieg_solve.proofs.KeyRoots.{found_sets, over_taken, lost_taken, keys_within, keys_won, keys_stopped, keys_taken, keys_are}
use Rattle.krieg_solve.proofs.keys.keys_by.Goals as goal

pub returns-in_default-clause-answer : goal.returns-in_default-clause-answer
returns-in_default-clause-answer c =
    let k = rw c.in_default.is at c.in_ok-asked.ensures.asked in
    none_mates c.args.way.d c.args.who c.args.b.now c.args.moves (none_can c.args.way.d c.args.who c.args.b.now c.args.moves k.0)

pub returns-in_default-clause-taken : goal.returns-in_default-clause-taken
returns-in_default-clause-taken c =
    let k = rw c.in_default.is at c.in_ok-asked.ensures.asked in
    over_taken c.args.way.d c.args.way.cut c.args.who c.args.b.now c.args.moves c.args.search.now.units c.ask_openings.new.search.units k.1

pub returns-then-not-all_win-clause-answer : goal.returns-then-not-all_win-clause-answer
returns-then-not-all_win-clause-answer c =
    let a = rw c.in-Some.is at c.in_ok-asked.ensures.asked in
    none_mates c.args.way.d c.args.who c.args.b.now c.args.moves (sym (answer c.args.way.d c.args.way.cut c.args.who c.args.b.now c.args.moves c.ask_openings.new.search.table c.in-Some.field-0 c.args.search.now.units c.ask_openings.new.search.units a) ∙ c.if-not-all_win.true)

pub returns-then-not-all_win-clause-taken : goal.returns-then-not-all_win-clause-taken
returns-then-not-all_win-clause-taken c =
    let a = rw c.in-Some.is at c.in_ok-asked.ensures.asked in
    lost_taken c.args.way.d c.args.way.cut c.args.who c.args.b.now c.args.moves c.ask_openings.new.search.table c.in-Some.field-0 c.args.search.now.units c.ask_openings.new.search.units a

pub keys_of_sets-requires-clause-ready : goal.keys_of_sets-requires-clause-ready
keys_of_sets-requires-clause-ready c = rw c.in-Some.is at c.in_ok-asked.ensures.ready

pub keys_of_sets-requires-clause-within : goal.keys_of_sets-requires-clause-within
keys_of_sets-requires-clause-within c =
    let a = rw c.in-Some.is at c.in_ok-asked.ensures.asked in
    let only = rw c.deref.ensures.value at c.in_ok-sets.ensures.only in
    rw c.deref-2.ensures.value
    (keys_within c.args.way.d c.args.way.cut c.args.who c.args.b.now c.args.moves c.ask_openings.new.search.table c.in-Some.field-0 c.args.search.now.units c.ask_openings.new.search.units a c.if-not-all_win.false c.in_ok-sets.sets.items c.in_ok-sets.ensures.once only)

pub keys_of_sets-requires-clause-won : goal.keys_of_sets-requires-clause-won
keys_of_sets-requires-clause-won c =
    let a = rw c.in-Some.is at c.in_ok-asked.ensures.asked in
    let only = rw c.deref.ensures.value at c.in_ok-sets.ensures.only in
    rw c.deref-2.ensures.value
    (keys_won c.args.way.d c.args.way.cut c.args.who c.args.b.now c.args.moves c.ask_openings.new.search.table c.in-Some.field-0 c.args.search.now.units c.ask_openings.new.search.units a c.if-not-all_win.false c.in_ok-sets.sets.items c.in_ok-sets.ensures.once only)

pub returns-in_err-found-clause-taken : goal.returns-in_err-found-clause-taken
returns-in_err-found-clause-taken c =
    let a = rw c.in-Some.is at c.in_ok-asked.ensures.asked in
    let only = rw c.deref.ensures.value at c.in_ok-sets.ensures.only in
    let s = rw c.deref-2.ensures.value at c.in_err-found.ensures.searched in
    (keys_stopped c.args.way.d c.args.way.cut c.args.who c.args.b.now c.args.moves c.ask_openings.new.search.table c.in-Some.field-0 c.args.search.now.units c.ask_openings.new.search.units a c.if-not-all_win.false c.in_ok-sets.sets.items c.in_ok-sets.ensures.once only
    c.know_once.ensures.sets c.know_once.ensures.results _ c.from_residual-in_err-found.result c.in_err-found.field-0.0 _ c.keys_of_sets.new.search.table c.keys_of_sets.new.search.units (λ x h. cc) c.from_residual-in_err-found.ensures.1 s).1

pub keys_at_openings-requires : goal.keys_at_openings-requires
keys_at_openings-requires c s i =
    let w = rw c.deref-2.ensures.value at c.in_ok-found.ensures.searched in
    let e = found_sets c.args.way.d c.args.moves c.ask_openings.new.search.table c.in_ok-sets.sets.items c.in_ok-found.found.items w.0 in
    rw (c.deref-4.ensures.value, e) ((rw c.deref.ensures.value at c.in_ok-sets.ensures.all) s (rw c.deref-3.ensures.value at i))

pub returns-clause-answer : goal.returns-clause-answer
returns-clause-answer c =
    let d = c.args.way.d in
    let n = c.args.moves in
    let T1 = c.ask_openings.new.search.table in
    let found = c.in_ok-found.found.items in
    let a = rw c.in-Some.is at c.in_ok-asked.ensures.asked in
    let only = rw c.deref.ensures.value at c.in_ok-sets.ensures.only in
    let w = rw c.deref-2.ensures.value at c.in_ok-found.ensures.searched in
    let e = found_sets d n T1 c.in_ok-sets.sets.items found w.0 in
    let keyed = rw (c.deref-3.ensures.value, c.deref-4.ensures.value) at c.in_ok-keys_at_openings.ensures in
    keys_are d c.args.way.cut c.args.who c.args.b.now n T1 c.in-Some.field-0 c.args.search.now.units c.ask_openings.new.search.units a c.if-not-all_win.false c.in_ok-sets.sets.items c.in_ok-sets.ensures.once only c.in_ok-keys_at_openings.field-0
    (keyed d n T1 (subst (λ (ks : List ℕ). AreSetKeys d n T1 ks found) (sym e) w.0))

pub returns-clause-taken : goal.returns-clause-taken
returns-clause-taken c =
    let a = rw c.in-Some.is at c.in_ok-asked.ensures.asked in
    let only = rw c.deref.ensures.value at c.in_ok-sets.ensures.only in
    let w = rw c.deref-2.ensures.value at c.in_ok-found.ensures.searched in
    keys_taken c.args.way.d c.args.way.cut c.args.who c.args.b.now c.args.moves c.ask_openings.new.search.table c.in-Some.field-0 c.args.search.now.units c.ask_openings.new.search.units a c.if-not-all_win.false c.in_ok-sets.sets.items c.in_ok-sets.ensures.once only
    c.know_once.ensures.sets c.know_once.ensures.results c.in_ok-keys_at_openings.field-0 c.keys_of_sets.new.search.table c.keys_of_sets.new.search.units c.know_once-2.ensures.results w.1
