use Rattle.std.proofs.Common.{sym, ◌∙◌}
use Rattle.krieg_solve.proofs.Common.{set_at}
use Rattle.krieg_search.proofs.Telling.{same_move}
use Rattle.krieg_solve.proofs.Keying.{no_keys, some_keys, first_looked, later_looked}
use Rattle.krieg_solve.proofs.set_keys.is_key.Goals as goal

pub returns-then-is_empty-clause-searched : goal.returns-then-is_empty-clause-searched
returns-then-is_empty-clause-searched c =
    let found = c.args.found.now in
    let none = no_keys found.items found.len found.ok.0 (sym c.is_empty.ensures ∙ c.if-is_empty.true) in
    first_looked c.args.way.d c.args.way.cut (set_at c.args.search.now.table c.args.set) c.args.win.now.moves c.args.win.now.mv c.args.mv.now c.eq.result found.items none c.requires.first (same_move c.args.mv.now c.args.win.now.mv c.eq.result c.eq.ensures) c.requires.ready.0

pub returns-clause-searched : goal.returns-clause-searched
returns-clause-searched c =
    let found = c.args.found.now in
    let some = some_keys found.items found.len found.ok.0 (sym c.is_empty.ensures ∙ c.if-is_empty.false) in
    later_looked c.args.way.d c.args.way.cut (set_at c.args.search.now.table c.args.set) c.args.win.now.moves c.args.win.now.mv _ _ _ _ c.args.mv.now found.items c.begins.result some c.begins.ensures.searched
