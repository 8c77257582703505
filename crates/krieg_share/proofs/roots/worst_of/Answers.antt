use Rattle.std.proofs.Common.{◌∙◌, sym, ap, max}
use Rattle.krieg_theory.proofs.Lists.{in_map}
use Rattle.krieg_table.specs.SetRows.{set_at}
use Rattle.krieg_search.specs.declared.openings.Opening.{Opening}
use Rattle.krieg_search.proofs.Checking.{item_in}
use Rattle.krieg_share.proofs.Rooted.{stored_least, next_worst}
use Rattle.krieg_share.proofs.roots.worst_of.Goals as goal

pub win_of-win-requires-clause-within : goal.win_of-win-requires-clause-within
win_of-win-requires-clause-within c = c.requires.numbered c.o-item.result (item_in c.args.openings.now c.loop-o.o-index c.o-item.result c.loop-o-test.true c.o-item.is)

pub win_of-win-requires-clause-won : goal.win_of-win-requires-clause-won
win_of-win-requires-clause-won c =
    let T = c.args.table.now in
    let o = c.o-item.result in
    c.requires.won (set_at T o.set) (in_map (λ (o : Opening). set_at T o.set) c.args.openings.now o (item_in c.args.openings.now c.loop-o.o-index o c.loop-o-test.true c.o-item.is))

pub loop-o-preserved : goal.loop-o-preserved
loop-o-preserved c d ready =
    let T = c.args.table.now in
    let o = c.o-item.result in
    let os = c.args.openings.now in
    let won = c.requires.won (set_at T o.set) (in_map (λ (o : Opening). set_at T o.set) os o (item_in os c.loop-o.o-index o c.loop-o-test.true c.o-item.is)) in
    next_worst d c.args.moves T os c.loop-o.o-index o c.loop-o.worst c.greater-worst.result _ c.loop-o-test.true c.o-item.is
    (c.greater-worst.ensures ∙ ap (max c.loop-o.worst) (sym (stored_least d c.args.moves T ready o won c.win_of-win.result c.win_of-win.ensures.stored)))
    (c.loop-o.invariant d ready)
