use Rattle.std.proofs.Common.{◌≡◌, ◌<◌, length, ap, sym, subst, ◌∙◌, option_map}
use Rattle.krieg_table.proofs.Common.{position_lt, stored, Results, known_for, SetRows, set_at, try_of, entries}
use Rattle.krieg_table.proofs.Calls.{results_at}
use Rattle.krieg_table.proofs.Noting.{known_is}
use Rattle.krieg_table.proofs.table.Table.result.Goals as goal

pub returns-clause-by_sets : goal.returns-clause-by_sets
returns-clause-by_sets c =
    let T = c.self.inside.rows.entries in
    let at = results_at T c.args.id c.index.result.now c.index.ensures in
    let l = subst (λ (T : SetRows). c.args.id < length T) (sym c.self.view_is) c.requires in
    subst (λ (T : SetRows). option_map try_of c.get.result ≡ stored position_lt (entries T) (set_at T c.args.id, c.args.moves)) c.self.view_is
    (ap (option_map try_of) (c.get.ensures ∙ ap (λ (rs : Results). known_for rs c.args.moves) (sym at)) ∙ known_is T c.args.id c.args.moves c.self.invariant l)
