use Rattle.std.proofs.Common.{◌≡◌, ◌<◌, length, Option, Some, None, subst, ap, sym, ◌∙◌}
use Rattle.std.specs.Prelude.{IfSome}
use Rattle.krieg_table.proofs.Common.{position_lt, stored, Results, Win, SetRows, row_at, set_at, entries}
use Rattle.krieg_table.proofs.Calls.{results_at}
use Rattle.krieg_table.proofs.Nexts.{win_is, win_only}
use Rattle.krieg_table.proofs.table.Table.win.Goals as goal

pub returns-clause-stored : goal.returns-clause-stored
returns-clause-stored c =
    let T = c.self.inside.rows.entries in
    let at = results_at T c.args.id c.index.result.now c.index.ensures in
    let l = subst (λ (S : SetRows). c.args.id < length S) (sym c.self.view_is) c.requires in
    let told : c.win.result ≡ (row_at T c.args.id).1.won = c.win.ensures ∙ ap (λ (rs : Results). rs.won) (sym at) in
    subst (λ (S : SetRows). IfSome c.win.result (λ w. stored position_lt (entries S) (set_at S c.args.id, w.moves) ≡ Some (Some w.mv))) c.self.view_is (go l c.win.result told)
  where
    go : c.args.id < length c.self.inside.rows.entries → (o : Option Win) → o ≡ (row_at c.self.inside.rows.entries c.args.id).1.won → IfSome o (λ w. stored position_lt (entries c.self.inside.rows.entries) (set_at c.self.inside.rows.entries c.args.id, w.moves) ≡ Some (Some w.mv))
    go l None e = tt
    go l (Some w) e = win_is c.self.inside.rows.entries c.args.id w c.self.invariant l (sym e)

pub returns-clause-only : goal.returns-clause-only
returns-clause-only c i m e =
    let T = c.self.inside.rows.entries in
    let at = results_at T c.args.id c.index.result.now c.index.ensures in
    let l = subst (λ (S : SetRows). c.args.id < length S) (sym c.self.view_is) c.requires in
    c.win.ensures ∙ ap (λ (rs : Results). rs.won) (sym at) ∙ win_only T c.args.id i m c.self.invariant l (subst (λ (S : SetRows). stored position_lt (entries S) (set_at S c.args.id, i) ≡ Some (Some m)) (sym c.self.view_is) e)
