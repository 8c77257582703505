use Rattle.std.proofs.Common.{◌≡◌, ◌<◌, length, Some, None, subst, ap, sym, ◌∙◌, arith}
use Rattle.krieg_table.proofs.Common.{position_lt, stored, Results, SetRows, row_at, set_at, entries}
use Rattle.krieg_table.proofs.Calls.{results_at}
use Rattle.krieg_table.proofs.Nexts.{lost_upto, lost_only}
use Rattle.krieg_table.proofs.table.Table.lost.Goals as goal

pub returns-clause-all : goal.returns-clause-all
returns-clause-all c i p h =
    let T = c.self.inside.rows.entries in
    let at = results_at T c.args.id c.index.result.now c.index.ensures in
    let l = subst (λ (S : SetRows). c.args.id < length S) (sym c.self.view_is) c.requires in
    let told : c.lost.result ≡ (row_at T c.args.id).1.lost = c.lost.ensures ∙ ap (λ (rs : Results). rs.lost) (sym at) in
    subst (λ (S : SetRows). stored position_lt (entries S) (set_at S c.args.id, i) ≡ Some None) c.self.view_is (lost_upto T c.args.id i c.self.invariant l p (omega (arith, told)))

pub returns-clause-only : goal.returns-clause-only
returns-clause-only c i e =
    let T = c.self.inside.rows.entries in
    let at = results_at T c.args.id c.index.result.now c.index.ensures in
    let l = subst (λ (S : SetRows). c.args.id < length S) (sym c.self.view_is) c.requires in
    let told : c.lost.result ≡ (row_at T c.args.id).1.lost = c.lost.ensures ∙ ap (λ (rs : Results). rs.lost) (sym at) in
    let a = lost_only T c.args.id i c.self.invariant l (subst (λ (S : SetRows). stored position_lt (entries S) (set_at S c.args.id, i) ≡ Some None) (sym c.self.view_is) e) in
    omega (arith, told, a)
