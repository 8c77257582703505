use Rattle.std.proofs.Common.{rules, ap, sym, subst, ◌∙◌, arith}
use Rattle.krieg_table.proofs.Common.{In, SetRows, sets, number_of}
use Rattle.krieg_table.proofs.Calls.{inserted, placed, absent, table_from, interned_from, on_err}
use Rattle.krieg_table.proofs.Interning.{number_at_most}
use Rattle.krieg_table.proofs.table.Table.intern.Goals as goal

pub returns-in_err-row-clause-new_alone : goal.returns-in_err-row-clause-new_alone
returns-in_err-row-clause-new_alone c =
    on_err c.from_residual.result
    (λ i. absent c.of.result c.self.inside.rows.entries c.in_err-row.ensures.absent (subst (λ B. In B (sets c.self.inside.rows.entries)) (sym c.of.ensures) (subst (λ (T : SetRows). In c.args.b (sets T)) (sym c.self.view_is) i)))

pub overflow_cast-result : goal.overflow_cast-result
overflow_cast-result c =
    let n = c.index-id.ensures ∙ c.in_ok-row.ensures.index ∙ placed c.of.result c.self.inside.rows.entries ∙ ap (number_of c.of.result) c.self.view_is in
    let l = number_at_most c.of.result c.args.self.now in
    omega (arith, c.requires)

pub invariant_of-self-2 : goal.invariant_of-self-2
invariant_of-self-2 c = table_from c.of.result c.self.inside.rows.entries _ (search (rules, inserted c.of.result c.self.inside.rows.entries)) c.self.invariant

pub returns-clause-number : goal.returns-clause-number
returns-clause-number c =
    c.index-id.ensures ∙ c.in_ok-row.ensures.index ∙ placed c.of.result c.self.inside.rows.entries ∙ ap (number_of c.of.result) c.self.view_is ∙ ap (λ B. number_of B c.args.self.now) c.of.ensures

pub returns-clause-rows : goal.returns-clause-rows
returns-clause-rows c = search (rules, inserted c.of.result c.self.inside.rows.entries, c.of.ensures)

pub returns-clause-ok : goal.returns-clause-ok
returns-clause-ok c =
    let n = c.index-id.ensures ∙ c.in_ok-row.ensures.index ∙ placed c.of.result c.self.inside.rows.entries ∙ ap (number_of c.of.result) c.self.view_is ∙ ap (λ B. number_of B c.args.self.now) c.of.ensures in
    interned_from c.args.b c.args.self.now _ c.index-id.result (search (rules, inserted c.of.result c.self.inside.rows.entries, c.of.ensures)) n
