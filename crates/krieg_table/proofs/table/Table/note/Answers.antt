use Rattle.std.proofs.Common.{subst}
use Rattle.krieg_table.proofs.Common.{IsTable}
use Rattle.krieg_table.proofs.Nexts.{follows}
use Rattle.krieg_table.proofs.Calls.{results_at, rows_put, table_put, noted_put}
use Rattle.krieg_table.proofs.table.Table.note.Goals as goal

pub invariant_of-self : goal.invariant_of-self
invariant_of-self c =
    let at = results_at c.self.inside.rows.entries c.args.id c.index_mut.result.now c.index_mut.ensures.value in
    let x = follows c.args.self.now c.args.id c.args.moves (subst IsTable c.self.view_is c.self.invariant) c.requires.within c.requires.next c.args.known in
    table_put c.self.inside.rows.entries c.args.id c.args.moves c.args.known c.index_mut.result.now c.put.new.self at c.put.ensures c.args.self.now c.self.view_is c.self.invariant x

pub returns-clause-rows : goal.returns-clause-rows
returns-clause-rows c =
    let at = results_at c.self.inside.rows.entries c.args.id c.index_mut.result.now c.index_mut.ensures.value in
    rows_put c.self.inside.rows.entries c.args.id c.args.moves c.args.known c.index_mut.result.now c.put.new.self at c.put.ensures c.args.self.now c.self.view_is

pub returns-clause-noted : goal.returns-clause-noted
returns-clause-noted c =
    let at = results_at c.self.inside.rows.entries c.args.id c.index_mut.result.now c.index_mut.ensures.value in
    let x = follows c.args.self.now c.args.id c.args.moves (subst IsTable c.self.view_is c.self.invariant) c.requires.within c.requires.next c.args.known in
    noted_put c.self.inside.rows.entries c.args.id c.args.moves c.args.known c.index_mut.result.now c.put.new.self at c.put.ensures c.args.self.now c.self.view_is c.self.invariant c.requires.within x
