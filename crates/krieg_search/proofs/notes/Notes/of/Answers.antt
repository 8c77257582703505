use Rattle.std.proofs.Common.{List, sym, subst}
use Rattle.krieg_search.proofs.Common.{Note, IsRow, AreNotes}
use Rattle.krieg_search.proofs.Noted.{found_row}
use Rattle.krieg_search.proofs.notes.Notes.of.Goals as goal

pub returns-in-Some-clause-right : goal.returns-in-Some-clause-right
returns-in-Some-clause-right c = λ d cut T r.
    subst (λ (ns : List Note). IsRow d cut T (record { set = c.args.set; moves = c.args.moves }) ns) (sym c.as_slice.ensures.value) (found_row d cut T (record { set = c.args.set; moves = c.args.moves }) c.self.inside.rows.entries c.in-Some.row.now (subst (AreNotes d cut T) (sym c.self.view_is) r).rows (sym c.in-Some.ensures.value))
