use Rattle.std.proofs.Common.{◌+◌, ◌≤◌, length, Option, sym, ap, subst, arith, Vec}
use Rattle.std.specs.Prelude.{IfSome}
use Rattle.std.specs.declared.alloc.Global.{Global}
use Rattle.krieg_search.proofs.Common.{Question, Note, Rows, NoteState, AreNotes, IsRow, items_of, notes_in}
use Rattle.krieg_search.proofs.Noted.{AreRows, kept_row, kept_few}
use Rattle.krieg_search.proofs.notes.Notes.keep.Goals as goal

pub returns-clause-noted : goal.returns-clause-noted
returns-clause-noted c = λ d cut T r h.
    let asked : Question = record { set = c.args.set; moves = c.args.moves } in
    let row = subst (λ (o : Option (Vec Note Global)). IfSome (items_of o) (IsRow d cut T asked)) c.in-Some.is h in
    let old = subst (AreNotes d cut T) (sym c.self.view_is) r in
    let are = c.in_ok-insert.ensures.entries in
    let kept : notes_in c.insert.new.self.entries ≤ notes_in c.self.inside.rows.entries + length c.in-Some.notes.items = subst (λ (N : Rows). notes_in N ≤ notes_in c.self.inside.rows.entries + length c.in-Some.notes.items) (sym are) (kept_few c.self.inside.rows.entries asked c.in-Some.notes) in
    record {
      rows = subst (AreRows d cut T) (sym are) (kept_row d cut T asked c.self.inside.rows.entries c.in-Some.notes old.rows row);
      few = omega (arith, kept, old.few, c.in-Some-left_behind.ensures, ap (λ (n : NoteState). n.left) c.self.view_is, c.in-Some.notes.ok.0);
    }
