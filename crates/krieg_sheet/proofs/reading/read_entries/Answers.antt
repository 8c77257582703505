use Rattle.std.proofs.Common.{rules, Option, Err}
use Rattle.krieg_sheet.proofs.Common.{taken, GivesOn, Line, next_form, entries_at}
use Rattle.krieg_sheet.proofs.Entries.{entries_bad}
use Rattle.krieg_sheet.proofs.reading.read_entries.Goals as goal

pub returns-in-Err : goal.returns-in-Err
returns-in-Err c =
    let given : GivesOn {X = Option Line} (λ o. o) (Err c.in-Err.fault) c.read_entry.new.from (taken (next_form c.entries.sheet) c.entries.from) = search rules in
    entries_bad (λ (u : Unit {0}). c.entries.sheet) c.entries.sheet c.entries.from c.read_entry.new.from c.in-Err.fault (entries_at c.args.sheet.now c.args.from.now) given c.entries.invariant
