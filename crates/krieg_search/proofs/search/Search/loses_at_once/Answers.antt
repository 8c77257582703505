use Rattle.std.proofs.Common.{sym, refl}
use Rattle.krieg_search.proofs.Searching.{ready_from}
use Rattle.krieg_search.proofs.Noted.{more_notes}
use Rattle.krieg_search.proofs.Noting.{noted_more}
use Rattle.krieg_search.proofs.StillBlocked.{more_blockers}
use Rattle.krieg_search.proofs.NextNotes.{noted_at_once}
use Rattle.krieg_search.proofs.search.Search.loses_at_once.Goals as goal

pub returns-then-is_found_lost-clause-lost : goal.returns-then-is_found_lost-clause-lost
returns-then-is_found_lost-clause-lost c _ =
    let found = c.is_found_lost.ensures in
    noted_at_once c.args.way.d c.args.way.cut c.if-not-way.false c.args.self.now.table c.note.new.self c.args.set c.args.moves c.args.self.now.units c.is_found_lost.new.self.units found.units
    c.requires.within c.requires.ready.0 c.requires.next (found.lost c.if-is_found_lost.true) (rw found.table at c.note.ensures.noted)

pub returns-then-is_found_lost-clause-ready : goal.returns-then-is_found_lost-clause-ready
returns-then-is_found_lost-clause-ready c =
    let found = c.is_found_lost.ensures in
    let noted = rw found.table at c.note.ensures.noted in (
      ready_from c.args.way.d c.args.way.cut (returns-then-is_found_lost-clause-lost c refl).1,
      rw (sym found.notes) at (more_notes c.args.way.d c.args.way.cut c.args.self.now.notes (noted_more noted) c.requires.ready.1),
      rw (sym found.blockers) at (more_blockers c.args.way.d c.args.way.cut c.args.self.now.blockers (noted_more noted) c.requires.ready.2),
    )

pub returns-clause-ready : goal.returns-clause-ready
returns-clause-ready c = let found = c.is_found_lost.ensures in rw (found.table, found.notes, found.blockers) c.requires.ready
