use Rattle.std.proofs.Common.{sym, subst}
use Rattle.krieg_search.proofs.Common.{AreNotes}
use Rattle.krieg_search.proofs.Noted.{none_kept}
use Rattle.krieg_search.proofs.StillBlocked.{no_blockers}
use Rattle.krieg_search.proofs.Deciding.{empty_ready}
use Rattle.krieg_search.proofs.decide.new_search.Goals as goal

pub returns-clause-ready : goal.returns-clause-ready
returns-clause-ready c =
    let d = c.args.way.d in
    let cut = c.args.way.cut in (
      empty_ready d cut c.new-4.result c.new-4.ensures,
      subst (AreNotes d cut c.new-4.result) (sym c.new-2.ensures) (none_kept d cut c.new-4.result c.args.way.noted),
      no_blockers d cut c.new-4.result c.new-6.result c.new-6.ensures,
    )
