use Rattle.std.proofs.Common.{not, sym, ap, ◌∙◌}
use Rattle.std.specs.List.{list_any}
use Rattle.krieg_search.proofs.Common.{mates_within, set_at}
use Rattle.krieg_search.proofs.NextNotes.{lost_by_part, lost_by_sight}
use Rattle.krieg_search.proofs.search.Search.is_found_lost.Goals as goal

pub returns-then-some_is_no_mate-clause-lost : goal.returns-then-some_is_no_mate-clause-lost
returns-then-some_is_no_mate-clause-lost c _ =
    lost_by_sight c.args.way.d (set_at c.args.self.now.table c.args.set) c.args.moves
    (ap (list_any (λ p. not (mates_within c.args.moves p))) (sym c.of-b.ensures) ∙ c.some_is_no_mate.ensures.none c.if-some_is_no_mate.true)

pub returns-clause-lost : goal.returns-clause-lost
returns-clause-lost c e = lost_by_part c.args.way.d c.args.way.cut c.args.self.now.table _ c.args.moves c.requires.ready.0 (rw c.of-b.ensures at (c.has_part.ensures e))
