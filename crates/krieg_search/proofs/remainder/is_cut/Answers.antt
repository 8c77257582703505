use Rattle.std.proofs.Common.{sym, subst}
use Rattle.std.proofs.lemmas.Bool.{not-false}
use Rattle.krieg_search.proofs.Common.{move_of, FailsAtOnce}
use Rattle.krieg_search.proofs.Leaving.{fails_by_flight}
use Rattle.krieg_search.specs.declared.try_list.Try.{Try}
use Rattle.krieg_search.proofs.remainder.is_cut.Goals as goal

pub returns-in-Plain-clause-fails : goal.returns-in-Plain-clause-fails
returns-in-Plain-clause-fails c e =
    subst (λ (x : Try). FailsAtOnce c.args.way.d c.args.way.cut c.args.b.now (move_of x) c.args.moves) (sym c.in-Plain.is)
    (fails_by_flight c.args.way.d c.args.way.cut c.args.b.now c.in-Plain.mv c.args.moves (not-false c.args.way.cut c.if-not-way.false) c.requires (c.some_flees.ensures.fled e))
