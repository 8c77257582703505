use Rattle.std.proofs.Common.{sym, ◌∙◌}
use Rattle.krieg_solve.proofs.KeyRoots.{taken_then, stopped_then}
use Rattle.krieg_solve.proofs.keys.find_keys.Goals as goal

pub returns-in_err-answer-clause-answer : goal.returns-in_err-answer-clause-answer
returns-in_err-answer-clause-answer c =
    (stopped_then c.args.way.d c.args.who c.args.b.now c.args.moves _ c.from_residual.result c.in_err-answer.field-0.0 c.args.units.now c.new_search-search.result.units c.keys_by.new.search.units (λ x h. cc) c.from_residual.ensures.1
    (c.new_search-search.ensures.units ∙ c.left.ensures) c.in_err-answer.ensures.answer c.in_err-answer.ensures.taken).0

pub returns-in_err-answer-clause-units : goal.returns-in_err-answer-clause-units
returns-in_err-answer-clause-units c =
    (stopped_then c.args.way.d c.args.who c.args.b.now c.args.moves _ c.from_residual.result c.in_err-answer.field-0.0 c.args.units.now c.new_search-search.result.units c.keys_by.new.search.units (λ x h. cc) c.from_residual.ensures.1
    (c.new_search-search.ensures.units ∙ c.left.ensures) c.in_err-answer.ensures.answer c.in_err-answer.ensures.taken).1

pub returns-clause-units : goal.returns-clause-units
returns-clause-units c = taken_then c.args.way.d c.args.who c.args.b.now c.args.moves c.in_ok-answer.answer c.args.units.now c.new_search-search.result.units c.new.result (c.new_search-search.ensures.units ∙ c.left.ensures) (rw (sym c.left-2.ensures, sym c.new.ensures) at c.in_ok-answer.ensures.taken)
