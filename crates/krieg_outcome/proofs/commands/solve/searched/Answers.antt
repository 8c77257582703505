use Rattle.std.proofs.Common.{Vec, Global, ℕ, Err, sym, ap, subst, ◌∙◌}
use Rattle.std.proofs.lemmas.Result.{err_from_is_err_and}
use Rattle.krieg_outcome.proofs.Common.{Decides, SearchedBy}
use Rattle.krieg_outcome.proofs.BestFiles.{one_turn_of}
use Rattle.krieg_outcome.proofs.Searching.{stop_told_by, answer_told_by}
use Rattle.krieg_outcome.proofs.commands.solve.searched.Goals as goal

pub search-requires-clause-turn : goal.search-requires-clause-turn
search-requires-clause-turn c = one_turn_of c.args.who c.args.who c.args.set.now c.requires.hand

pub returns-in_err-answer : goal.returns-in_err-answer
returns-in_err-answer c =
    let p = err_from_is_err_and c.from_residual.result c.from_residual.ensures.1 in
    subst (λ r. Decides (λ (answer : Vec ℕ Global). answer.items) r (SearchedBy c.args.cut c.args.d c.args.who c.args.set.now c.args.terms.moves c.args.terms.budget)) (sym (p.1 ∙ ap Err p.2))
    (stop_told_by c.args.d c.args.who c.args.set.now c.args.terms.moves c.args.terms.budget c.new-units.result c.search.new.units c.new-units.ensures (λ (answer : Vec ℕ Global). answer.items) c.args.cut c.in_err-answer.field-0.0 c.in_err-answer.ensures.answer c.in_err-answer.ensures.units)

pub returns : goal.returns
returns c =
    answer_told_by c.args.d c.args.who c.args.set.now c.args.terms.moves c.args.terms.budget c.new-units.result c.search.new.units c.new-units.ensures c.args.cut c.in_ok-answer.answer c.in_ok-told.field-0.items c.in_ok-answer.ensures.units c.in_ok-told.ensures
