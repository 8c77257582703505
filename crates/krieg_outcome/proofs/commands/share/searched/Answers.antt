use Rattle.std.proofs.Common.{Vec, Global, ℕ, true, Err, sym, ap, subst, ◌∙◌}
use Rattle.std.proofs.lemmas.Result.{err_from_is_err_and}
use Rattle.krieg_outcome.proofs.Common.{Decides, SharedBy}
use Rattle.krieg_outcome.proofs.BestFiles.{one_turn_of}
use Rattle.krieg_outcome.proofs.SharedTexts.{stop_told}
use Rattle.krieg_outcome.proofs.commands.share.searched.Goals as goal

pub share-requires : goal.share-requires
share-requires c = record { turn = one_turn_of c.args.who c.args.who c.args.set.now c.requires.hand }

pub returns-in_err-answer : goal.returns-in_err-answer
returns-in_err-answer c =
    let p = err_from_is_err_and c.from_residual.result c.from_residual.ensures.1 in
    subst (λ r. Decides (λ (answer : Vec ℕ Global). answer.items) r (SharedBy c.args.d c.args.who c.args.set.now c.args.terms.moves c.args.terms.budget)) (sym (p.1 ∙ ap Err p.2))
    (stop_told c.args.d c.args.who c.args.set.now c.args.terms.moves (λ (answer : Vec ℕ Global). answer.items) true c.args.terms.budget c.new-units.result c.share.new.units c.new-units.ensures c.in_err-answer.field-0.0 c.in_err-answer.ensures.answer c.in_err-answer.ensures.units)
