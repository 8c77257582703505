use Rattle.std.proofs.Common.{ap, ◌∙◌, List, map, sym}
use Rattle.krieg_refutation.proofs.Common.{Pos, set_of, chess, class_pair, claims_of, class_in}
use Rattle.krieg_costs.specs.Refutation as theory
use Rattle.krieg_refutation.proofs.Holding.{no_set}
use Rattle.krieg_refutation.proofs.reasons.is_class_shown.Goals as goal

pub returns-in-Some : goal.returns-in-Some
returns-in-Some c = λ d.
    c.is_shown.ensures d
    ∙ ap (λ (X : List Pos). theory.is_shown (chess d) (theory.cited (claims_of d c.args.before.now) c.args.place) c.args.moves X) (sym c.in-Some.ensures ∙ ap (class_in (map class_pair c.args.classes.now)) c.words-own.ensures)

pub returns-in-None : goal.returns-in-None
returns-in-None c = λ d.
    c.is_shown-in-None-2.ensures d
    ∙ ap (λ (X : List Pos). theory.is_shown (chess d) (theory.cited (claims_of d c.args.before.now) c.args.place) c.args.moves X)
    (c.from_packed.ensures.value ∙ ap set_of c.new.ensures.items ∙ no_set ∙ sym c.in-None.ensures ∙ ap (class_in (map class_pair c.args.classes.now)) c.words-own.ensures)
