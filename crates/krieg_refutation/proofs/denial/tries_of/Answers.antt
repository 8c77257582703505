use Rattle.std.proofs.Common.{map, ap, ◌∙◌}
use Rattle.krieg_refutation.proofs.Common.{tries, chess, Tally}
use Rattle.krieg_refutation.proofs.LastTries.{moves_tallied}
use Rattle.krieg_refutation.proofs.denial.tries_of.Goals as goal

pub returns-clause-moves : goal.returns-clause-moves
returns-clause-moves c = λ d.
    c.in_ok-moves.ensures ∙ ap (map (λ (y : Tally). y.mv)) (c.deref.ensures.value ∙ c.in_ok-tallies.ensures d) ∙ moves_tallied c.args.c.now.claim.now.set (tries (chess d) c.args.c.now.claim.now.set)
