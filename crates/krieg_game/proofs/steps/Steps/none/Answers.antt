use Rattle.std.proofs.lemmas.Bool.{both_ways}
use Rattle.krieg_board.proofs.SetLemmas.{has_zero}
use Rattle.krieg_game.proofs.steps.Steps.none.Goals as goal

pub returns-clause-reached : goal.returns-clause-reached
returns-clause-reached c = λ pool to l h. absurd (both_ways _ (has_zero to) h)
