use Rattle.std.proofs.lemmas.Bool.{both_ways}
use Rattle.krieg_board.proofs.SetLemmas.{has_zero}
use Rattle.krieg_board.specs.Sets.{has}
use Rattle.krieg_nets.proofs.Telling.{tells_fled_behind}
use Rattle.krieg_nets.proofs.nets.Nets.fled_behind.Goals as goal

pub returns-in-Some-clause-fled : goal.returns-in-Some-clause-fled
returns-in-Some-clause-fled c = tells_fled_behind c.args.men.now c.in-Some.next c.args.mv.now c.args.moves c.within.result c.in-Some.ensures.board c.in-Some.ensures.lone c.within.ensures.net

pub returns-in-None-clause-fled : goal.returns-in-None-clause-fled
returns-in-None-clause-fled c = λ k p l h. absurd (both_ways (has 0 k) (has_zero k) h)
