use Rattle.krieg_board.proofs.SetLemmas.{has_zero}
use Rattle.std.proofs.lemmas.Bool.{both_ways}
use Rattle.krieg_board.specs.Sets.{has}
use Rattle.krieg_nets.proofs.kept.Net.nothing.Goals as goal

pub returns : goal.returns
returns c = λ men moves. record {
  none = λ k h here. absurd (both_ways (has 0 k) (has_zero k) here);
  fled = λ k h here. absurd (both_ways (has 0 k) (has_zero k) here);
  stale = λ k h here. absurd (both_ways (has 0 k) (has_zero k) here);
}
