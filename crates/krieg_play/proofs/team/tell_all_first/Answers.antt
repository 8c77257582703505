use Rattle.std.proofs.Common.{arith}
use Rattle.krieg_play.proofs.FirstSeats.{first_written}
use Rattle.krieg_play.proofs.team.tell_all_first.Goals as goal

pub returns : goal.returns
returns g c = first_written _ _ _ _ (omega arith) c.index_mut.ensures.value c.tell_all.ensures
