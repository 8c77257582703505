use Rattle.std.proofs.Common.{arith}
use Rattle.krieg_play.proofs.FirstSeats.{first_written}
use Rattle.krieg_play.proofs.team.ask_first.Goals as goal

pub returns : goal.returns
returns g c = first_written _ _ _ _ (omega arith) c.index_mut.ensures.value c.ask_seat.ensures
