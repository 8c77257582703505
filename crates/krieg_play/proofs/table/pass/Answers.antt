use Rattle.std.proofs.Common.{arith}
use Rattle.krieg_play.proofs.Common.{team_of}
use Rattle.krieg_play.proofs.Rosters.{passes}
use Rattle.krieg_play.proofs.table.pass.Goals as goal

pub returns-clause-passes : goal.returns-clause-passes
returns-clause-passes g c =
    passes (λ b. (goal.Seat-dyn g (b.vtable, b.value)).account b.value) (λ t. team_of t.seats t.out) _ _ _ _ _ _ _ _ _ (omega (arith, c.requires.asks)) c.take_turn.ensures.turn
