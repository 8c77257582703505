use Rattle.std.proofs.Common.{◌<◌, length, arith}
use Rattle.std.proofs.lemmas.Grind.{common_steps}
use Rattle.krieg_play.proofs.FirstSeats.{first_removed}
use Rattle.krieg_play.proofs.team.step_aside.Goals as goal

pub returns-clause-moved : goal.returns-clause-moved
returns-clause-moved g c =
    let h : 0 < length c.args.seats.now.items = omega arith in
    (c.remove-seat.result, rw c.remove-seat.ensures.items (first_removed _ _ h c.remove-seat.ensures.value), grind (arith, common_steps, c.push.ensures.items, c.push.ensures.succeeds))
