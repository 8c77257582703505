use Rattle.std.proofs.Common.{ap, ◌∙◌}
use Rattle.krieg_robot.proofs.Common.{Nothing, node_on, stand_of, try_there}
use Rattle.krieg_robot.specs.Stands.{next_try}
use Rattle.krieg_robot.proofs.Following.{here}
use Rattle.krieg_robot.proofs.seat.GuidedSeat.try_here.Goals as goal

pub returns : goal.returns
returns g c =
    here next_try c.self.inside.place _ c.try_on.result (c.try_on.ensures ∙ ap (λ w. try_there (node_on (g.G.Guide.guidance c.self.inside.guide).plan Nothing w)) c.deref.ensures.value)
    _ (c.self.invariant ∙ ap stand_of c.self.view_is) c.next_try.result c.next_try.ensures
