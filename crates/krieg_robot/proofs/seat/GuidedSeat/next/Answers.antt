use Rattle.std.proofs.Common.{ap, ◌∙◌}
use Rattle.krieg_robot.proofs.Common.{Nothing, node_on, stand_of, try_there}
use Rattle.krieg_robot.specs.Followers.{next_of}
use Rattle.krieg_robot.proofs.Following.{here}
use Rattle.krieg_robot.proofs.seat.GuidedSeat.next.Goals as goal

pub returns : goal.returns
returns g c =
    here next_of c.self.inside.place _ c.try_on.result (c.try_on.ensures ∙ ap (λ w. try_there (node_on (g.G.Guide.guidance c.self.inside.guide).plan Nothing w)) c.deref.ensures.value)
    _ (c.self.invariant ∙ ap stand_of c.self.view_is) c.next_of.result c.next_of.ensures
