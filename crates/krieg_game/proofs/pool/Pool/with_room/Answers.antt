use Rattle.krieg_game.proofs.pool.Pool.with_room.Goals as goal

pub invariant_of-result : goal.invariant_of-result
invariant_of-result c = c.none.ensures.reached _
