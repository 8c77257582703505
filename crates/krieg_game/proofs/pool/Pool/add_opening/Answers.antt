use Rattle.krieg_game.proofs.pool.Pool.add_opening.Goals as goal

pub invariant_of-self : goal.invariant_of-self
invariant_of-self c = c.none-self-inside.ensures.reached _
