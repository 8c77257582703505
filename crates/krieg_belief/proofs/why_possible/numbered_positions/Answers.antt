use Rattle.krieg_belief.proofs.Found.{places_found}
use Rattle.krieg_belief.proofs.why_possible.numbered_positions.Goals as goal

pub numbered-requires : goal.numbered-requires
numbered-requires c = places_found c.args.tales.now.entries c.in_ok-possible.possible c.in_ok-possible.ensures
