use Rattle.krieg_rays.proofs.Kings.{one_king_on}
use Rattle.krieg_facts.proofs.boards.pinned_of.Goals as goal

pub pinned-requires : goal.pinned-requires
pinned-requires c = one_king_on c.bits.result.now _ c.args.who c.bits.ensures.valid c.bits.ensures.value
