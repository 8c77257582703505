use Rattle.std.proofs.Common.{◌∙◌}
use Rattle.std.proofs.lemmas.List.Filters.{dedup_is}
use Rattle.krieg_pack.proofs.Common.{position_eq}
use Rattle.krieg_pack.proofs.PositionSets.{sorted_positions}
use Rattle.krieg_pack.proofs.buffer.make_ascending.Goals as goal

pub returns : goal.returns
returns c = dedup_is position_eq _ _ c.dedup.ensures.filtered ∙ sorted_positions _ _ c.sort_unstable.ensures.permutation c.sort_unstable.ensures.sorted
