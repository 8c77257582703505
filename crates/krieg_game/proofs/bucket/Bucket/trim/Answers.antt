use Rattle.std.proofs.Common.{◌∙◌, refl}
use Rattle.std.proofs.lemmas.List.Filters.{dedup_is}
use Rattle.krieg_game.proofs.Common.{position_eq}
use Rattle.krieg_pack.proofs.PositionSets.{sorted_positions}
use Rattle.krieg_game.proofs.bucket.Bucket.trim.Goals as goal

pub returns-clause-trimmed : goal.returns-clause-trimmed
returns-clause-trimmed c = record {
  heard_part = refl;
  positions_part = dedup_is position_eq _ _ c.dedup.ensures.filtered ∙ sorted_positions _ _ c.sort_unstable.ensures.permutation c.sort_unstable.ensures.sorted;
}
