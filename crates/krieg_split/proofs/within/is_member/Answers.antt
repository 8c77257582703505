use Rattle.std.proofs.Common.{ap, ◌∙◌}
use Rattle.std.specs.List.{list_any}
use Rattle.krieg_split.proofs.Common.{position_lt, same}
use Rattle.krieg_split.proofs.SetParts.{member_any}
use Rattle.krieg_split.proofs.within.is_member.Goals as goal

pub returns : goal.returns
returns c = member_any c.holds.result c.unpack.result c.args.set.now c.holds.ensures.0 c.holds.ensures.1 ∙ ap (λ p. list_any (same position_lt p) c.args.set.now) c.unpack.ensures.value
