use Rattle.std.proofs.Common.{◌≡◌, ◌<◌, length, arith, rules}
use Rattle.std.specs.Option.{option_copied}
use Rattle.krieg_fen.proofs.Common.{pieces, pieces_left}
use Rattle.krieg_fen.proofs.FieldCounts.{length_more, length_left}
use Rattle.krieg_fen.proofs.fen.two_of.Goals as goal

pub returns-else-is_none-clause-none : goal.returns-else-is_none-clause-none
returns-else-is_none-clause-none c two =
    let left : 0 < length (pieces_left 32 (option_copied c.cut-2.result.1)) = length_left 32 (option_copied c.cut-2.result.1) (search rules) in
    let joined : length (pieces_left 32 (option_copied c.cut.result.1)) ≡ length (pieces 32 c.in_ok-rest.field-0.now) = search rules in
    absurd (omega (arith, two, left, joined, length_more _ _ _ c.cut-2.ensures.first, length_more _ _ _ c.cut.ensures.first))
