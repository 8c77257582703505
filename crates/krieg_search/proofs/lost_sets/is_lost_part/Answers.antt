use Rattle.std.proofs.Common.{◌≡◌, List, Some, None, sym, subst, ◌∙◌, arith}
use Rattle.krieg_search.proofs.Common.{Pos, position_lt, stored, entries}
use Rattle.krieg_split.proofs.SetParts.{within_in}
use Rattle.krieg_search.proofs.Trying.{some_is}
use Rattle.krieg_search.proofs.lost_sets.is_lost_part.Goals as goal

pub returns : goal.returns
returns c = λ e.
    let part = c.of-part.result.now in
    let lost = c.lost.ensures.all c.args.moves c.requires (omega arith) in (
      part,
      some_is part c.is_empty.result c.is_empty.ensures c.if-is_empty.false,
      within_in part c.args.b.now (sym c.is_within.ensures ∙ e),
      subst (λ (B : List Pos). stored position_lt (entries c.args.table.now) (B, c.args.moves) ≡ Some None) (sym c.of-part.ensures) lost,
    )
