use Rattle.std.proofs.Common.{◌≤◌, List, sym, subst, length}
use Rattle.krieg_belief.proofs.Common.{Pos, MOST_LISTED}
use Rattle.krieg_belief.proofs.Prefixes.{sheet_le}
use Rattle.krieg_belief.proofs.beliefs.list_len.Goals as goal

pub returns-clause-small : goal.returns-clause-small
returns-clause-small c = subst (λ (ps : List Pos). length ps ≤ MOST_LISTED) (sym c.list.ensures.value) (sheet_le c.args.s.now c.list.ensures.sheet)
