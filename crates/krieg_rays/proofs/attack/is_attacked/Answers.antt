use Rattle.std.proofs.Common.{sym, ◌&&◌}
use Rattle.krieg_rays.proofs.Common.{man_at, is_of, attacks, is_attacked}
use Rattle.krieg_board.proofs.OneKing.{set_empty}
use Rattle.krieg_rays.proofs.attack.is_attacked.Goals as goal

pub returns : goal.returns
unfolding is_attacked
returns c =
    sym (set_empty c.attackers_at.result (λ f. is_of c.args.by (man_at c.args.b.now f) && attacks c.args.b.now f c.args.s) c.attackers_at.type_inv c.attackers_at.ensures)
