use Rattle.std.proofs.Common.{sym, set, ◌&&◌}
use Rattle.std.specs.Prelude.{None}
use Rattle.krieg_rays.proofs.Common.{man_at, is_of, attacks, is_attacked}
use Rattle.krieg_board.proofs.OneKing.{set_empty}
use Rattle.krieg_rays.proofs.attack.is_attacked_without.Goals as goal

pub returns : goal.returns
unfolding is_attacked
returns c =
    let b = set c.args.b.now c.args.gone None in
    sym (set_empty c.attackers_without.result (λ f. is_of c.args.by (man_at b f) && attacks b f c.args.s) c.attackers_without.type_inv c.attackers_without.ensures)
