use Rattle.std.proofs.Common.{◌∙◌, sym, arith}
use Rattle.krieg_moves.proofs.Counting.{few_moves}
use Rattle.krieg_moves.proofs.Safety.{illegal_from_nobody}
use Rattle.krieg_moves.proofs.Common.{after}
use Rattle.krieg_moves.proofs.replies.count_replies.Goals as goal

pub unreachable-requires : goal.unreachable-requires
unreachable-requires c = let e = sym (illegal_from_nobody c.args.p.now c.args.mv (sym c.man_at.ensures.value ∙ c.in-None.is)) ∙ c.requires in cc

pub returns-clause-few : goal.returns-clause-few
returns-clause-few c = omega (arith, c.count_behind.ensures, few_moves (after c.args.p.now c.args.mv))
