use Rattle.std.proofs.Common.{◌∙◌, ap, sym, arith}
use Rattle.krieg_moves.proofs.Common.{man_at, is_man, King}
use Rattle.krieg_moves.proofs.Counting.{counted_from}
use Rattle.krieg_moves.proofs.count.count_from.Goals as goal

pub count_of_king-requires : goal.count_of_king-requires
count_of_king-requires c = ap (λ s. is_man c.args.p.now.side King (man_at c.args.p.now.board s)) (sym c.number.ensures.value ∙ c.if-number-guard.true) ∙ c.requires.king

pub returns : goal.returns
returns c =
    counted_from c.args.p.now c.args.from c.targets-targets.result c.promoting-promoting.result c.know_valid.ensures
    (omega (arith, c.number.ensures.value, c.number.ensures.below)) c.targets-targets.type_inv c.promoting-promoting.type_inv c.targets-targets.ensures c.promoting-promoting.ensures
