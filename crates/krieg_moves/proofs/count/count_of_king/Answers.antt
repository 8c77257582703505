use Rattle.std.proofs.Common.{◌∙◌, ap, arith}
use Rattle.krieg_moves.proofs.Common.{is_same_kind, man_at, is_man, Pawn, King}
use Rattle.krieg_board.proofs.MenLemmas.{is_man_other_kind}
use Rattle.krieg_moves.proofs.Counting.{counted_plain}
use Rattle.krieg_moves.proofs.Shapes.{found_man}
use Rattle.krieg_moves.proofs.count.count_of_king.Goals as goal

pub returns : goal.returns
returns c =
    let side = c.args.p.now.side in
    let (man, is, own, king) = found_man side King (man_at c.args.p.now.board c.args.from) c.requires in
    counted_plain c.args.p.now c.args.from c.targets_of_king.result c.know_valid.ensures (omega (arith, c.number-from.ensures.value, c.number-from.ensures.below))
    c.targets_of_king.type_inv c.targets_of_king.ensures (ap (is_man side Pawn) is ∙ is_man_other_kind side Pawn man (ap (λ k. is_same_kind k Pawn) king))
