use Rattle.std.proofs.Common.{◌∙◌, ap, arith}
use Rattle.krieg_moves.proofs.Common.{is_man, Pawn}
use Rattle.krieg_board.proofs.MenLemmas.{is_man_other_kind}
use Rattle.krieg_moves.proofs.Counting.{counted_plain}
use Rattle.krieg_moves.proofs.Going.{no_pawn}
use Rattle.krieg_moves.proofs.count.count_of_officer.Goals as goal

pub returns : goal.returns
returns c =
    let side = c.args.p.now.side in
    counted_plain c.args.p.now c.args.from c.targets_of_free_officer.result c.know_valid.ensures (omega (arith, c.number-from.ensures.value, c.number-from.ensures.below))
    c.targets_of_free_officer.type_inv c.targets_of_free_officer.ensures
    (ap (is_man side Pawn) c.requires.man ∙ is_man_other_kind side Pawn c.args.man (no_pawn c.args.man.kind c.requires.officer))
