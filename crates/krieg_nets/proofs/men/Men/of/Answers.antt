use Rattle.std.proofs.Common.{◌∙◌, ap, subst}
use Rattle.krieg_board.specs.Boards.{board_of}
use Rattle.krieg_board.proofs.Writing.{shown_board}
use Rattle.krieg_nets.specs.LoneKings.{AreOfficers}
use Rattle.krieg_nets.specs.Others.{men_of}
use Rattle.krieg_nets.proofs.men.Men.of.Goals as goal

pub invariant_of-result : goal.invariant_of-result
unfolding men_of
invariant_of-result c =
    let are = subst (AreOfficers c.args.bits.now) c.side_of.ensures (c.are_few.ensures c.if-not-are_few.false) in
    record {
      size = c.requires;
      these = ap board_of (c.are_men.ensures c.if-not-are_men.false) ∙ shown_board c.sets.result.now c.args.bits.now c.sets.ensures c.requires;
      enemies = are.enemies;
      officers = are.officers;
    }
