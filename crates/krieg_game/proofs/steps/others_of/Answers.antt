use Rattle.std.proofs.Common.{sym, subst, ◌∙◌, set}
use Rattle.std.specs.Prelude.{None, slice_set}
use Rattle.std.proofs.Math.ListN.{length-set}
use Rattle.krieg_board.specs.Boards.{Show}
use Rattle.krieg_board.proofs.Writing.{shown_board}
use Rattle.krieg_game.proofs.steps.others_of.Goals as goal

pub returns : goal.returns
returns c =
    let is = c.with.ensures ∙ (λ i. set (c.bits.ensures.value i) (c.number.ensures.value i) None) in
    sym (shown_board c.sets.result.now (slice_set c.args.p.now.board c.args.king None) (subst (Show c.sets.result.now) is c.sets.ensures) (length-set c.args.p.now.board c.args.king None ∙ c.know_valid.ensures.squares))
