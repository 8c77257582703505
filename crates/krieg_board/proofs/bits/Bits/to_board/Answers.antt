use Rattle.std.proofs.Common.{ap, sym, subst, arith, length, set, ◌+◌, ◌∙◌}
use Rattle.krieg_board.proofs.Common.{empty_board}
use Rattle.krieg_board.proofs.BoardSets.{shows}
use Rattle.krieg_board.proofs.Writing.{man_on_shown, length_board_of}
use Rattle.krieg_board.proofs.Copying.{Copied, copied_start, copied_write, copied_all}
use Rattle.krieg_board.proofs.bits.Bits.to_board.Goals as goal

pub loop-s-init : goal.loop-s-init
unfolding empty_board
loop-s-init c = copied_start c.args.self.now

pub loop-s-preserved : goal.loop-s-preserved
loop-s-preserved c =
    subst (λ m. Copied (c.loop-s.s + 1) (set c.loop-s.board c.loop-s.s m) c.args.self.now)
    (sym (c.man_on.ensures
    ∙ man_on_shown c.self.inside.sets c.args.self.now (shows c.self.inside.sets c.args.self.now c.self.invariant c.self.view_is) c.loop-s.s (omega arith)))
    (copied_write c.loop-s.s c.loop-s.board c.args.self.now (omega arith) c.loop-s.invariant)

pub returns : goal.returns
returns c =
    copied_all c.loop-s.s c.loop-s.board c.args.self.now (omega arith) (ap length (sym c.self.view_is) ∙ length_board_of c.self.inside.sets) c.loop-s.invariant
