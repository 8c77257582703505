use Rattle.std.proofs.Common.{◌∙◌, sym, ap, subst, arith, rules, ◌+◌, set}
use Rattle.std.specs.Prelude.{is_some}
use Rattle.krieg_board.proofs.Common.{Board}
use Rattle.krieg_board.proofs.Copying.{Copied, copied_start, copied_write, copied_skip, copied_all}
use Rattle.krieg_board.proofs.bits.Bits.from_board.Goals as goal
use Rattle.krieg_board.proofs.bits.Bits.from_board.Goals.{in-Some, in_default}

pub loop-s-init : goal.loop-s-init
loop-s-init c = subst (λ (b : Board). Copied 0 b c.args.board.now) (sym c.empty-bits.ensures) (copied_start c.args.board.now)

pub loop-s-preserved : goal.loop-s-preserved
loop-s-preserved c = elim c.match-board-s.branch [
  | in-Some w ↦ subst (λ (b : Board). Copied (c.loop-s.s + 1) b c.args.board.now)
      (sym (w.bits-is ∙ w.put.ensures ∙ ap (set c.loop-s.bits c.loop-s.s) (sym w.in-Some.is)))
      (copied_write c.loop-s.s c.loop-s.bits c.args.board.now (omega arith) c.loop-s.invariant)
  | in_default w ↦ subst (λ (b : Board). Copied (c.loop-s.s + 1) b c.args.board.now) (sym w.bits-is)
      (copied_skip c.loop-s.s c.loop-s.bits c.args.board.now (ap is_some w.in_default.is) c.loop-s.invariant)
]

pub returns : goal.returns
returns c = copied_all c.loop-s.s c.loop-s.bits c.args.board.now (omega arith) (search rules) c.loop-s.invariant
