use Rattle.krieg_board.proofs.Copying.{Copied}
use Rattle.krieg_board.proofs.bits.Bits.from_board.Given as goal

abbrev pub invariant-loop-s : goal.invariant-loop-s
invariant-loop-s l = Copied l.s l.bits l.board
