use Rattle.std.proofs.Common.{◌≡◌, [], length}
use Rattle.krieg_record.proofs.Common.{up_to_last, after_all, step_form}
use Rattle.krieg_record.proofs.record_reading.read_moves.Given as goal

-- the rest, read after the moves so far, gives the whole, and the position is the one after these moves
abbrev pub invariant-moves : goal.invariant-moves
invariant-moves l =
    (up_to_last (step_form l.start) l.moves.items l.from.number l.from.left ≡ up_to_last (step_form l.start) [] l.initial.from.number l.initial.from.left)
    × (l.p ≡ after_all l.start l.moves.items)

abbrev pub decreases-moves : goal.decreases-moves
decreases-moves l = length l.from.left
