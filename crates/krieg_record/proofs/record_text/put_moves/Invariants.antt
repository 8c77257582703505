use Rattle.std.proofs.Common.{◌≡◌, drop}
use Rattle.krieg_record.proofs.Common.{put_lines, AreLegal, move_lines}
use Rattle.krieg_record.proofs.record_text.put_moves.Given as goal

-- the text so far with the lines of the other moves is the whole, and each of these is legal where it stands
abbrev pub invariant-loop-mv : goal.invariant-loop-mv
invariant-loop-mv l =
    (l.text.before ≡ l.initial.text.before)
    × (put_lines l.text.written (move_lines l.p (drop l.mv-index l.moves)) ≡ put_lines l.initial.text.written (move_lines l.start l.moves))
    × AreLegal l.p (drop l.mv-index l.moves)
