use Rattle.std.proofs.Common.{◌≡◌, length}
use Rattle.krieg_planfile.proofs.HeardLines.{behind_all, rest_at}
use Rattle.krieg_planfile.proofs.heard.read_heard.Given as goal

-- the rest, read behind the lines so far, gives the whole
abbrev pub invariant-lines : goal.invariant-lines
invariant-lines l = behind_all l.heard.items (rest_at l.d l.from) ≡ rest_at l.initial.d l.initial.from

abbrev pub decreases-lines : goal.decreases-lines
decreases-lines l = length l.from.left
