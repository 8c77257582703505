use Rattle.std.proofs.Common.{◌≡◌, map, take}
use Rattle.krieg_refutefile.proofs.Common.{position_line, put_lines}
use Rattle.krieg_refutefile.proofs.writing.put_members.Given as goal

-- the lines of the positions before this one
abbrev pub invariant-loop-member : goal.invariant-loop-member
invariant-loop-member l = l.text ≡ put_lines l.initial.text (map position_line (take l.member-index l.members))
