use Rattle.std.proofs.Common.{◌≡◌, map, take}
use Rattle.krieg_refutefile.proofs.Common.{put_lines, reason_line}
use Rattle.krieg_refutefile.proofs.writing.put_reasons.Given as goal

-- the lines of the reasons before this one
abbrev pub invariant-loop-reason : goal.invariant-loop-reason
invariant-loop-reason l = l.text ≡ put_lines l.initial.text (map (reason_line l.d) (take l.reason-index l.reasons))
