use Rattle.std.proofs.Common.{◌≡◌, drop}
use Rattle.krieg_solve.proofs.Common.{Dialect, chess, refused}
use Rattle.krieg_solve.proofs.set_keys.some_refuses.Given as goal

-- nothing before refuses it
abbrev pub invariant-loop-member : goal.invariant-loop-member
invariant-loop-member l = (d : Dialect) → refused (chess d) (drop l.member-index l.members) l.mv ≡ refused (chess d) l.members l.mv
