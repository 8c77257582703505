use Rattle.std.proofs.Common.{◌≡◌, ◌++◌, map}
use Rattle.std.specs.Prelude.{All}
use Rattle.krieg_pack.proofs.Common.{IsPacked, unpacked, members_of}
use Rattle.krieg_pack.proofs.OneMen.{fields}
use Rattle.krieg_pack.proofs.one_man.OneMan.members.Given as goal

abbrev pub decreases-loop-rest : goal.decreases-loop-rest
decreases-loop-rest l = l.rest

abbrev pub invariant-loop-rest : goal.invariant-loop-rest
invariant-loop-rest l = All IsPacked (fields l.self l.rest) × (l.members.items ++ map unpacked (fields l.self l.rest) ≡ members_of l.self)
