use Rattle.std.proofs.Common.{◌≡◌, map, take}
use Rattle.krieg_split.proofs.member_moves.list_all.Given as goal

abbrev pub invariant-loop-member : goal.invariant-loop-member
invariant-loop-member l = map (λ m. m.position) l.listed.items ≡ take l.member-index l.members
