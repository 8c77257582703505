use Rattle.std.proofs.Common.{◌≡◌, take, flat_map}
use Rattle.krieg_moves.specs.Moves as list
use Rattle.krieg_split.proofs.Common.{move_set}
use Rattle.krieg_split.proofs.try_list.tries.Given as goal

abbrev pub invariant-loop-member : goal.invariant-loop-member
invariant-loop-member l = l.found.items ≡ move_set (flat_map list.moves (take l.member-index l.member-items))
