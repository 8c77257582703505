use Rattle.std.proofs.Common.{◌≡◌, map, drop}
use Rattle.krieg_strategy.proofs.Common.{first_to, root_lt, root_of}
use Rattle.krieg_strategy.proofs.root.find_root_to.Given as goal

abbrev pub invariant-loop-r : goal.invariant-loop-r
invariant-loop-r l = first_to root_lt (map root_of (drop l.r-index l.roots)) (l.opens, l.heard) ≡ first_to root_lt (map root_of l.roots) (l.opens, l.heard)
