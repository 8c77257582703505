use Rattle.std.proofs.Common.{◌≡◌, ◌++◌, take, map}
use Rattle.std.specs.List.{filter}
use Rattle.krieg_belief.proofs.Common.{after, are_told}
use Rattle.krieg_belief.proofs.steps.push_heard.Given as goal

abbrev pub invariant-loop-mv : goal.invariant-loop-mv
invariant-loop-mv l = l.out.items ≡ l.initial.out.items ++ map (after l.p) (filter (are_told l.d l.w l.p) (take l.mv-index l.moves))
