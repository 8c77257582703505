use Rattle.std.proofs.Common.{drop, map}
use Rattle.krieg_solve.proofs.Common.{In}
use Rattle.krieg_solve.proofs.keys.keys_for.Given as goal

abbrev pub invariant-loop-keys : goal.invariant-loop-keys
invariant-loop-keys l = In l.set (map (λ k. k.set) (drop l.keys-index l.found))
