use Rattle.std.proofs.Common.{ℕ, drop, map}
use Rattle.krieg_solve.proofs.Common.{Dialect, SetRows, opening_in, AreSetKeys}
use Rattle.krieg_solve.proofs.KeyRoots.{IsKeyed}
use Rattle.krieg_solve.proofs.keys.keys_at_openings.Given as goal

abbrev pub invariant-loop-o : goal.invariant-loop-o
invariant-loop-o l = (d : Dialect) (n : ℕ) (T : SetRows) → AreSetKeys d n T (map (λ k. k.set) l.found) l.found → IsKeyed d n l.roots.items l.worst (map (opening_in T) (drop l.o-index l.openings)) (map (opening_in T) l.openings)
