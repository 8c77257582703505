use Rattle.std.proofs.Common.{ℕ, ◌⊎◌, drop}
use Rattle.krieg_solve.proofs.Common.{In, IsOnce, numbers_of}
use Rattle.krieg_solve.proofs.keys.sets_once.Given as goal

abbrev pub invariant-loop-o : goal.invariant-loop-o
invariant-loop-o l = record {
  once : IsOnce l.sets.items;
  all : (s : ℕ) → In s (numbers_of l.openings) → In s l.sets.items ⊎ In s (numbers_of (drop l.o-index l.openings));
  only : (s : ℕ) → In s l.sets.items → In s (numbers_of l.openings);
}
