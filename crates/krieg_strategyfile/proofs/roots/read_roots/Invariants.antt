use Rattle.std.proofs.Common.{◌≡◌, ◌-◌, Some, map}
use Rattle.krieg_format.proofs.Repeats.{with_front}
use Rattle.krieg_strategyfile.proofs.Common.{repeated, root_of, root_at, roots_at}
use Rattle.krieg_strategyfile.proofs.roots.read_roots.Given as goal

-- the rest, read after the roots that are there, gives the whole
abbrev pub invariant-loop-i : goal.invariant-loop-i
invariant-loop-i l = record {
  read : with_front (map root_of l.roots.items) (repeated (l.n - l.i) (root_at l.rules.dialect l.rules.waiting l.rules.nodes) (λ last r. Some r.0) l.last l.from)
      ≡ roots_at l.rules.dialect l.rules.waiting l.rules.nodes l.n l.initial.from;
}
