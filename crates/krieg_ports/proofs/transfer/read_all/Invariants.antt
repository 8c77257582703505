-- What was found so far came from the source without a fault, and is no longer than allowed.
use Rattle.std.proofs.Common.{◌≡◌, ◌≤◌, ◌-◌, vec_len}
use Rattle.std.specs.Io.KnownBytes.{Consumes}
use Rattle.krieg_ports.proofs.transfer.read_all.Given as goal

abbrev pub invariant-loop-found : goal.invariant-loop-found
invariant-loop-found g l = record {
  fits : vec_len l.found ≤ l.max;
  kept : g.S.Source.faults l.src ≡ g.S.Source.faults l.initial.src;
  came : Consumes (g.S.Source.left l.initial.src) (g.S.Source.left l.src) l.found.items;
}

abbrev pub decreases-loop-found : goal.decreases-loop-found
decreases-loop-found g l = l.max - vec_len l.found
