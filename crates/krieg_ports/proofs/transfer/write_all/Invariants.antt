-- The sink got the first `sent` bytes, without a fault.
use Rattle.std.proofs.Common.{◌≡◌, ◌≤◌, ◌-◌, length, take}
use Rattle.std.specs.Io.KnownBytes.{Appends}
use Rattle.krieg_ports.proofs.transfer.write_all.Given as goal

abbrev pub invariant-loop-sent : goal.invariant-loop-sent
invariant-loop-sent g l = record {
  within : l.sent ≤ length l.bytes;
  kept : g.O.Sink.faults l.sink ≡ g.O.Sink.faults l.initial.sink;
  front : Appends (g.O.Sink.got l.initial.sink) (g.O.Sink.got l.sink) (take l.sent l.bytes);
}

abbrev pub decreases-loop-sent : goal.decreases-loop-sent
decreases-loop-sent g l = length l.bytes - l.sent
