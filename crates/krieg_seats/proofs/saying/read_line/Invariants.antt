-- The bytes so far are the front of a line, and stand in the buffer.
use Rattle.std.proofs.Common.{◌≡◌, ◌-◌, ◌≤◌, true, length, take}
use Rattle.std.specs.Io.KnownBytes.{Consumes}
use Rattle.krieg_text.specs.Lines.{is_line}
use Rattle.krieg_seats.proofs.saying.read_line.Given as goal

abbrev pub invariant-bytes : goal.invariant-bytes
invariant-bytes g l = record {
  within : l.count ≤ 5;
  places : length l.line ≡ 5;
  line : is_line (take l.count l.line) ≡ true;
  given : Consumes (g.S.Source.left l.initial.source) (g.S.Source.left l.source) (take l.count l.line);
  later : g.S.Source.faults l.initial.source ≤ g.S.Source.faults l.source;
}

abbrev pub decreases-bytes : goal.decreases-bytes
decreases-bytes g l = 5 - l.count
