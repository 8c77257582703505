-- The bytes so far were of the line that is passed over.
use Rattle.std.proofs.Common.{◌≤◌, true}
use Rattle.std.specs.Io.KnownBytes.{Keeps}
use Rattle.krieg_seats.specs.Saying.{lines_left}
use Rattle.krieg_seats.specs.LineReading.{GivesCount}
use Rattle.krieg_seats.proofs.saying.pass_line.Given as goal

abbrev pub invariant-loop : goal.invariant-loop
invariant-loop g l = record {
  passed : Keeps (lines_left true (g.S.Source.left l.initial.source)) (lines_left true (g.S.Source.left l.source));
  given : GivesCount l.counter (g.S.Source.left l.initial.source) (g.S.Source.left l.source);
  later : g.S.Source.faults l.initial.source ≤ g.S.Source.faults l.source;
}
