use Rattle.std.proofs.Common.{◌≡◌, ◌<◌, length, take, arith}
use Rattle.std.proofs.lemmas.Bool.{ne_eqb}
use Rattle.std.proofs.lemmas.Grind.{common_steps}
use Rattle.krieg_seats.proofs.LinesRead.{line_ends, line_is_last, line_is_long}
use Rattle.krieg_seats.proofs.saying.read_line.Goals as goal

pub returns-in-Ok-None-2-clause-read : goal.returns-in-Ok-None-2-clause-read
returns-in-Ok-None-2-clause-read g c =
    let some : 0 < length (take c.bytes.count c.bytes.line) = grind (arith, common_steps) in
    line_is_last _ _ _ _ c.bytes.invariant.line some c.bytes.invariant.given (rw c.in-Ok-None.field-0-is at c.in-Ok-None.ensures.gives)

pub returns-in-Ok-Some-clause-read : goal.returns-in-Ok-Some-clause-read
returns-in-Ok-Some-clause-read g c =
    let gives = rw c.in-Ok-Some.field-0-is at c.in-Ok-Some.ensures.gives in
    line_ends _ _ _ _ c.bytes.invariant.line c.bytes.invariant.given (rw c.if-byte-eq10.true at gives)

pub returns-then-count-eq-MOST_BYTES-clause-read :
    goal.returns-then-count-eq-MOST_BYTES-clause-read
returns-then-count-eq-MOST_BYTES-clause-read g c =
    let gives = rw c.in-Ok-Some.field-0-is at c.in-Ok-Some.ensures.gives in
    let five : length (take c.bytes.count c.bytes.line) ≡ 5 = grind (arith, common_steps) in
    line_is_long _ _ _ _ _ c.bytes.invariant.line five (ne_eqb _ _ c.if-byte-eq10.false) c.bytes.invariant.given gives
