use Rattle.std.proofs.Common.{rules, arith}
use Rattle.krieg_play.proofs.Stopping.{ended, not_ended}
use Rattle.krieg_robot.proofs.Passing.{passes_then, stops_ended, stops_used, stops_left, stops_fault}
use Rattle.krieg_robot.proofs.leading.lead_on.Goals as goal

pub returns-then-not-has_move : goal.returns-then-not-has_move
returns-then-not-has_move g c = stops_ended _ _ _ c.turns.seat _ _ (ended _ _ c.has_move.result c.has_move.ensures c.position.ensures (search rules)) c.turns.invariant

pub returns-then-spare-eq0 : goal.returns-then-spare-eq0
returns-then-spare-eq0 g c =
    stops_used _ _ _ c.turns.seat _ _ (not_ended _ _ c.has_move.result c.has_move.ensures c.position.ensures (search rules)) (omega arith) c.turns.invariant

pub turns-preserved : goal.turns-preserved
turns-preserved g c = passes_then c.take_turn.result _ _ _ _ _ _ _ _ _ (cc) c.turns.invariant c.take_turn.ensures.passes

pub returns-in-Ok-Some : goal.returns-in-Ok-Some
returns-in-Ok-Some g c =
    stops_left c.in-Ok-Some.who c.take_turn.result _ _ _ _ _ _ _ _ _ (not_ended _ _ c.has_move.result c.has_move.ensures c.position.ensures (search rules)) (omega arith) (cc)
    (rw c.in-Ok-Some.field-0-is at c.in-Ok-Some.ensures.left) c.turns.invariant c.take_turn.ensures.passes

pub returns-in-Err : goal.returns-in-Err
returns-in-Err g c = stops_fault c.in-Err.fault c.take_turn.result _ _ _ _ _ _ _ _ _ (cc) c.turns.invariant c.take_turn.ensures.passes
