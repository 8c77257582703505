use Rattle.std.proofs.Common.{Ok, Err, None, refl, arith, rules}
use Rattle.krieg_play.proofs.Common.{Ended, Left, AsksUsed}
use Rattle.krieg_play.proofs.Stopping.{stops_ended, stops_used, stops_left_at, stops_fault, goes_on, passes_then, passes_as, ended, not_ended}
use Rattle.krieg_play.proofs.game.play_on.Goals as goal

pub returns-then-not-has_move : goal.returns-then-not-has_move
returns-then-not-has_move g c = record {
  plays = goes_on _ (Ok None) (Ok Ended) _ _ _ _ _ _ _ _ refl c.turns.invariant.passes (stops_ended _ _ _ _ _ (ended _ _ c.has_move.result c.has_move.ensures c.position.ensures (search rules)));
}

pub returns-then-spare-relieved_count : goal.returns-then-spare-relieved_count
returns-then-spare-relieved_count g c = record {
  plays = goes_on _ (Ok None) (Ok AsksUsed) _ _ _ _ _ _ _ _ refl c.turns.invariant.passes
      (stops_used _ _ _ _ _ (not_ended _ _ c.has_move.result c.has_move.ensures c.position.ensures (search rules)) (omega arith));
}

pub turns-preserved : goal.turns-preserved
turns-preserved g c = record {
  passes = passes_then _ _ _ _ _ _ _ _ _ _ (cc) c.turns.invariant.passes c.pass.ensures.passes;
  white = c.pass.ensures.white;
  black = c.pass.ensures.black;
  seats = omega arith;
}

pub returns-in-Ok-Some : goal.returns-in-Ok-Some
returns-in-Ok-Some g c =
    let facts = rw c.in-Ok-Some.field-0-is at c.in-Ok-Some.ensures.left in
    record {
      plays = goes_on _ (Ok None) (Ok (Left c.in-Ok-Some.who)) _ _ _ _ _ _ _ _ refl c.turns.invariant.passes
          (stops_left_at _ _ _ c.in-Ok-Some.who c.pass.result _ _ _ _ (not_ended _ _ c.has_move.result c.has_move.ensures c.position.ensures (search rules)) (omega (arith, facts.2)) (cc) facts.0 facts.1 facts.3 c.pass.ensures.passes);
    }

pub returns-in-Err : goal.returns-in-Err
returns-in-Err g c = record {
  plays = goes_on _ (Ok None) (Err c.in-Err.fault) _ _ _ _ _ _ _ c.pass.new.game refl c.turns.invariant.passes (stops_fault _ _ _ _ _ _ _ c.pass.new.game (passes_as _ c.pass.result (Err c.in-Err.fault) _ _ _ _ _ _ (cc) c.pass.ensures.passes));
}
