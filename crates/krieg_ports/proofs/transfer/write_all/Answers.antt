-- What the sink got after each write is a front part of the text.
use Rattle.std.proofs.Common.{arith}
use Rattle.krieg_ports.proofs.ToldBytes.{Appends_then, Appends_kept, AppendsPrefix_take, take_more}
use Rattle.krieg_ports.proofs.transfer.write_all.Goals as goal

pub returns-in-Err-clause-prefix : goal.returns-in-Err-clause-prefix
returns-in-Err-clause-prefix g c =
    AppendsPrefix_take _ _ c.loop-sent.sent _ (Appends_kept _ _ _ _ c.loop-sent.invariant.front c.in-Err.ensures.bytes)

pub loop-sent-preserved : goal.loop-sent-preserved
loop-sent-preserved g c = record {
  within = omega (arith, c.in-Ok.ensures.takes);
  kept = omega (arith, c.loop-sent.invariant.kept, c.in-Ok.ensures.kept);
  front = rw take_more (Appends_then _ _ _ _ _ c.loop-sent.invariant.front c.in-Ok.ensures.bytes);
}
