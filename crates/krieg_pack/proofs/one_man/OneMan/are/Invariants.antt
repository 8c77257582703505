use Rattle.std.proofs.Common.{◌<◌, ◌^◌}
use Rattle.krieg_pack.proofs.OneMen.{AreLeft}
use Rattle.krieg_pack.proofs.one_man.OneMan.are.Given as goal

abbrev pub invariant-loop-m : goal.invariant-loop-m
invariant-loop-m l = (l.rest < 2 ^ 64) × AreLeft l.self l.members l.rest l.m-index
