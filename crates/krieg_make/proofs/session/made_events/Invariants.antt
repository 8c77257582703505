use Rattle.std.proofs.Common.{◌≡◌}
use Rattle.krieg_make.proofs.Common.{made_tries}
use Rattle.krieg_make.proofs.session.made_events.Given as goal

abbrev pub invariant-loop-m : goal.invariant-loop-m
invariant-loop-m l = l.events.items ≡ made_tries l.number l.m
