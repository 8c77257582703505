use Rattle.std.proofs.Common.{◌≡◌, map, drop}
use Rattle.krieg_refutation.proofs.Common.{class_pair, class_in}
use Rattle.krieg_refutation.proofs.reasons.heard.Given as goal

abbrev pub invariant-loop-c : goal.invariant-loop-c
invariant-loop-c l = class_in (map class_pair (drop l.c-index l.classes)) (l.own, l.reply) ≡ class_in (map class_pair l.classes) (l.own, l.reply)
