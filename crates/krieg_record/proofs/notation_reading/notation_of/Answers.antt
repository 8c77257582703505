use Rattle.std.proofs.Common.{arith}
use Rattle.std.proofs.lemmas.Grind.{common_steps}
use Rattle.std.proofs.lemmas.Bool.Decides.{nat_tests}
use Rattle.krieg_record.proofs.Common.{notation_of}
use Rattle.krieg_record.proofs.LastBytes.{ending_at, front_at, no_ending}
use Rattle.krieg_record.proofs.notation_reading.notation_of.Goals as goal

pub returns-in-43 : goal.returns-in-43
unfolding notation_of
returns-in-43 c = let e = ending_at c.args.text.now c.in-43.len_at_least in let f = front_at c.args.text.now in grind (arith, common_steps, nat_tests)

pub returns-in-35 : goal.returns-in-35
unfolding notation_of
returns-in-35 c = let e = ending_at c.args.text.now c.in-35.len_at_least in let f = front_at c.args.text.now in grind (arith, common_steps, nat_tests)

pub returns-in_default : goal.returns-in_default
unfolding notation_of
returns-in_default c = let n = no_ending c.args.text.now in let e = ending_at c.args.text.now in grind (arith, common_steps, nat_tests)
