use Rattle.std.proofs.Common.{rules, refl}
use Rattle.std.proofs.lemmas.List.{take_rest}
use Rattle.krieg_text.proofs.LastCuts.{none_at, last_at}
use Rattle.krieg_text.proofs.pieces.cut_last.Goals as goal

pub returns-in-None : goal.returns-in-None
returns-in-None c = rw (none_at c.args.separator c.args.text.now (search rules)) refl

pub returns-in-Some : goal.returns-in-Some
returns-in-Some c = rw (last_at c.args.separator c.args.text.now c.in-Some.i (search rules) (search rules) (search rules), take_rest) refl
