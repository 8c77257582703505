use Rattle.std.proofs.Common.{arith}
use Rattle.krieg_solve.proofs.Solving.{none_mates, is_paid}
use Rattle.krieg_share.proofs.Answering.{is_large, answered, well_formed}
use Rattle.krieg_share.proofs.answer.share.Goals as goal

pub returns-in-Over-clause-answer : goal.returns-in-Over-clause-answer
returns-in-Over-clause-answer c =
    let k = rw c.in-Over.is at c.in_ok-decide.ensures.decided in
    none_mates c.args.way.d c.args.who c.args.b.now c.args.moves k.1

pub returns-in-Lost-clause-answer : goal.returns-in-Lost-clause-answer
returns-in-Lost-clause-answer c =
    let k = rw c.in-Lost.is at c.in_ok-decide.ensures.decided in
    none_mates c.args.way.d c.args.who c.args.b.now c.args.moves k.0.cannot

pub share_won-requires-clause-paid : goal.share_won-requires-clause-paid
share_won-requires-clause-paid c =
    let k = rw c.in-Won.is at c.in_ok-decide.ensures.decided in
    is_paid c.args.way.d c.args.who c.args.b.now c.args.moves c.args.way.cut c.in-Won.won c.new-left.result k.0 (let a = c.left.type_inv in let e = c.new-left.ensures in omega arith)

pub returns-in-Ok-clause-answer : goal.returns-in-Ok-clause-answer
returns-in-Ok-clause-answer c =
    let k = rw c.in-Won.is at c.in_ok-decide.ensures.decided in
    answered c.args.way.d c.args.who c.args.b.now c.args.moves c.args.way.cut c.in-Won.won c.new-left.result k.0 c.in-Ok.answer c.in-Ok.ensures

pub returns-in-Err-Large-clause-answer : goal.returns-in-Err-Large-clause-answer
returns-in-Err-Large-clause-answer c =
    let k = rw c.in-Won.is at c.in_ok-decide.ensures.decided in
    is_large c.args.way.d c.args.who c.args.b.now c.args.moves c.args.way.cut c.in-Won.won c.new-left.result k.0 (rw c.in-Err-Large.field-0-is at c.in-Err-Large.ensures)

pub returns-in-Ok-clause-well_formed : goal.returns-in-Ok-clause-well_formed
returns-in-Ok-clause-well_formed c =
    let k = rw c.in-Won.is at c.in_ok-decide.ensures.decided in
    well_formed c.args.way.d c.args.who c.args.b.now c.args.moves c.args.way.cut c.in-Won.won c.new-left.result k.0 (let f = c.ranges.moves.fits in omega arith) c.in-Ok.answer c.in-Ok.ensures
