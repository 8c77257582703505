use Rattle.std.proofs.Common.{◌≡◌, length, sym, arith}
use Rattle.krieg_moves.proofs.Common.{moves}
use Rattle.krieg_moves.proofs.Counting.{few_moves}
use Rattle.krieg_moves.proofs.Kings.{one_king, one_king_found}
use Rattle.krieg_moves.proofs.count.count_moves.Goals as goal

pub lone_king-requires : goal.lone_king-requires
lone_king-requires c =
    one_king_found c.args.p.now.board c.bits.result.now c.args.p.now.side c.side.result c.bits.ensures.value c.side.ensures.value
    (one_king c.args.p.now c.know_valid.ensures c.args.p.now.side)

counted : (c : goal.After-count_steps) → c.count_steps.result ≡ length (moves c.args.p.now)
counted c = c.count_steps.ensures c.args.p.now c.know_valid.ensures (sym c.bits-in-Some.ensures.value) (sym c.side-in-Some.ensures.value)

pub returns-in-Some-clause-few : goal.returns-in-Some-clause-few
returns-in-Some-clause-few c = omega (arith, counted c, few_moves c.args.p.now)

pub returns-in-None-clause-few : goal.returns-in-None-clause-few
returns-in-None-clause-few c = omega (arith, c.count_by_guard.ensures, few_moves c.args.p.now)
