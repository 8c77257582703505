use Rattle.std.proofs.Common.{arith}
use Rattle.std.specs.List.{filter}
use Rattle.krieg_moves.proofs.Common.{is_legal, moves_from, moves_of}
use Rattle.krieg_board.proofs.Picked.{picked}
use Rattle.krieg_moves.proofs.Counting.{few_picked, counted_taken, counted_ended}
use Rattle.krieg_moves.proofs.count.count_one_by_one.Goals as goal

pub loop-rest-init : goal.loop-rest-init
loop-rest-init c = omega arith

pub overflow_add-count : goal.overflow_add-count
overflow_add-count c =
    let others = c.without_lowest-rest.ensures.others c.lowest-from.result c.lowest-from.ensures in
    omega (
      arith,
      c.loop-rest.invariant,
      c.count_from-count.ensures,
      few_picked (is_legal c.args.p.now) c.args.men,
      counted_taken (λ k. filter (is_legal c.args.p.now) (moves_from k)) c.loop-rest.rest c.lowest-from.result c.without_lowest-rest.result c.lowest-from.ensures others,
    )

pub loop-rest-preserved : goal.loop-rest-preserved
loop-rest-preserved c =
    let others = c.without_lowest-rest.ensures.others c.lowest-from.result c.lowest-from.ensures in
    omega (
      arith,
      c.loop-rest.invariant,
      c.count_from-count.ensures,
      counted_taken (λ k. filter (is_legal c.args.p.now) (moves_from k)) c.loop-rest.rest c.lowest-from.result c.without_lowest-rest.result c.lowest-from.ensures others,
    )

pub returns : goal.returns
unfolding moves_of picked
returns c =
    let ended = counted_ended (λ k. filter (is_legal c.args.p.now) (moves_from k)) c.loop-rest.rest (omega (arith, c.loop-rest-test.false)) in
    omega (arith, ended, c.loop-rest.invariant)
