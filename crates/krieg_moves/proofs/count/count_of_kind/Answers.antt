use Rattle.std.proofs.Common.{◌≡◌, ◌∙◌, ◌==◌, sym, not, arith, true, bit_and}
use Rattle.std.specs.Prelude.{Some}
use Rattle.std.proofs.lemmas.Bool.{and_parts, not-true}
use Rattle.std.specs.List.{filter}
use Rattle.krieg_moves.proofs.Common.{man_at, has, is_pinned, is_legal, moves_from, moves_of, is_officer_of, is_free_officer}
use Rattle.krieg_board.proofs.Picked.{picked}
use Rattle.krieg_moves.proofs.Counting.{few_picked, counted_taken, counted_ended}
use Rattle.krieg_moves.proofs.Officers.{free_of_kind}
use Rattle.krieg_moves.proofs.count.count_of_kind.Goals as goal
use Rattle.krieg_moves.proofs.count.count_of_kind.Goals.{After-without_lowest-rest}

pub loop-rest-init : goal.loop-rest-init
loop-rest-init c = (omega arith, λ k h here. here)

known : (c : After-without_lowest-rest) → (man_at c.args.p.now.board c.lowest-from.result ≡ Some c.args.man) × (is_free_officer c.args.p.now c.lowest-from.result ≡ true)
known c =
    let from = c.lowest-from.result in
    let below = c.lowest-from.ensures.below in
    free_of_kind c.args.p.now c.args.man.side c.args.man.kind c.args.men c.args.of_kind from c.requires.own (c.requires.men from below) (c.requires.kind from below)
    (c.loop-rest.invariant.1 from below c.lowest-from.ensures.member)

pub count_of_officer-count-requires-clause-man : goal.count_of_officer-count-requires-clause-man
count_of_officer-count-requires-clause-man c = (known c).0

pub count_of_officer-count-requires-clause-free : goal.count_of_officer-count-requires-clause-free
count_of_officer-count-requires-clause-free c =
    let p = c.args.p.now in
    let from = c.lowest-from.result in
    not-true (is_pinned p.board p.side from) (and_parts (is_officer_of p.side (man_at p.board from)) (not (is_pinned p.board p.side from)) (known c).1).1

pub overflow_add-count : goal.overflow_add-count
overflow_add-count c =
    let others = c.without_lowest-rest.ensures.others c.lowest-from.result c.lowest-from.ensures in
    omega (
      arith,
      c.loop-rest.invariant.0,
      c.count_of_officer-count.ensures,
      few_picked (is_legal c.args.p.now) (bit_and c.args.men c.args.of_kind),
      counted_taken (λ k. filter (is_legal c.args.p.now) (moves_from k)) c.loop-rest.rest c.lowest-from.result c.without_lowest-rest.result c.lowest-from.ensures others,
    )

pub loop-rest-preserved : goal.loop-rest-preserved
loop-rest-preserved c =
    let others = c.without_lowest-rest.ensures.others c.lowest-from.result c.lowest-from.ensures in (
      omega (
        arith,
        c.loop-rest.invariant.0,
        c.count_of_officer-count.ensures,
        counted_taken (λ k. filter (is_legal c.args.p.now) (moves_from k)) c.loop-rest.rest c.lowest-from.result c.without_lowest-rest.result c.lowest-from.ensures others,
      ),
      λ k h here. c.loop-rest.invariant.1 k h (and_parts (has c.loop-rest.rest k) (not (k == c.lowest-from.result)) (sym (others k h) ∙ here)).0,
    )

pub returns : goal.returns
unfolding moves_of picked
returns c =
    let ended = counted_ended (λ k. filter (is_legal c.args.p.now) (moves_from k)) c.loop-rest.rest (omega (arith, c.loop-rest-test.false)) in
    omega (arith, ended, c.loop-rest.invariant.0)
