use Rattle.std.proofs.Common.{◌∙◌, ◌&&◌, ◌==◌, ap, sym, arith}
use Rattle.std.proofs.Math.Bool.{and-false}
use Rattle.krieg_moves.proofs.Common.{rank_of, last_rank, has}
use Rattle.krieg_board.proofs.SetLemmas.{has_and, has_zero}
use Rattle.krieg_moves.proofs.count.promoting.Goals as goal

pub returns-then-has : goal.returns-then-has
returns-then-has c = λ t h.
    has_and c.args.targets c.last_rank_squares.result t
    ∙ ap (λ x. has c.args.targets t && x)
    (c.last_rank_squares.ensures t h
    ∙ ap (λ side. rank_of t == last_rank side) c.side.ensures.value
    ∙ sym (ap (λ x. x && rank_of t == last_rank c.args.p.now.side)
    (sym (c.own_pawns.ensures c.args.from (omega (arith, c.number.ensures.value, c.number.ensures.below))) ∙ sym (c.has.ensures ∙ ap (has c.own_pawns.result) c.number.ensures.value) ∙ c.if-has.true)))

pub returns-else-has : goal.returns-else-has
returns-else-has c = λ t h.
    has_zero t
    ∙ sym (ap (λ x. has c.args.targets t && (x && rank_of t == last_rank c.args.p.now.side))
    (sym (c.own_pawns.ensures c.args.from (omega (arith, c.number.ensures.value, c.number.ensures.below))) ∙ sym (c.has.ensures ∙ ap (has c.own_pawns.result) c.number.ensures.value) ∙ c.if-has.false)
    ∙ and-false (has c.args.targets t))
