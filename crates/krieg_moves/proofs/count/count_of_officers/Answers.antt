use Rattle.std.proofs.Common.{◌∙◌, sym, arith, subst, bit_and}
use Rattle.krieg_moves.proofs.Common.{Board, man_at, is_kind, Show, is_legal, moves_from, moves_of}
use Rattle.krieg_board.specs.declared.men.Kind.TheVariants.{Knight, Bishop, Rook, Queen}
use Rattle.std.specs.List.{filter}
use Rattle.krieg_board.proofs.Picked.{picked}
use Rattle.krieg_moves.proofs.Counting.{counted_ended, few_moves_of}
use Rattle.krieg_moves.proofs.Officers.{counted_by_kind}
use Rattle.krieg_moves.proofs.count.count_of_officers.Goals as goal

pub returns-then-men-eq0 : goal.returns-then-men-eq0
unfolding moves_of picked
returns-then-men-eq0 c = sym (counted_ended (λ k. filter (is_legal c.args.p.now) (moves_from k)) c.args.men c.if-men-eq0.true)

pub count_of_kind-requires-clause-kind : goal.count_of_kind-requires-clause-kind
count_of_kind-requires-clause-kind c = λ k h. c.sets-sets.ensures.knights k h ∙ (λ i. is_kind Knight (man_at (c.bits.ensures.value i) k))

pub count_of_kind-requires-2-clause-kind : goal.count_of_kind-requires-2-clause-kind
count_of_kind-requires-2-clause-kind c = λ k h. c.sets-sets.ensures.bishops k h ∙ (λ i. is_kind Bishop (man_at (c.bits.ensures.value i) k))

pub count_of_kind-requires-3-clause-kind : goal.count_of_kind-requires-3-clause-kind
count_of_kind-requires-3-clause-kind c = λ k h. c.sets-sets.ensures.rooks k h ∙ (λ i. is_kind Rook (man_at (c.bits.ensures.value i) k))

pub count_of_kind-requires-4-clause-kind : goal.count_of_kind-requires-4-clause-kind
count_of_kind-requires-4-clause-kind c = λ k h. c.sets-sets.ensures.queens k h ∙ (λ i. is_kind Queen (man_at (c.bits.ensures.value i) k))

pub overflow_add-result : goal.overflow_add-result
overflow_add-result c = omega (arith, c.count_of_kind.ensures, c.count_of_kind-2.ensures, few_moves_of c.args.p.now (bit_and c.args.men c.sets-sets.result.now.knights), few_moves_of c.args.p.now (bit_and c.args.men c.sets-sets.result.now.bishops))

pub overflow_add-result-2 : goal.overflow_add-result-2
overflow_add-result-2 c = omega (arith, c.count_of_kind.ensures, c.count_of_kind-2.ensures, c.count_of_kind-3.ensures, few_moves_of c.args.p.now (bit_and c.args.men c.sets-sets.result.now.knights), few_moves_of c.args.p.now (bit_and c.args.men c.sets-sets.result.now.bishops), few_moves_of c.args.p.now (bit_and c.args.men c.sets-sets.result.now.rooks))

pub overflow_add-result-3 : goal.overflow_add-result-3
overflow_add-result-3 c = omega (arith, c.count_of_kind.ensures, c.count_of_kind-2.ensures, c.count_of_kind-3.ensures, c.count_of_kind-4.ensures, few_moves_of c.args.p.now (bit_and c.args.men c.sets-sets.result.now.knights), few_moves_of c.args.p.now (bit_and c.args.men c.sets-sets.result.now.bishops), few_moves_of c.args.p.now (bit_and c.args.men c.sets-sets.result.now.rooks), few_moves_of c.args.p.now (bit_and c.args.men c.sets-sets.result.now.queens))

pub returns : goal.returns
returns c =
    let p = c.args.p.now in
    let show = subst (λ (b : Board). Show c.sets-sets.result.now b) c.bits.ensures.value c.sets-sets.ensures in
    omega (arith, c.count_of_kind.ensures, c.count_of_kind-2.ensures, c.count_of_kind-3.ensures, c.count_of_kind-4.ensures, counted_by_kind p c.args.men c.sets-sets.result.now show c.requires.men)
