use Rattle.std.proofs.Common.{◌-◌, ◌+◌, ◌<◌, ◌≡◌, ◌∙◌, ℕ, arith, bit_and, bit_or, length}
use Rattle.krieg_moves.proofs.Common.{man_at, is_of, has, moves}
use Rattle.krieg_moves.proofs.Counting.{few_moves_of, all_counted}
use Rattle.krieg_moves.proofs.Officers.{counted_in_three}
use Rattle.krieg_moves.proofs.count.count_by_guard.Goals as goal

pub overflow_add-result : goal.overflow_add-result
overflow_add-result c =
    omega (
      arith,
      c.count_of_free_pawns.ensures,
      c.count_of_officers.ensures,
      few_moves_of c.args.p.now c.free_pawns-free.result,
      few_moves_of c.args.p.now c.free_officers-officers.result,
    )

pub overflow_add-result-2 : goal.overflow_add-result-2
overflow_add-result-2 c =
    omega (
      arith,
      c.count_of_free_pawns.ensures,
      c.count_of_officers.ensures,
      c.count_one_by_one.ensures,
      few_moves_of c.args.p.now c.free_pawns-free.result,
      few_moves_of c.args.p.now c.free_officers-officers.result,
      few_moves_of c.args.p.now (bit_and c.men_of-men.result (18446744073709551615 - bit_or c.free_pawns-free.result c.free_officers-officers.result)),
    )

own : (c : goal.After-count_one_by_one) (k : ℕ) → k < 64 → has c.men_of-men.result k ≡ is_of c.args.p.now.side (man_at c.args.p.now.board k)
own c k h = c.men_of-men.ensures k h ∙ (λ i. is_of (c.side.ensures.value i) (man_at (c.bits.ensures.value i) k))

counted : (c : goal.After-count_one_by_one) → c.count_of_free_pawns.result + c.count_of_officers.result + c.count_one_by_one.result ≡ length (moves c.args.p.now)
counted c =
    let p = c.args.p.now in
    let men = c.men_of-men.result in
    omega (
      arith,
      c.count_of_free_pawns.ensures,
      c.count_of_officers.ensures,
      c.count_one_by_one.ensures,
      counted_in_three p men c.free_pawns-free.result c.free_officers-officers.result c.free_pawns-free.type_inv c.free_officers-officers.type_inv (own c)
          (λ k h here. (c.free_pawns-free.ensures k h here).pawn) c.free_officers-officers.ensures,
      all_counted p men (own c),
    )

pub returns : goal.returns
returns c = counted c
