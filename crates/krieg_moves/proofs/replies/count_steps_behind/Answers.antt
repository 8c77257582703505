use Rattle.std.proofs.Common.{◌∙◌, ◌&&◌, ◌-◌, not, ap, bit_and, arith}
use Rattle.std.proofs.lemmas.Nat.{and_le_l}
use Rattle.std.specs.Prelude.{Some, None, slice_set}
use Rattle.krieg_moves.proofs.Common.{is_attacked, King, White, goes}
use Rattle.krieg_board.proofs.SetLemmas.{has_and, has_not}
use Rattle.krieg_moves.proofs.LoneKings.{to_off, replies_counted}
use Rattle.krieg_moves.proofs.replies.count_steps_behind.Goals as goal

pub attacked_behind-attacked-requires-clause-apart : goal.attacked_behind-attacked-requires-clause-apart
attacked_behind-attacked-requires-clause-apart c = λ e.
    to_off c.args.p.now c.args.mv.now c.args.man c.args.king c.know_valid.ensures c.requires.man c.requires.legal c.requires.alone.stands
    (omega (arith, c.number.ensures.value, c.number-to.ensures.value, e))

pub returns : goal.returns
returns c =
    replies_counted c.args.p.now c.args.mv.now c.args.man c.args.king c.know_valid.ensures c.requires.man c.requires.legal (omega (arith, c.number.ensures.value, c.number.ensures.below)) c.requires.alone
    (bit_and c.king_attacks.result (18446744073709551615 - c.attacked_behind-attacked.result)) (omega (arith, and_le_l c.king_attacks.result (18446744073709551615 - c.attacked_behind-attacked.result), c.king_attacks.type_inv)) c.requires.single
    (λ t h. has_and c.king_attacks.result (18446744073709551615 - c.attacked_behind-attacked.result) t
    ∙ (λ i. c.king_attacks.ensures t h i && (has_not c.attacked_behind-attacked.result t c.attacked_behind-attacked.type_inv h ∙ ap not (c.attacked_behind-attacked.ensures t h)) i)
    ∙ (λ i. goes King White (c.number-2.ensures.value i) t && not (is_attacked (slice_set (slice_set (slice_set (c.bits.ensures.value i) (c.number-from.ensures.value i) None) (c.number-to.ensures.value i) (Some (c.placed.ensures i))) (c.number.ensures.value i) None) t (c.placed.ensures i).side)))
