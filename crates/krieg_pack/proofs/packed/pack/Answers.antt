use Rattle.std.proofs.Common.{◌≡◌, ap, ◌∙◌}
use Rattle.krieg_pack.proofs.Common.{bits_of, mark_code, side_code, plane, packed, Inside}
use Rattle.krieg_pack.proofs.Unpacking.{packed_is, packed_view, fields_packed}
use Rattle.krieg_pack.proofs.packed.pack.Goals as goal

whole : (c : goal.After-side_code) → ◌≡◌ {A = Inside} (record { ones = c.ones.result; twos = c.twos.result; fours = c.fours.result; eights = c.eights.result; rights = c.bits.result; mark = c.mark_code.result; side = c.side_code.result }) (packed c.args.p.now)
whole c =
    let board = c.bits-board.ensures.value in
    fields_packed c.args.p.now _
    (c.ones.ensures ∙ ap (plane 0) board) (c.twos.ensures ∙ ap (plane 1) board) (c.fours.ensures ∙ ap (plane 2) board) (c.eights.ensures ∙ ap (plane 3) board)
    (c.bits.ensures ∙ ap bits_of c.rights.ensures.value) (c.mark_code.ensures.value ∙ ap mark_code c.mark.ensures.value) (c.side_code.ensures.value ∙ ap side_code c.side.ensures.value)

pub invariant_of-result : goal.invariant_of-result
invariant_of-result c = packed_is c.args.p.now _ c.bits-board.ensures.valid (whole c) c.mark_code.ensures.below

pub returns-clause-value : goal.returns-clause-value
returns-clause-value c = packed_view c.args.p.now _ c.bits-board.ensures.valid (whole c)
