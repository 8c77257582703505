use Rattle.std.proofs.Common.{◌∙◌, ◌&&◌}
use Rattle.krieg_record.proofs.Common.{man_at, is_of, is_kind}
use Rattle.krieg_board.proofs.MenLemmas.{kind_side}
use Rattle.krieg_board.proofs.SetLemmas.{has_and}
use Rattle.krieg_record.proofs.move_traits.own_men.Goals as goal

pub returns : goal.returns
returns c = λ k h.
    has_and c.men_of_kind.result c.men_of.result k
    ∙ (λ i. (c.men_of_kind.ensures c.bits-bits.result.now k c.sets.ensures h ∙ (λ j. is_kind c.args.kind (man_at (c.bits-bits.ensures.value j) k))) i
    && (c.men_of.ensures k h ∙ (λ j. is_of (c.side.ensures.value j) (man_at (c.bits-bits.ensures.value j) k))) i)
    ∙ kind_side c.args.kind c.args.p.now.side (man_at c.args.p.now.board k)
