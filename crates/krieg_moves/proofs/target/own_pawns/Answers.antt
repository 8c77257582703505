use Rattle.std.proofs.Common.{◌∙◌, ◌&&◌}
use Rattle.krieg_moves.proofs.Common.{man_at, is_of, is_kind, Pawn}
use Rattle.krieg_board.proofs.MenLemmas.{kind_side}
use Rattle.krieg_board.proofs.SetLemmas.{has_and}
use Rattle.krieg_moves.proofs.target.own_pawns.Goals as goal

pub returns : goal.returns
returns c = λ k h.
    has_and c.sets.result.now.pawns c.men_of.result k
    ∙ (λ i. (c.sets.ensures.pawns k h ∙ (λ j. is_kind Pawn (man_at (c.bits-bits.ensures.value j) k))) i
    && (c.men_of.ensures k h ∙ (λ j. is_of (c.side-side.ensures.value j) (man_at (c.bits-bits.ensures.value j) k))) i)
    ∙ kind_side Pawn c.args.p.now.side (man_at c.args.p.now.board k)
