use Rattle.std.proofs.Common.{◌≡◌, ◌<◌, ℕ, ◌∙◌, ◌&&◌, ◌||◌, not, ap, ◌-◌, bit_and, bit_or}
use Rattle.krieg_moves.proofs.Common.{man_at, has, is_officer_of}
use Rattle.krieg_board.proofs.SetLemmas.{has_and, has_or, has_not}
use Rattle.krieg_moves.proofs.Officers.{officer_kinds}
use Rattle.krieg_moves.proofs.count.free_officers.Goals as goal
use Rattle.krieg_moves.proofs.count.free_officers.Goals.{After-men_of}

officers : (c : After-men_of) (k : ℕ) → k < 64 →
    has (bit_and (bit_or (bit_or c.sets-sets.result.now.knights c.sets-sets.result.now.bishops) (bit_or c.sets-sets.result.now.rooks c.sets-sets.result.now.queens)) c.men_of.result) k
    ≡ is_officer_of c.args.p.now.side (man_at c.args.p.now.board k)
officers c k h =
    simp (has_and, has_or)
    ((λ j. ((c.sets-sets.ensures.knights k h j || c.sets-sets.ensures.bishops k h j) || (c.sets-sets.ensures.rooks k h j || c.sets-sets.ensures.queens k h j)) && c.men_of.ensures k h j)
    ∙ officer_kinds c.side-side.result (man_at c.bits-bits.result.now k)
    ∙ (λ j. is_officer_of (c.side-side.ensures.value j) (man_at (c.bits-bits.ensures.value j) k)))

pub returns : goal.returns
returns c = λ k h.
    has_and _ (18446744073709551615 - c.args.pinned) k
    ∙ (λ i. officers c k h i && (has_not c.args.pinned k c.ranges.pinned.fits h ∙ ap not (c.requires k h)) i)
