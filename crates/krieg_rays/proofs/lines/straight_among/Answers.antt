use Rattle.std.proofs.Common.{◌∙◌, sym, ap, ◌&&◌}
use Rattle.krieg_rays.proofs.Common.{has, is_open}
use Rattle.krieg_board.proofs.SetLemmas.{has_and, has_zero}
use Rattle.krieg_rays.proofs.Geometry.{none_straight}
use Rattle.krieg_rays.proofs.lines.straight_among.Goals as goal

pub returns-then-file_through-rank_through-eq0 : goal.returns-then-file_through-rank_through-eq0
returns-then-file_through-rank_through-eq0 c = λ k h.
    has_zero k
    ∙ sym (none_straight c.args.s k c.file_through.result c.rank_through.result c.args.men (is_open c.args.occupied c.args.s k) c.requires h
    c.file_through.ensures c.rank_through.ensures c.if-file_through-rank_through-eq0.true)

pub returns : goal.returns
returns c = λ k h. has_and c.straight_from.result c.args.men k ∙ ap (λ x. x && has c.args.men k) (c.straight_from.ensures k h)
