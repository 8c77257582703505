use Rattle.std.proofs.Common.{◌∙◌, sym, ap, ◌&&◌}
use Rattle.krieg_rays.proofs.Common.{has, is_open}
use Rattle.krieg_board.proofs.SetLemmas.{has_and, has_zero}
use Rattle.krieg_rays.proofs.Geometry.{none_diagonal}
use Rattle.krieg_rays.proofs.lines.diagonal_among.Goals as goal

pub returns-then-rising_through-falling_through-eq0 : goal.returns-then-rising_through-falling_through-eq0
returns-then-rising_through-falling_through-eq0 c = λ k h.
    has_zero k
    ∙ sym (none_diagonal c.args.s k c.rising_through.result c.falling_through.result c.args.men (is_open c.args.occupied c.args.s k) c.requires h
    c.rising_through.ensures c.falling_through.ensures c.if-rising_through-falling_through-eq0.true)

pub returns : goal.returns
returns c = λ k h. has_and c.diagonal_from.result c.args.men k ∙ ap (λ x. x && has c.args.men k) (c.diagonal_from.ensures k h)
