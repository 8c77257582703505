use Rattle.std.proofs.Common.{◌∙◌, sym, ap}
use Rattle.krieg_board.proofs.Common.{man_at, is_of}
use Rattle.krieg_board.proofs.BoardSets.{shows}
use Rattle.krieg_board.proofs.bits.Bits.men_of.Goals as goal

pub returns-in-White : goal.returns-in-White
returns-in-White c = λ k h.
    (shows c.self.inside.sets c.args.self.now c.self.invariant c.self.view_is).white k h ∙ ap (λ s. is_of s (man_at c.args.self.now k)) (sym c.in-White.is)

pub returns-in-Black : goal.returns-in-Black
returns-in-Black c = λ k h.
    (shows c.self.inside.sets c.args.self.now c.self.invariant c.self.view_is).black k h ∙ ap (λ s. is_of s (man_at c.args.self.now k)) (sym c.in-Black.is)
