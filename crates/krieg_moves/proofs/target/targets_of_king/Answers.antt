use Rattle.std.proofs.Common.{◌∙◌, sym}
use Rattle.std.specs.Prelude.{Some}
use Rattle.krieg_moves.proofs.Common.{man_at, King}
use Rattle.krieg_moves.proofs.Shapes.{found_man}
use Rattle.krieg_moves.proofs.target.targets_of_king.Goals as goal

pub king_targets-requires-clause-man : goal.king_targets-requires-clause-man
king_targets-requires-clause-man c =
    let (man, is, own, king) = found_man c.args.p.now.side King (man_at c.args.p.now.board c.args.from) c.requires in
    is ∙ (λ i. Some (record { side = (own ∙ sym c.side.ensures.value) i; kind = king i }))
