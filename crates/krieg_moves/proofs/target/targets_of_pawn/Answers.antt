use Rattle.std.proofs.Common.{◌∙◌, sym}
use Rattle.std.specs.Prelude.{Some}
use Rattle.krieg_moves.proofs.Common.{man_at, Pawn}
use Rattle.krieg_moves.proofs.Shapes.{found_man}
use Rattle.krieg_moves.proofs.target.targets_of_pawn.Goals as goal

pub pawn_targets-requires-clause-man : goal.pawn_targets-requires-clause-man
pawn_targets-requires-clause-man c =
    let (man, is, own, pawn) = found_man c.args.p.now.side Pawn (man_at c.args.p.now.board c.args.from) c.requires.pawn in
    is ∙ (λ i. Some (record { side = (own ∙ sym c.side.ensures.value) i; kind = pawn i }))
