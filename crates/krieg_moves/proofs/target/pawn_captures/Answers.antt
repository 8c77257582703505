use Rattle.std.proofs.Common.{◌∙◌, sym, arith}
use Rattle.std.specs.Prelude.{Some}
use Rattle.krieg_moves.proofs.Common.{man_at, Pawn}
use Rattle.krieg_moves.proofs.PawnGoing.{captures_go}
use Rattle.krieg_moves.proofs.Shapes.{found_man}
use Rattle.krieg_moves.proofs.target.pawn_captures.Goals as goal

pub captures-requires-clause-man : goal.captures-requires-clause-man
captures-requires-clause-man c =
    let (man, is, own, pawn) = found_man c.args.p.now.side Pawn (man_at c.args.p.now.board c.args.from) c.requires.pawn in
    is ∙ (λ i. Some (record { side = (own ∙ sym c.side-side.ensures.value) i; kind = pawn i }))

pub returns-then-is_free : goal.returns-then-is_free
returns-then-is_free c = λ t h.
    let (man, is, own, pawn) = found_man c.args.p.now.side Pawn (man_at c.args.p.now.board c.args.from) c.requires.pawn in
    c.free_captures.ensures t h
    ∙ captures_go c.args.p.now c.args.from t c.args.guard.now.king man c.side-side.ensures.valid (omega (arith, c.free_captures.auto.from)) h c.requires.guard.inside c.requires.guard.king is own pawn

pub returns : goal.returns
returns c = λ t h.
    let (man, is, own, pawn) = found_man c.args.p.now.side Pawn (man_at c.args.p.now.board c.args.from) c.requires.pawn in
    c.captures-2.ensures t h
    ∙ captures_go c.args.p.now c.args.from t c.args.guard.now.king man c.side-side.ensures.valid (omega (arith, c.captures-2.auto.from)) h c.requires.guard.inside c.requires.guard.king is own pawn
