use Rattle.std.proofs.Common.{arith}
use Rattle.std.proofs.lemmas.Bool.{eqb-false, not-true}
use Rattle.krieg_moves.proofs.Listing.{some_move}
use Rattle.krieg_moves.proofs.ends.first_has.Goals as goal

pub returns-then-men-ne0 : goal.returns-then-men-ne0
returns-then-men-ne0 c e =
    let some = eqb-false c.targets.result 0 (not-true _ e) in
    some_move c.args.p.now c.lowest.result c.targets.result c.lowest.ensures.below (omega (arith, some)) c.targets.type_inv c.targets.ensures
