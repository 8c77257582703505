use Rattle.std.proofs.Common.{◌≡◌, false, eqb, Some, sym, arith}
use Rattle.std.proofs.lemmas.Bool.{eqb-false}
use Rattle.krieg_sight.proofs.Telling.{found_right, none_within}
use Rattle.krieg_sight.proofs.last_moves.LastMoves.of.Goals as goal

pub returns-in-Some : goal.returns-in-Some
returns-in-Some c = λ e.
    let right = found_right c.args.p.now c.self.inside.told.entries c.in-Some.told.now c.self.invariant (sym c.in-Some.ensures.value) in
    let is : eqb c.in-Some.told.now.none 0 ≡ false = (let k : Some (eqb c.in-Some.told.now.none 0) ≡ Some false = e in cc) in
    let some = eqb-false c.in-Some.told.now.none 0 is in
    none_within 1 c.in-Some.told.now.none c.args.p.now right.none (omega (arith, some))
