-- What a refutation that holds excludes.
use Rattle.std.specs.Prelude.{◌≡◌, false}
use Rattle.krieg_theory.specs.Plans.{Plan, mates}
use Rattle.krieg_game.specs.Chess.{chess}
use Rattle.krieg_game.specs.Outset.{outset}
use Rattle.krieg_refutation.specs.declared.refutation.Refutation.{Refutation}

-- no plan of the side mates all listed positions within the number
abbrev pub NoneMates : Refutation → Type 0
NoneMates f = (plan : Plan (chess f.dialect) (outset f.dialect f.side)) → mates (chess f.dialect) (outset f.dialect f.side) plan f.list.items f.moves ≡ false
