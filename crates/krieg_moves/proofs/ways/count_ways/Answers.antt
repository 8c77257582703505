use Rattle.std.proofs.Common.{arith}
use Rattle.std.proofs.lemmas.Nat.{and_le_l}
use Rattle.krieg_moves.proofs.PawnWays.{counted_ways}
use Rattle.krieg_moves.proofs.ways.count_ways.Goals as goal

pub returns-clause-value : goal.returns-clause-value
returns-clause-value c =
    counted_ways c.args.side c.args.pawns c.args.empty c.args.steps c.args.captures c.ahead_in.result c.two_ahead_in.result c.ahead_west_in.result c.ahead_east_in.result
    (omega (arith, and_le_l c.args.pawns c.ahead_in.result, c.ranges.pawns.fits))
    (omega (arith, and_le_l c.args.pawns c.two_ahead_in.result, c.ranges.pawns.fits))
    (omega (arith, and_le_l c.args.pawns c.ahead_west_in.result, c.ranges.pawns.fits))
    (omega (arith, and_le_l c.args.pawns c.ahead_east_in.result, c.ranges.pawns.fits))
    c.ahead_in.ensures c.two_ahead_in.ensures c.ahead_west_in.ensures c.ahead_east_in.ensures
