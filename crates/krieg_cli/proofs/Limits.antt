-- What the limits are in numbers.
use Rattle.std.proofs.Common.{refl, lit≤}
use Rattle.krieg_cli.proofs.Common.{AreLimits, FitInputs}

pub numbers : AreLimits
numbers =
    record { input = refl; listed = refl; moves = refl; job = refl; budget = refl; find_moves = refl; find_budget = refl; asks = refl; seed = refl; tries = refl; nodes = refl; path = refl; strategy_nodes = refl; edges = refl; roots = refl; worst = refl; claims = refl; claimed = refl }

pub fit : FitInputs
fit = record { plans = lit≤ tt; refutations = lit≤ tt; strategies = lit≤ tt }

pub ruleset limits = (numbers, fit)
