-- What an edge means.
use Rattle.std.specs.Prelude.{ℕ}
use Rattle.krieg_game.specs.Keys.{Key}
use Rattle.krieg_strategy.specs.declared.edge.StrategyEdge.{StrategyEdge}

-- its key, and the number that it leads to
abbrev pub edge_of : StrategyEdge → Key × ℕ
edge_of e = ((e.own, e.reply), e.to)
