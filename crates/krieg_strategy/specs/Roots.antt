-- What a root means.
use Rattle.std.specs.Prelude.{ℕ}
use Rattle.krieg_game.specs.Keys.{RootKey}
use Rattle.krieg_strategy.specs.declared.root.StrategyRoot.{StrategyRoot}

-- its key, and the number that it leads to
abbrev pub root_of : StrategyRoot → RootKey × ℕ
root_of r = ((r.opens, r.heard), r.to)
