-- A strategy as contracts see it.
use Rattle.std.specs.Prelude.{ℕ, List, map}
use Rattle.krieg_board.specs.Pos.{Pos}
use Rattle.krieg_board.specs.declared.men.Move.{Move}
use Rattle.krieg_board.specs.declared.men.Side.{Side}
use Rattle.krieg_words.specs.declared.dialects.Dialect.{Dialect}
use Rattle.krieg_game.specs.Keys.{Key, RootKey}
use Rattle.krieg_strategy.specs.Nodes.{Node}
use Rattle.krieg_strategy.specs.Roots.{root_of}
use Rattle.krieg_strategy.specs.declared.strategy.Strategy.{Strategy}

-- the dialect, the player's side, the listed positions, the own moves that are claimed, the nodes, and the roots
pub record StrategyState : Type 0 where
  pub dialect : Dialect
  pub side : Side
  pub list : List Pos
  pub worst : ℕ
  pub nodes : List (Node Move Key)
  pub roots : List (RootKey × ℕ)

-- what a strategy is to contracts
abbrev pub state_of : Strategy → StrategyState
state_of s = record { dialect = s.dialect; side = s.side; list = s.list.items; worst = s.worst; nodes = s.nodes; roots = map root_of s.roots.items }
