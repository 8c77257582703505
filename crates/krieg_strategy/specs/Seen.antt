-- What a node means, as it is handed out.
use Rattle.std.specs.Prelude.{map}
use Rattle.krieg_board.specs.declared.men.Move.{Move}
use Rattle.krieg_game.specs.Keys.{Key}
use Rattle.krieg_strategy.specs.Nodes.{Node}
use Rattle.krieg_strategy.specs.Edges.{edge_of}
use Rattle.krieg_strategy.specs.declared.node.StrategyNode.{StrategyNode}

-- its try, and the numbers that it leads to
abbrev pub node_of : StrategyNode → Node Move Key
node_of n = record { mv = n.mv; no = n.no; edges = map edge_of n.edges.now }
