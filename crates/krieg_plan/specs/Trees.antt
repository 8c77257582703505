-- What plans mean: trees of tries.
use Rattle.std.specs.Prelude.{List}
use Rattle.krieg_board.specs.declared.men.Move.{Move}
use Rattle.krieg_theory.specs.Tree.{Tree, Try, Maybe, Edges, first_edge, first_root}
use Rattle.krieg_game.specs.Keys.{Key, RootKey, key_lt, root_lt}
-- how many nodes a plan has, and how many its longest path has
pub use Rattle.krieg_plan.specs.PlanMeasures.{plan_size, plan_depth}

-- a node with all that is below it
abbrev pub NodeTree : Type 0
NodeTree = Tree Move Key

-- trees by what is heard before the first own turn
abbrev pub PlanTrees : Type 0
PlanTrees = List (RootKey × NodeTree)

-- the edges of a node
abbrev pub edges_in : NodeTree → Edges Move Key
edges_in (Try t other es) = es

-- the tree at the first edge with the key
abbrev pub first_edge_in : NodeTree → Key → Maybe Move Key
first_edge_in n key = first_edge key_lt (edges_in n) key

-- the tree at the first root with the key
abbrev pub first_root_in : PlanTrees → RootKey → Maybe Move Key
first_root_in plan key = first_root root_lt plan key
