-- What a root of a plan means.
use Rattle.krieg_game.specs.Keys.{RootKey}
use Rattle.krieg_plan.specs.Trees.{NodeTree}
use Rattle.krieg_plan.specs.Nodes.{tree_of}
use Rattle.krieg_plan.specs.declared.plan.Root.{Root}

-- its key, and the tree that it leads to
abbrev pub root_of : Root → RootKey × NodeTree
root_of r = ((r.opens, r.heard), tree_of r.node.value)
