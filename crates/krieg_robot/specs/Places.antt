-- What no public clause cites: how a seat keeps where it stands, by the way that leads from a root of the plan to a node.
use Rattle.std.specs.Prelude.{ℕ, List, [], ◌∷◌, Option, Some, None}
use Rattle.krieg_board.specs.declared.men.Move.{Move}
use Rattle.krieg_words.specs.Words.{Said}
use Rattle.krieg_theory.specs.Tree.{Try, Maybe, Nothing, Just, Edges}
use Rattle.krieg_game.specs.Keys.{Key}
use Rattle.krieg_plan.specs.Trees.{NodeTree, PlanTrees, first_edge_in, first_root_in}
use Rattle.krieg_robot.specs.Stands as stand
use Rattle.krieg_strategy.specs.Unfolded.{led_to, trees_of}
use Rattle.krieg_strategy.specs.declared.strategy.Strategy.{Strategy}
use Rattle.krieg_robot.specs.Stands.{Stand, at, node_other, node_try}
use Rattle.krieg_robot.specs.declared.guide.Step.{Step}
use Rattle.krieg_robot.specs.declared.guide.Step.TheVariants.{From, No, On}
use Rattle.krieg_robot.specs.declared.place.Place.{Place}
use Rattle.krieg_robot.specs.declared.place.Place.TheVariants.{Unopened, Opened, At, Sent, Won, Lost}
use Rattle.krieg_robot.specs.declared.place.Change.{Change}
use Rattle.krieg_robot.specs.declared.place.Change.TheVariants.{Goes, Steps}

-- the node behind a step from a node
abbrev pub below : NodeTree → Step → Maybe Move Key
below n (From opens heard) = Nothing
below n No = node_other n
below n (On own reply) = first_edge_in n (own, reply)

-- the node behind a step, from a node or from outside the plan
abbrev pub behind : PlanTrees → Maybe Move Key → Step → Maybe Move Key
behind plan n (From opens heard) = first_root_in plan (opens, heard)
behind plan Nothing No = Nothing
behind plan Nothing (On own reply) = Nothing
behind plan (Just n) No = below n No
behind plan (Just n) (On own reply) = below n (On own reply)

-- the node at the end of a way
abbrev pub node_on : PlanTrees → Maybe Move Key → List Step → Maybe Move Key
node_on plan n [] = n
node_on plan n (s ∷ ss) = node_on plan (behind plan n s) ss

-- the try of a node, if there is one
abbrev pub try_there : Maybe Move Key → Option Move
try_there Nothing = None
try_there (Just n) = Some (node_try n)

-- the node of a strategy with that number, if there is one
abbrev pub node_at : Strategy → Option ℕ → Maybe Move Key
node_at s number = led_to (trees_of s.nodes) number

-- the node with this try that leads to these, or none where there is no try
abbrev pub node_with : Option Move → Maybe Move Key → Edges Move Key → Maybe Move Key
node_with None other es = Nothing
node_with (Some t) other es = Just (Try t other es)

-- the try of a node was done, or lost where the plan has no node
abbrev pub sent : Maybe Move Key → Said → Stand
sent Nothing w = stand.Lost
sent (Just n) w = stand.Sent n w

-- where one stands who keeps this place, with the node at the end of his way
abbrev pub stand_at : Place → Maybe Move Key → Stand
stand_at Unopened n = stand.Unopened
stand_at (Opened w) n = stand.Opened w
stand_at At n = at n
stand_at (Sent w) n = sent n w
stand_at Won n = stand.Won
stand_at Lost n = stand.Lost

-- where he stands after a change, if there was one
abbrev pub changed : PlanTrees → Place → Maybe Move Key → Option Change → Stand
changed plan place n None = stand_at place n
changed plan place n (Some (Goes to)) = stand_at to n
changed plan place n (Some (Steps s)) = at (behind plan n s)
