-- Where a player stands who follows a plan, by the lines that he heard.
use Rattle.std.specs.Prelude.{Bool, true, false, List, [], ◌∷◌, Option, Some, None, if◌then◌else◌}
use Rattle.std.specs.Ordering.{is_eq}
use Rattle.krieg_board.specs.Order.{move_cmp}
use Rattle.krieg_board.specs.declared.men.Move.{Move}
use Rattle.krieg_words.specs.Words.{Said}
use Rattle.krieg_words.specs.declared.words.End.{End}
use Rattle.krieg_words.specs.declared.words.End.TheVariants.{Goes, Mate, Stalemate}
use Rattle.krieg_wordtext.specs.declared.line.Line.{Line}
use Rattle.krieg_wordtext.specs.declared.line.Line.TheVariants.{Opens, Illegal, Done, Heard, Early, Over}
use Rattle.krieg_theory.specs.Tree.{Try, Maybe, Nothing, Just}
use Rattle.krieg_game.specs.Keys.{Key}
use Rattle.krieg_plan.specs.Trees.{NodeTree, PlanTrees, first_edge_in, first_root_in}

-- He heard nothing yet; or the opening words, and the opponent is to move first; or it is his turn at a node; or the try of a node was
-- done, with these words, and he waits for the reply; or the opponent is mated; or he heard what the plan does not know.
pub data Stand : Type 0 where
  Unopened : Stand
  Opened : Said → Stand
  At : NodeTree → Stand
  Sent : NodeTree → Said → Stand
  Won : Stand
  Lost : Stand

-- ---- a node

-- the try of a node
abbrev pub node_try : NodeTree → Move
node_try (Try t other es) = t

-- the node to go on with where its try is illegal
abbrev pub node_other : NodeTree → Maybe Move Key
node_other (Try t other es) = other

-- the move is the try of the node
abbrev pub is_try : NodeTree → Move → Bool
is_try n m = is_eq (move_cmp m (node_try n))

-- at a node, or lost where the plan has none
abbrev pub at : Maybe Move Key → Stand
at Nothing = Lost
at (Just n) = At n

-- the words say mate
abbrev pub is_mated : End → Bool
is_mated Goes = false
is_mated Mate = true
is_mated Stalemate = false

-- after the try of a node was done, with these words
abbrev pub after_try : NodeTree → Said → Stand
after_try n w = if is_mated w.end then Won else Sent n w

-- ---- a line

-- After the opening words he is at their root where he is to move first, and waits for the opponent's move where he is not.
abbrev pub opened : Bool → PlanTrees → Stand → Said → Stand
opened own plan Unopened w = if own then at (first_root_in plan (w, None)) else Opened w
opened own plan _ w = Lost

-- After a try that was illegal he is at the node that its own node has for that.
abbrev pub refused : Stand → Move → Stand
refused (At n) m = if is_try n m then at (node_other n) else Lost
refused _ m = Lost

-- After a try that was done he waits for the reply, or has won.
abbrev pub done : Stand → Move → Said → Stand
done (At n) m w = if is_try n m then after_try n w else Lost
done _ m w = Lost

-- After a move of the opponent he is where root or edge leads by all words since his own last turn.
abbrev pub replied : PlanTrees → Stand → Said → Stand
replied plan (Opened opens) w = at (first_root_in plan (opens, Some w))
replied plan (Sent n own) w = at (first_edge_in n (own, w))
replied plan _ w = Lost

-- Where he stands after one line: a try out of turn or after the end changes nothing.
abbrev pub step : Bool → PlanTrees → Stand → Line → Stand
step own plan s (Opens w) = opened own plan s w
step own plan s (Illegal m) = refused s m
step own plan s (Done m w) = done s m w
step own plan s (Heard w) = replied plan s w
step own plan s (Early m) = s
step own plan s (Over m) = s

-- where he stands after these lines, one after another
abbrev pub follow_on : Bool → PlanTrees → Stand → List Line → Stand
follow_on own plan s [] = s
follow_on own plan s (l ∷ ls) = follow_on own plan (step own plan s l) ls

-- where he stands who heard these lines and nothing before them
abbrev pub follow : Bool → PlanTrees → List Line → Stand
follow own plan lines = follow_on own plan Unopened lines

-- what he tries there: the try of his node, at his turn
abbrev pub next_try : Stand → Option Move
next_try (At n) = Some (node_try n)
next_try _ = None
