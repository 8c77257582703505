-- What the try of a node makes of a set.
use Rattle.std.specs.Prelude.{◌≡◌, ◌≤◌, ℕ, ◌+◌, ◌&&◌, [], List, Option, map}
use Rattle.krieg_board.specs.Pos.{Pos}
use Rattle.krieg_board.specs.declared.men.Move.{Move}
use Rattle.krieg_words.specs.declared.dialects.Dialect.{Dialect}
use Rattle.krieg_theory.specs.Split.{refused}
use Rattle.krieg_costs.specs.Cost.{made}
use Rattle.krieg_costs.specs.Block.{lives_in_some}
use Rattle.krieg_game.specs.Chess.{chess}
use Rattle.krieg_game.specs.Classes.{class_pair}
use Rattle.krieg_plan.specs.Trees.{NodeTree, edges_in}
use Rattle.krieg_checker.specs.Needs.{within, Tells, own_need, all_won, all_won_other}
use Rattle.krieg_checker.specs.Walk.{node_cost, other_cost, try_in, other_in, classes_won, classes_cost}
use Rattle.krieg_checker.specs.declared.node_try.NodeTry.{NodeTry}
use Rattle.krieg_checker.specs.declared.walk.TheConstants.{MOST_COUNTED}

-- The members that refuse it. Where the classes are won at their edges within c moves, a set that has members is won
-- by the node within k just where these are, and k is enough for the others. And what the node takes beside the try.
pub record IsNodeTry (d : Dialect) (n : NodeTree) (B : List Pos) (r : NodeTry) : Type 0 where
  pub refused_part : r.refused ≡ refused (chess d) B (try_in n)
  pub won_part : (B ≡ [] → ⊥) → (c : Option ℕ) → Tells c (classes_won d (edges_in n) (map class_pair r.classes.items)) → (k : ℕ) → k ≤ MOST_COUNTED →
      all_won (chess d) n B k ≡ (all_won_other (chess d) (other_in n) r.refused k && within (own_need r.fails c) k)
  pub cost_part : node_cost (chess d) n B ≡ made (chess d) B (try_in n) + (other_cost (chess d) (other_in n) r.refused + classes_cost d (edges_in n) (map class_pair r.classes.items))

-- where no edge follows nothing is walked, and it fails where in some member it is legal and does not mate
pub record IsEnd (d : Dialect) (B : List Pos) (t : Move) (r : NodeTry) : Type 0 where
  pub refused_part : r.refused ≡ refused (chess d) B t
  pub fails_part : r.fails ≡ lives_in_some (chess d) B t
  pub classes_part : r.classes.items ≡ []
