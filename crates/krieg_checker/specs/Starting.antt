-- What comes of the listed positions before the first own turn, and what the walk of the roots takes.
use Rattle.std.specs.Prelude.{◌≡◌, ℕ, Bool, Option, Some, None, List, map, if◌then◌else◌}
use Rattle.std.specs.List.{list_all, list_any}
use Rattle.krieg_board.specs.Pos.{Pos}
use Rattle.krieg_board.specs.declared.men.Side.{Side}
use Rattle.krieg_words.specs.Words.{Said}
use Rattle.krieg_words.specs.declared.dialects.Dialect.{Dialect}
use Rattle.krieg_theory.specs.Plans.{is_over}
use Rattle.krieg_costs.specs.Sums.{total}
use Rattle.krieg_game.specs.Keys.{Key, RootKey}
use Rattle.krieg_game.specs.Chess.{chess}
use Rattle.krieg_game.specs.Outset.{outset}
use Rattle.krieg_game.specs.Classes.{class_pair}
use Rattle.krieg_game.specs.ClassLaws.{opening_sets}
use Rattle.krieg_plan.specs.Trees.{PlanTrees, first_root_in}
use Rattle.krieg_checker.specs.Needs.{all_won_other}
use Rattle.krieg_checker.specs.Walk.{other_cost}
use Rattle.krieg_checker.specs.declared.start.FirstTurn.{FirstTurn}

-- what is heard before the first own turn: no move where the own turn comes first
abbrev pub heard : Bool → Said → Option Said
heard own reply = if own then None else Some reply

-- a class as an opening set
abbrev pub heard_of : Bool → Key × List Pos → RootKey × List Pos
heard_of own c = ((c.0.0, heard own c.0.1), c.1)

-- each opening that occurs, with its set, and whether some listed position is over
pub record IsFirstTurn (d : Dialect) (who : Side) (S : List Pos) (r : FirstTurn) : Type 0 where
  pub over_part : r.over ≡ list_any (is_over (chess d) (outset d who)) S
  pub classes_part : map (heard_of r.own) (map class_pair r.classes.items) ≡ opening_sets d who S

-- each opening set is won at the root with its key
abbrev pub roots_won : Dialect → PlanTrees → List (RootKey × List Pos) → ℕ → Bool
roots_won d plan cs k = list_all (λ c. all_won_other (chess d) (first_root_in plan c.0) c.1 k) cs

abbrev pub roots_cost : Dialect → PlanTrees → List (RootKey × List Pos) → ℕ
roots_cost d plan cs = total (λ c. other_cost (chess d) (first_root_in plan c.0) c.1) cs
