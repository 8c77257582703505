-- A plan file as contracts see it, and what holds of those that have a text.
use Rattle.std.specs.Prelude.{◌≡◌, ◌≤◌, ℕ, Bool, true, false, not, List, [], ◌∷◌, Some, None, is_some, length}
use Rattle.std.specs.List.{All}
use Rattle.krieg_board.specs.Men.{is_same_side}
use Rattle.krieg_board.specs.Pos.{Pos}
use Rattle.krieg_board.specs.Hand.{same_hand}
use Rattle.krieg_board.specs.Validity.{IsValid}
use Rattle.krieg_board.specs.declared.men.Side.{Side}
use Rattle.krieg_fen.specs.declared.forms.TheConstants.{MOST_LISTED}
use Rattle.krieg_words.specs.declared.dialects.Dialect.{Dialect}
use Rattle.krieg_game.specs.Keys.{RootKey}
use Rattle.krieg_plan.specs.Trees.{PlanTrees, plan_size, plan_depth}
use Rattle.krieg_plan.specs.Order.{is_ordered_plan}
use Rattle.krieg_plan.specs.Plans.{plan_of}
use Rattle.krieg_plan.specs.declared.plan.PlanFile.{PlanFile}
use Rattle.krieg_plan.specs.declared.limits.TheConstants.{MOST_NODES, MOST_ON_PATH}
use Rattle.krieg_planfile.specs.NodeText.{IsToldIn, AreToldBranches}

-- the dialect, the player's side, the listed positions, the number of own moves that is claimed, and the plan
pub record PlanState : Type 0 where
  pub dialect : Dialect
  pub side : Side
  pub list : List Pos
  pub worst : ℕ
  pub plan : PlanTrees

-- what a plan file is to contracts
abbrev pub state_of : PlanFile → PlanState
state_of f = record { dialect = f.dialect; side = f.side; list = f.list.items; worst = f.worst; plan = plan_of f.plan }

-- the opponent is to move in the first listed position
abbrev pub waits : Side → List Pos → Bool
waits who [] = false
waits who (p ∷ ps) = not (is_same_side p.side who)

-- the hand of each position is that of the first one
abbrev pub AreAlike : Side → List Pos → Type 0
AreAlike who [] = Unit {0}
AreAlike who (p ∷ ps) = All (λ q. same_hand p q who ≡ true) ps

-- the opening words, and those of the opponent's move where there are any, can be told
abbrev pub IsToldRoot : Dialect → RootKey → Type 0
IsToldRoot d (opens, None) = IsToldIn d opens
IsToldRoot d (opens, Some heard) = IsToldIn d opens × IsToldIn d heard

-- every root and all that is below it can be told
abbrev pub AreToldRoots : Dialect → PlanTrees → Type 0
AreToldRoots d rs = AreToldBranches (IsToldRoot d) d rs

-- each root has words of an opponent's move, or none has
abbrev pub AreRootsOf : Bool → PlanTrees → Type 0
AreRootsOf waiting [] = Unit {0}
AreRootsOf waiting (r ∷ rs) = (is_some r.0.1 ≡ waiting) × AreRootsOf waiting rs

-- It can be written: it is within the limits, its positions have one hand, its words can be told, and its roots have words of
-- the opponent's move exactly where he is to move.
pub record CanBeWritten (s : PlanState) : Type 0 where
  pub some_listed : 1 ≤ length s.list
  pub few_listed : length s.list ≤ MOST_LISTED
  pub alike : AreAlike s.side s.list
  pub valid : All IsValid s.list
  pub least_worst : 1 ≤ s.worst
  pub most_worst : s.worst ≤ MOST_ON_PATH
  pub some_roots : 1 ≤ length s.plan
  pub size : plan_size s.plan ≤ MOST_NODES
  pub depth : plan_depth s.plan ≤ MOST_ON_PATH
  pub told : AreToldRoots s.dialect s.plan
  pub roots : AreRootsOf (waits s.side s.list) s.plan

-- It can be written, and its keys ascend.
pub record IsPlanFile (s : PlanState) : Type 0 where
  pub written : CanBeWritten s
  pub ordered : is_ordered_plan s.plan ≡ true
