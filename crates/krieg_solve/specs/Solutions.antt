-- What a search for a plan answers, and what it takes.
use Rattle.std.specs.Prelude.{◌≡◌, ℕ, ◌+◌, ◌<◌, ◌≤◌, Bool, true, false, List, Result, Ok, Err, ⊤}
use Rattle.krieg_board.specs.Pos.{Pos}
use Rattle.krieg_board.specs.declared.men.Side.{Side}
use Rattle.krieg_words.specs.declared.dialects.Dialect.{Dialect}
use Rattle.krieg_theory.specs.Plans.{mates, IsWorst, IsCanonPlan, can_plan}
use Rattle.krieg_costs.specs.Reach.{fresh}
use Rattle.krieg_game.specs.Chess.{chess}
use Rattle.krieg_game.specs.Outset.{outset}
use Rattle.krieg_plan.specs.Trees.{PlanTrees}
use Rattle.krieg_plan.specs.Plans.{plan_of}
use Rattle.krieg_solve.specs.declared.best_plan.Answer.{Answer}
use Rattle.krieg_solve.specs.declared.best_plan.Answer.TheVariants.{Mates, None}
use Rattle.krieg_search.specs.declared.stop.SearchStop.{SearchStop}
use Rattle.krieg_search.specs.declared.stop.SearchStop.TheVariants.{Spent, Large, NoMemory}
use Rattle.krieg_search.specs.Decision.{IsBetween, IsAccount}
use Rattle.krieg_solve.specs.BuiltPlan.{IsFit, IsUnfit}

module _ (d : Dialect) (who : Side) (S : List Pos) (n : ℕ) where
  -- The plan is the canonical one, and that is its worst case. It mates within n, and no plan mates within fewer.
  pub record IsBest (worst : ℕ) (plan : PlanTrees) : Type 0 where
    pub canonical : IsCanonPlan (chess d) (outset d who) plan S
    pub worst_case : IsWorst (chess d) (outset d who) plan S worst
    pub within : worst ≤ n
    pub least : (other : PlanTrees) (k : ℕ) → mates (chess d) (outset d who) other S k ≡ true → worst ≤ k

  -- no plan mates within n: not each opening set can be won
  pub record NoneMates : Type 0 where
    pub no_plan : (plan : PlanTrees) → mates (chess d) (outset d who) plan S n ≡ false
    pub cannot : can_plan (chess d) (outset d who) n S ≡ false

  -- the canonical plan mates within n, and is too large
  pub record IsLarge (nodes : ℕ) : Type 0 where
    pub plan : PlanTrees
    pub worst : ℕ
    pub best : IsBest worst plan
    pub large : IsUnfit nodes plan

  -- What each answer says. Since no two of the first three can hold at once, each comes exactly where it holds and
  -- nothing was wanting.
  abbrev pub IsAnswer : ℕ → Result Answer SearchStop → Type 0
  IsAnswer nodes (Ok (Mates worst plan)) = IsBest worst (plan_of plan) × IsFit nodes (plan_of plan)
  IsAnswer nodes (Ok None) = NoneMates
  IsAnswer nodes (Err Large) = IsLarge nodes
  IsAnswer nodes (Err Spent) = ⊤
  IsAnswer nodes (Err NoMemory) = ⊤

  -- An answer, or that the plan is too large, takes at least the floor and at most what is fresh. Spent comes only where
  -- fewer units are left than are fresh. Spent and want of memory take none.
  abbrev pub IsCharged : Result Answer SearchStop → ℕ → ℕ → Type 0
  IsCharged (Ok a) had has = IsBetween d who S n had has
  IsCharged (Err Large) had has = IsBetween d who S n had has
  IsCharged (Err Spent) had has = (had < fresh (chess d) (outset d who) n S) × (has ≡ had)
  IsCharged (Err NoMemory) had has = has ≡ had

  -- and there is an account of it: each set that was searched with some number of moves stands there once, with what it took
  abbrev pub HasAccount : Result Answer SearchStop → ℕ → ℕ → Type 0
  HasAccount (Ok a) had has = IsAccount d who S n false had has
  HasAccount (Err Large) had has = IsAccount d who S n false had has
  HasAccount (Err Spent) had has = ⊤
  HasAccount (Err NoMemory) had has = ⊤

  -- What a search takes that may cut tries: at most what its account says, so at most what is fresh, and there is no floor.
  -- Spent comes only where fewer units are left than are fresh. Spent and want of memory take none.
  abbrev pub IsChargedAtMost : Result Answer SearchStop → ℕ → ℕ → Type 0
  IsChargedAtMost (Ok a) had has = (has ≤ had) × (had ≤ has + fresh (chess d) (outset d who) n S)
  IsChargedAtMost (Err Large) had has = (has ≤ had) × (had ≤ has + fresh (chess d) (outset d who) n S)
  IsChargedAtMost (Err Spent) had has = (had < fresh (chess d) (outset d who) n S) × (has ≡ had)
  IsChargedAtMost (Err NoMemory) had has = has ≡ had

  -- what a search takes, whether it may cut tries or not: both of the above follow
  abbrev pub Takes : Bool → Result Answer SearchStop → ℕ → ℕ → Type 0
  Takes cut (Ok a) had has = IsAccount d who S n cut had has
  Takes cut (Err Large) had has = IsAccount d who S n cut had has
  Takes cut (Err Spent) had has = (had < fresh (chess d) (outset d who) n S) × (has ≡ had)
  Takes cut (Err NoMemory) had has = has ≡ had
