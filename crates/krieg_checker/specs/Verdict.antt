-- What a check answers.
use Rattle.std.specs.Prelude.{◌≡◌, ◌↔◌, ℕ, ◌≤◌, Bool, true, false, nat_le, Option, Some, None, if◌then◌else◌, List}
use Rattle.krieg_board.specs.Pos.{Pos}
use Rattle.krieg_pack.specs.Members.{set_of}
use Rattle.krieg_theory.specs.Plans.{mates, IsWorst}
use Rattle.krieg_game.specs.Chess.{chess}
use Rattle.krieg_game.specs.Outset.{outset}
use Rattle.krieg_plan.specs.Plans.{plan_of}
use Rattle.krieg_plan.specs.declared.plan.PlanFile.{PlanFile}
use Rattle.krieg_checker.specs.CheckCost as cost
use Rattle.krieg_checker.specs.declared.plan_check.PlanClaim.{PlanClaim}
use Rattle.krieg_checker.specs.declared.plan_check.PlanVerdict.{PlanVerdict}
use Rattle.krieg_checker.specs.declared.plan_check.PlanVerdict.TheVariants.{Mates, Fails}

-- The plan mates within w just where w is its worst case over the listed positions, and is not above the number
-- that the file claims. It fails just where it does not mate within that number.
pub record IsVerdict (f : PlanFile) (r : PlanVerdict) : Type 0 where
  pub mates_in : (w : ℕ) → (r ≡ Mates w) ↔ (IsWorst (chess f.dialect) (outset f.dialect f.side) (plan_of f.plan) f.list.items w × (w ≤ f.worst))
  pub fails : (r ≡ Fails) ↔ (mates (chess f.dialect) (outset f.dialect f.side) (plan_of f.plan) f.list.items f.worst ≡ false)

-- what a file says of its listed positions, and their set
pub record AreParts (f : PlanFile) (said : PlanClaim) (set : List Pos) : Type 0 where
  pub dialect_part : said.dialect ≡ f.dialect
  pub side_part : said.side ≡ f.side
  pub set_part : set ≡ set_of f.list.items
  pub worst_part : said.worst ≡ f.worst
  pub plan_part : said.plan.now ≡ f.plan

-- what the check of a file takes
abbrev pub check_cost : PlanFile → ℕ
check_cost f = cost.check_cost (chess f.dialect) (outset f.dialect f.side) (plan_of f.plan) f.list.items

-- the answer by what was found, against the number that the file claims
abbrev pub verdict : ℕ → Bool → Option ℕ → PlanVerdict
verdict worst true need = Fails
verdict worst false None = Fails
verdict worst false (Some w) = if nat_le w worst then Mates w else Fails
