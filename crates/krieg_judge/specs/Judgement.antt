-- What a judge answers.
use Rattle.std.specs.Prelude.{◌≡◌, ◌↔◌, ℕ, ◌≤◌, false, nat_le, Option, Some, None, map, if◌then◌else◌}
use Rattle.krieg_theory.specs.Plans.{mates, IsWorst}
use Rattle.krieg_game.specs.Chess.{chess}
use Rattle.krieg_game.specs.Outset.{outset}
use Rattle.krieg_strategy.specs.Roots.{root_of}
use Rattle.krieg_strategy.specs.Values.{plan_in}
use Rattle.krieg_strategy.specs.declared.strategy.Strategy.{Strategy}
use Rattle.krieg_judge.specs.JudgeCost as cost
use Rattle.krieg_judge.specs.declared.judging.Judgement.{Judgement}
use Rattle.krieg_judge.specs.declared.judging.Judgement.TheVariants.{Mates, Fails}

-- The strategy mates within w just where w is the worst case of its plan over the listed positions, and is not above
-- the number that the strategy claims. It fails just where the plan does not mate within that number.
pub record IsJudgement (s : Strategy) (r : Judgement) : Type 0 where
  pub mates_in : (w : ℕ) → (r ≡ Mates w)
      ↔ (IsWorst (chess s.dialect) (outset s.dialect s.side) (plan_in s) s.list.items w × (w ≤ s.worst))
  pub fails : (r ≡ Fails) ↔ (mates (chess s.dialect) (outset s.dialect s.side) (plan_in s) s.list.items s.worst ≡ false)

-- what the judgement takes
abbrev pub judge_cost : Strategy → ℕ
judge_cost s =
    cost.judge_cost (chess s.dialect) (outset s.dialect s.side) s.nodes (map root_of s.roots.items) s.list.items

-- the answer by what was found, against the number that the strategy claims
abbrev pub judged : ℕ → Option ℕ → Judgement
judged worst None = Fails
judged worst (Some w) = if nat_le w worst then Mates w else Fails
