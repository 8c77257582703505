-- What a judge finds, as the answer to a strategy.
use Rattle.std.proofs.Common.{◌≡◌, ℕ, ◌+◌, List, Ok, arith}
use Rattle.krieg_outcome.proofs.Common.{worst_text, JudgedSo}
use Rattle.krieg_strategy.specs.declared.strategy.Strategy.{Strategy}
use Rattle.krieg_strategyfile.specs.Strategies.{state_of}
use Rattle.krieg_judge.specs.Judgement.{IsJudgement, judge_cost as cost_of}
use Rattle.krieg_judge.specs.declared.judging.Judgement.{Judgement as Found}
use Rattle.krieg_judge.specs.declared.judging.Judgement.TheVariants.{Mates}

-- what a judge finds of a strategy whose plan mates within its claim
pub mates_in : (s : Strategy) (budget start left w : ℕ) (r : Found) (answer : List ℕ) → start ≡ budget → IsJudgement s r × (left + cost_of s ≡ start) → r ≡ Mates w → answer ≡ worst_text w → JudgedSo budget (state_of s) (Ok answer)
mates_in s budget start left w r answer all found is text =
    let worst = (found.0.mates_in w).0 is in
    let paid = found.1 in
    (omega arith, w, worst, text)
