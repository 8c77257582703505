-- `judge` on one page: what is written of a strategy is the worst case of the plan that it unfolds to.
use Rattle.std.specs.Prelude.{◌≡◌, ℕ, List, Option, Some, Ok}
use Rattle.std.specs.Io.KnownBytes.{Appends}
use Rattle.krieg_text.specs.Lines.{lines}
use Rattle.krieg_text.specs.Reading.{whole}
use Rattle.krieg_strategyfile.specs.Strategies.{StrategyState}
use Rattle.krieg_strategyfile.specs.StrategyFormat.{strategy_at}
use Rattle.krieg_args.specs.declared.command.Command.{Command}
use Rattle.krieg_args.specs.declared.command.Command.TheVariants.{Judge}
use Rattle.krieg_cli.specs.World.{Stream, World}
use Rattle.krieg_cli.specs.Input.{WasRead}
use Rattle.krieg_outcome.specs.Check.{worst_text}
use Rattle.krieg_outcome.specs.Judge.{IsWorstOf}

-- The input was the text of this strategy, and the answer is the worst case of its plan over the positions that it lists, which is
-- at most the number that it claims.
pub record WritesWorst (s : StrategyState) (before after : World) : Type 0 where
  pub text : List ℕ
  pub was_read : WasRead before.input after.input text
  pub spelled : whole strategy_at (lines text) ≡ Ok s
  pub worst : ℕ
  pub is_worst : IsWorstOf s worst
  pub written : Appends before.out.bytes after.out.bytes (worst_text worst)

-- status 0 is that answer, with the words of `judge`, and err stays as it was
abbrev pub JudgesStrategies : Option Command → ℕ → World → World → Stream → Stream → Type 0
JudgesStrategies asked code before after err err' =
    (budget : ℕ) → asked ≡ Some (Judge budget) → code ≡ 0 → (s : StrategyState) × WritesWorst s before after × (err' ≡ err)
