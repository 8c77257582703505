-- What `share` answers to a sheet: the plan of `find` as a strategy, or that no plan mates within the moves that were asked.
use Rattle.std.specs.Prelude.{◌≡◌, ◌⊎◌, ℕ, ◌<◌, ◌≤◌, List, length, Result, Ok, Err}
use Rattle.krieg_board.specs.Pos.{Pos}
use Rattle.krieg_board.specs.declared.men.Move.{Move}
use Rattle.krieg_board.specs.declared.men.Side.{Side}
use Rattle.krieg_text.specs.Lines.{lines}
use Rattle.krieg_text.specs.Reading.{whole}
use Rattle.krieg_words.specs.declared.dialects.Dialect.{Dialect}
use Rattle.krieg_game.specs.Keys.{Key, RootKey}
use Rattle.krieg_strategy.specs.Nodes.{Node}
use Rattle.krieg_strategyfile.specs.Strategies.{StrategyState}
use Rattle.krieg_strategyfile.specs.StrategyFormat.{strategy_at}
use Rattle.krieg_strategyfile.specs.StrategyText.{strategy_text}
use Rattle.krieg_share.specs.Answers.{IsBestStrategy, IsLargeStrategy}
use Rattle.krieg_outcome.specs.Solve.{NoneMates, none_text, fresh_units}
use Rattle.krieg_outcome.specs.declared.limits.TheConstants.{MOST_INPUT}
use Rattle.krieg_outcome.specs.declared.refusal.Refusal.{Refusal}
use Rattle.krieg_outcome.specs.declared.refusal.Refusal.TheVariants.{BudgetSpent, PlanTooLarge}

-- a strategy by its parts
abbrev pub strategy_of : Dialect → Side → List Pos → ℕ → List (Node Move Key) → List (RootKey × ℕ) → StrategyState
strategy_of d who S worst nodes roots = record { dialect = d; side = who; list = S; worst = worst; nodes = nodes; roots = roots }

module _ (d : Dialect) (who : Side) (S : List Pos) where
  -- The strategy is that of the best plan within n own moves: it is in the dialect, for the side, and lists the positions. It unfolds
  -- to the canonical plan, whose worst case it states, with one node for each set of positions that is reached. So there is one.
  pub record IsShared (n : ℕ) (s : StrategyState) : Type 0 where
    pub dialect : s.dialect ≡ d
    pub side : s.side ≡ who
    pub list : s.list ≡ S
    pub best : IsBestStrategy d who S n s.worst s.nodes s.roots

  -- the answer is the text of that strategy, is read as it again, and may be an input
  pub record IsSharedText (n : ℕ) (answer : List ℕ) : Type 0 where
    pub strategy : StrategyState
    pub shared : IsShared n strategy
    pub text : answer ≡ strategy_text strategy
    pub again : whole strategy_at (lines answer) ≡ Ok strategy
    pub short : length answer ≤ MOST_INPUT

  -- that text, or the line that no plan mates
  abbrev pub TellsShared : ℕ → List ℕ → Type 0
  TellsShared n answer = IsSharedText n answer ⊎ (NoneMates d who S n × (answer ≡ none_text n))

  -- A search tells its answer, or that the best plan has too many nodes, edges or roots for a strategy; the budget is spent only where
  -- it is less than a search may take.
  abbrev pub SharedBy : ℕ → ℕ → Result (List ℕ) Refusal → Type 0
  SharedBy n budget (Ok answer) = TellsShared n answer
  SharedBy n budget (Err PlanTooLarge) = IsLargeStrategy d who S n
  SharedBy n budget (Err BudgetSpent) = budget < fresh_units d who S n
  SharedBy n budget (Err _) = ⊥
