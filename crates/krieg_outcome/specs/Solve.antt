-- What `solve` answers to a sheet: the best plan for all that is possible, or that no plan mates within the moves that were asked.
use Rattle.std.specs.Prelude.{◌≡◌, ◌⊎◌, ℕ, ◌<◌, ◌≤◌, Bool, true, false, List, [], ◌∷◌, length, Result, Ok, Err, codes}
use Rattle.krieg_board.specs.Pos.{Pos}
use Rattle.krieg_board.specs.declared.men.Side.{Side}
use Rattle.krieg_text.specs.Decimals.{number_text}
use Rattle.krieg_text.specs.Lines.{lines}
use Rattle.krieg_text.specs.Reading.{whole}
use Rattle.krieg_text.specs.Writing.{Pieces, put_lines}
use Rattle.krieg_words.specs.declared.dialects.Dialect.{Dialect}
use Rattle.krieg_theory.specs.Plans.{mates, IsCanonPlan}
use Rattle.krieg_costs.specs.Reach.{fresh}
use Rattle.krieg_costs.specs.Backing.{floor}
use Rattle.krieg_game.specs.Chess.{chess}
use Rattle.krieg_game.specs.Outset.{outset}
use Rattle.krieg_plan.specs.Trees.{PlanTrees, plan_size, plan_depth}
use Rattle.krieg_plan.specs.declared.limits.TheConstants.{MOST_NODES, MOST_ON_PATH}
use Rattle.krieg_planfile.specs.PlanFiles.{PlanState}
use Rattle.krieg_planfile.specs.PlanReading.{plan_at}
use Rattle.krieg_planfile.specs.PlanText.{plan_text}
use Rattle.krieg_outcome.specs.declared.limits.TheConstants.{MOST_INPUT}
use Rattle.krieg_outcome.specs.declared.refusal.Refusal.{Refusal}
use Rattle.krieg_outcome.specs.declared.refusal.Refusal.TheVariants.{BudgetSpent, PlanTooLarge}

-- the line that no plan mates within n moves
abbrev pub none_line : ℕ → Pieces
none_line n = codes "none " ∷ number_text n ∷ []

-- with a line feed
unfoldable pub none_text : ℕ → List ℕ
none_text n = put_lines [] (none_line n ∷ [])

-- the file of a plan with its worst case
abbrev pub file_of : Dialect → Side → List Pos → ℕ → PlanTrees → PlanState
file_of d who S worst plan = record { dialect = d; side = who; list = S; worst = worst; plan = plan }

-- it has more nodes, or more of them on a path, than a plan file may have
abbrev pub IsTooLarge : PlanState → Type 0
IsTooLarge f = (MOST_NODES < plan_size f.plan) ⊎ (MOST_ON_PATH < plan_depth f.plan)

module _ (d : Dialect) (who : Side) (S : List Pos) where
  -- the plan mates from each of the positions, against every reply, within k own moves
  abbrev pub mates_all : PlanTrees → ℕ → Bool
  mates_all plan k = mates (chess d) (outset d who) plan S k

  -- The file is that of the best plan within n own moves: it is in the dialect, for the side, and lists the positions. The
  -- plan mates from each of them within the claim, which is its worst case, and no plan has a smaller one. It is the
  -- canonical plan, so there is one such file.
  pub record IsBestFile (n : ℕ) (f : PlanState) : Type 0 where
    pub dialect : f.dialect ≡ d
    pub side : f.side ≡ who
    pub list : f.list ≡ S
    pub mates : mates_all f.plan f.worst ≡ true
    pub within : f.worst ≤ n
    pub least : (plan : PlanTrees) (k : ℕ) → mates_all plan k ≡ true → f.worst ≤ k
    pub canonical : IsCanonPlan (chess d) (outset d who) f.plan S

  -- no plan mates within n own moves
  abbrev pub NoneMates : ℕ → Type 0
  NoneMates n = (plan : PlanTrees) → mates_all plan n ≡ false

  -- what a search for at most n moves must take, and what it takes at most
  abbrev pub least_units : ℕ → ℕ
  least_units n = floor (chess d) (outset d who) n S

  -- what it takes at most
  abbrev pub fresh_units : ℕ → ℕ
  fresh_units n = fresh (chess d) (outset d who) n S

  -- the answer is the text of the best file, is read as that file again, and may be an input
  pub record IsBestText (n : ℕ) (answer : List ℕ) : Type 0 where
    pub file : PlanState
    pub best : IsBestFile n file
    pub text : answer ≡ plan_text file
    pub again : whole plan_at (lines answer) ≡ Ok file
    pub short : length answer ≤ MOST_INPUT

  -- the text of the best file, or the line that no plan mates
  abbrev pub Tells : ℕ → List ℕ → Type 0
  Tells n answer = IsBestText n answer ⊎ (NoneMates n × (answer ≡ none_text n))

  -- A search tells its answer, or that the best file is too large for a text, where the budget is at least what it must take;
  -- the budget is spent only where it is less than a search may take.
  abbrev pub Searched : ℕ → ℕ → Result (List ℕ) Refusal → Type 0
  Searched n budget (Ok answer) = (least_units n ≤ budget) × Tells n answer
  Searched n budget (Err PlanTooLarge) = (least_units n ≤ budget) × (f : PlanState) × IsBestFile n f × IsTooLarge f
  Searched n budget (Err BudgetSpent) = budget < fresh_units n
  Searched n budget (Err _) = ⊥
