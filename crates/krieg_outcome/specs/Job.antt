-- What `job` answers: what the other commands make of a made sheet and of a made session, in numbers.
use Rattle.std.specs.Prelude.{◌≡◌, ◌⊎◌, ℕ, ◌<◌, ◌≤◌, List, [], ◌∷◌, ◌++◌, length, Result, Ok, Err, codes}
use Rattle.krieg_board.specs.Pos.{Pos}
use Rattle.krieg_board.specs.declared.men.Side.TheVariants.{White}
use Rattle.krieg_board.specs.declared.limits.TheConstants.{MOST_UNITS}
use Rattle.krieg_text.specs.Decimals.{number_text}
use Rattle.krieg_text.specs.Writing.{Pieces, put_lines}
use Rattle.krieg_words.specs.declared.dialects.Dialect.TheVariants.{Wild16}
use Rattle.krieg_umpire.specs.Games.{judge}
use Rattle.krieg_belief.specs.Possible.{IsPossible}
use Rattle.krieg_plan.specs.Trees.{plan_size}
use Rattle.krieg_planfile.specs.PlanFiles.{PlanState}
use Rattle.krieg_make.specs.MadeSheets.{made_list, made_sheet}
use Rattle.krieg_make.specs.MadeSessions.{made_session}
use Rattle.krieg_outcome.specs.Solve.{none_line, IsBestFile, NoneMates, IsTooLarge, least_units, fresh_units}
use Rattle.krieg_outcome.specs.Check.{check_cost}
use Rattle.krieg_outcome.specs.VerdictCounts.{verdict_counts, verdicts_line}
use Rattle.krieg_outcome.specs.declared.refusal.Refusal.{Refusal}
use Rattle.krieg_outcome.specs.declared.refusal.Refusal.TheVariants.{BudgetSpent, PlanTooLarge}
use Rattle.krieg_outcome.specs.declared.commands.job.Finding.{Finding}
use Rattle.krieg_outcome.specs.declared.commands.job.Finding.TheVariants.{Plan, NoPlan}
use Rattle.krieg_outcome.specs.declared.commands.job.verdict_counts.VerdictCounts.{VerdictCounts}
use Rattle.krieg_outcome.specs.declared.limits.TheConstants.{JOB_MOVES}

-- ---- the lines

-- so many positions are listed, and so many are possible
abbrev pub listed_line : ℕ → Pieces
listed_line n = codes "listed " ∷ number_text n ∷ []

-- the line that says how many positions are possible
abbrev pub positions_line : ℕ → Pieces
positions_line n = codes "positions " ∷ number_text n ∷ []

-- the worst case of a plan, and how many nodes it has; and the worst case that a check finds
abbrev pub mates_line : ℕ → ℕ → Pieces
mates_line worst nodes = codes "mates " ∷ number_text worst ∷ codes " nodes " ∷ number_text nodes ∷ []

-- the line that says what the check found
abbrev pub checked_line : ℕ → Pieces
checked_line worst = codes "checked " ∷ number_text worst ∷ []

-- ---- the plan

-- the file is that of White's best plan for these positions
abbrev pub IsBest : List Pos → PlanState → Type 0
IsBest S f = IsBestFile Wild16 White S JOB_MOVES f

-- and it is not too large
pub record IsFound (S : List Pos) (f : PlanState) : Type 0 where
  pub best : IsBest S f
  pub fits : IsTooLarge f → ⊥

-- the worst case of its plan, which is what the check finds too
abbrev pub plan_lines : PlanState → List Pieces
plan_lines f = mates_line f.worst (plan_size f.plan) ∷ checked_line f.worst ∷ []

-- A search within the budget, and a check within the budget where there is a plan. Both tell the best plan, or that none mates.
abbrev pub Plans : List Pos → Result (List Pieces) Refusal → Type 0
Plans S (Ok told) =
    (least_units Wild16 White S JOB_MOVES ≤ MOST_UNITS)
    × (((f : PlanState) × IsFound S f × (check_cost f ≤ MOST_UNITS) × (told ≡ plan_lines f)) ⊎ (NoneMates Wild16 White S JOB_MOVES × (told ≡ none_line JOB_MOVES ∷ [])))
Plans S (Err PlanTooLarge) = (least_units Wild16 White S JOB_MOVES ≤ MOST_UNITS) × (f : PlanState) × IsBest S f × IsTooLarge f
Plans S (Err BudgetSpent) = (MOST_UNITS < fresh_units Wild16 White S JOB_MOVES) ⊎ ((f : PlanState) × IsFound S f × (MOST_UNITS < check_cost f))
Plans S (Err _) = ⊥

-- ---- the summary

-- how many positions the made sheet lists, how many are possible, what is told of the plan for these, and how the tries of the
-- made session are judged
unfoldable pub summary_text : ℕ → List Pos → List Pieces → List ℕ
summary_text number S told =
    let session = made_session number in
    put_lines [] (listed_line (length (made_list number)) ∷ positions_line (length S) ∷ told ++ verdicts_line (verdict_counts (judge session.start session.events)) ∷ [])

-- The answer is the summary, with the positions that are possible by the made sheet. The refusals are those of the search and the
-- check alone.
abbrev pub Summarizes : ℕ → Result (List ℕ) Refusal → Type 0
Summarizes number (Ok answer) = (S : List Pos) × IsPossible (made_sheet number) S × (told : List Pieces) × Plans S (Ok told) × (answer ≡ summary_text number S told)
Summarizes number (Err refusal) = (S : List Pos) × IsPossible (made_sheet number) S × Plans S (Err refusal)

-- ---- of the parts of the work

-- what is told of a plan that was found and checked, or that none was
abbrev pub found_lines : Finding → List Pieces
found_lines (Plan worst nodes checked) = mates_line worst nodes ∷ checked_line checked ∷ []
found_lines NoPlan = none_line JOB_MOVES ∷ []

abbrev pub summary_lines : ℕ → ℕ → Finding → VerdictCounts → List Pieces
summary_lines listed positions found counts = listed_line listed ∷ positions_line positions ∷ found_lines found ++ verdicts_line counts ∷ []
