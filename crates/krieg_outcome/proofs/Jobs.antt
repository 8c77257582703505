-- What a search and a check find, as the lines of a summary.
use Rattle.std.proofs.Common.{◌≡◌, inl, inr, ℕ, zero, suc, ◌+◌, ◌≤◌, List, [], ◌∷◌, length, None, Ok, Err, ap, subst, ◌∙◌, arith}
use Rattle.std.specs.Prelude.{◌<◌}
use Rattle.krieg_outcome.proofs.Common.{Pos, Side, White, MOST_UNITS, Dialect, Wild16, put_lines, MOST_LISTED, judge, made_list, made_sheet, made_session, set_of, position_lt, SheetState, new_sheet, IsSheet, IsPossible, HaveOneHand, IsFirstExcess, IsWorst, chess, outset, PlanTrees, plan_size, PlanFile, MOST_NODES, PlanState, Charges, IsOneTurn, IsVerdict, IsBest, IsFit, SearchStop, of_search, of_part, Decides, file_of, least_units, IsTooLarge, Searched, check_cost, verdict_counts, IsFound, mates_line, checked_line, found_lines, summary_lines, summary_text, Plans, Summarizes, Finding, Plan, VerdictCounts, JOB_MOVES}
use Rattle.krieg_pack.proofs.Counts.{as_set_le}
use Rattle.krieg_belief.proofs.Prefixes.{behind_entries, all_within, excess_not_within, sheet_le}
use Rattle.krieg_planfile.specs.PlanFiles.{state_of}
use Rattle.krieg_checker.specs.Verdict.{check_cost as cost_of}
use Rattle.krieg_checker.specs.declared.plan_check.PlanVerdict.{PlanVerdict}
use Rattle.krieg_checker.specs.declared.plan_check.PlanVerdict.TheVariants.{Mates}
use Rattle.krieg_parting.specs.declared.stop.PartStop.{PartStop as CheckStop}
use Rattle.krieg_parting.specs.declared.stop.PartStop.TheVariants as check
use Rattle.krieg_search.specs.declared.stop.SearchStop.TheVariants as search
use Rattle.krieg_outcome.proofs.BestFiles.{same_turn}
use Rattle.krieg_outcome.proofs.Searching.{best_file}

-- ---- the possible positions

-- a sheet that says no more than its list leaves no more possible than it may list
few : (d : Dialect) (who : Side) (list : List Pos) (line : ℕ) → IsSheet (new_sheet d who list None) → IsFirstExcess (new_sheet d who list None) MOST_LISTED line → ⊥
unfolding set_of
few d who list line sheet excess = excess_not_within (new_sheet d who list None) MOST_LISTED line excess (all_within (new_sheet d who list None) MOST_LISTED sheet listed behind)
  where
    listed : length (set_of list) ≤ MOST_LISTED
    listed = omega (arith, as_set_le position_lt list, sheet_le (new_sheet d who list None) sheet)

    behind : (n : ℕ) → n ≤ 0 → length (behind_entries (new_sheet d who list None) n) ≤ MOST_LISTED
    behind zero le = listed
    behind (suc n) le = absurd (omega arith)

pub few_listed : (s : SheetState) (line : ℕ) → (list : List Pos) × (s ≡ new_sheet Wild16 White list None) → IsSheet s → IsFirstExcess s MOST_LISTED line → ⊥
few_listed s line (list, is) sheet excess = few Wild16 White list line (subst IsSheet is sheet) (subst (λ s. IsFirstExcess s MOST_LISTED line) is excess)

pub one_turn_among : (who : Side) (S : List Pos) → HaveOneHand who S → IsOneTurn S
one_turn_among who S hand = record { same_side = same_turn who S hand }

-- ---- the plan

module _ (S : List Pos) where
  -- a search that stops
  pub search_stopped : {X : Type 0} (view : X → List ℕ) (stop : SearchStop) → Decides view (Err (of_search stop)) (Searched Wild16 White S JOB_MOVES MOST_UNITS) → Decides found_lines (Err (of_search stop)) (Plans S)
  search_stopped view search.Spent h = inl h
  search_stopped view search.Large h = h
  search_stopped view search.NoMemory h = tt

  module _ (worst : ℕ) (plan : PlanTrees) (best : IsBest Wild16 White S JOB_MOVES worst plan) (fit : IsFit MOST_NODES plan) where
    abbrev best_of : PlanState
    best_of = file_of Wild16 White S worst plan

    not_large : IsTooLarge best_of → ⊥
    not_large (inl more) = let size = fit.size in omega (arith, more, size)
    not_large (inr more) = let depth = fit.depth in omega (arith, more, depth)

    is_found : IsFound S best_of
    is_found = record { best = best_file Wild16 White S JOB_MOVES worst plan best; fits = not_large }

    abbrev Finds : PlanState → ℕ → Type 0
    Finds f w = IsWorst (chess f.dialect) (outset f.dialect f.side) f.plan f.list w × (w ≤ f.worst)

    module _ (f : PlanFile) (is : state_of f ≡ best_of) where
      -- the check finds the number that the search claims
      pub plan_found : (nodes checked start left : ℕ) (r : PlanVerdict) → least_units Wild16 White S JOB_MOVES ≤ MOST_UNITS → nodes ≡ plan_size plan → start ≡ MOST_UNITS → IsVerdict f r × (left + cost_of f ≡ start) → r ≡ Mates checked →
          Plans S (Ok (found_lines (Plan worst nodes checked)))
      plan_found nodes checked start left r paid size had all mated =
          let judged = subst (λ f. Finds f checked) is ((all.0.mates_in checked).0 mated) in
          let charged = all.1 in
          let enough = subst (λ f. check_cost f ≤ MOST_UNITS) is (omega (arith, charged, had)) in
          let least = best.least plan checked judged.0.mates_within in
          let within = judged.1 in
          let same : checked ≡ worst = omega (arith, least, within) in (
            paid,
            inl (best_of, is_found, enough, ap (λ n. mates_line worst n ∷ checked_line checked ∷ []) size ∙ ap (λ w. mates_line worst (plan_size plan) ∷ checked_line w ∷ []) same),
          )

      -- a check that stops
      pub check_stopped : (start left : ℕ) (stop : CheckStop) → start ≡ MOST_UNITS → Charges (Err stop) (IsVerdict f) (cost_of f) start left → Decides found_lines (Err (of_part stop)) (Plans S)
      check_stopped start left check.Spent had less =
          inr (best_of, is_found, subst (λ f. MOST_UNITS < check_cost f) is (omega (arith, less, had)))
      check_stopped start left check.NoMemory had h = tt

-- ---- the summary

-- what is written is the summary of the made inputs
pub summed : (number n : ℕ) (s : SheetState) (list S : List Pos) (found : Finding) (counts : VerdictCounts) (answer : List ℕ) → s ≡ made_sheet number → list ≡ s.list → n ≡ length S → IsPossible s S → Plans S (Ok (found_lines found)) →
    (let session = made_session number in counts ≡ verdict_counts (judge session.start session.events)) → answer ≡ put_lines [] (summary_lines (length list) n found counts) → Summarizes number (Ok answer)
unfolding summary_text
summed number n s list S found counts answer is listed many possible plans judged text =
    let session = made_session number in
    let log = judge session.start session.events in
    let length_is : length list ≡ length (made_list number) = ap length listed ∙ ap (λ (s : SheetState). length s.list) is in (
      S,
      subst (λ s. IsPossible s S) is possible,
      found_lines found,
      plans,
      text
          ∙ ap (λ k. put_lines [] (summary_lines k n found counts)) length_is
          ∙ ap (λ k. put_lines [] (summary_lines (length (made_list number)) k found counts)) many
          ∙ ap (λ (t : VerdictCounts). put_lines [] (summary_lines (length (made_list number)) (length S) found t)) judged,
    )
