-- What a search finds, as the answer to a sheet.
use Rattle.std.proofs.Common.{◌≡◌, ℕ, suc, ◌≤◌, Bool, true, false, List, length, Result, Ok, Err, refl, ap, subst, arith}
use Rattle.std.specs.Prelude.{MatchBool}
use Rattle.std.proofs.lemmas.List.{take_all}
use Rattle.krieg_outcome.proofs.Common.{Pos, Side, Dialect, Line, SheetState, IsPossible, AllWithin, PlanTrees, MOST_NODES, IsBest, IsAnswer, IsCharged, IsChargedAtMost, Answer, SearchStop, of_search, Decides, SearchedBy, file_of, IsBestFile, Searched, Tells}
use Rattle.krieg_pack.proofs.PositionSets.{same_members}
use Rattle.krieg_search.specs.declared.stop.SearchStop.TheVariants as search

-- a sheet has one list of possible positions
pub one_list : (s : SheetState) (S T : List Pos) → IsPossible s S → IsPossible s T → S ≡ T
one_list s S T a b =
    same_members S T a.ascending b.ascending (λ p i. (b.exact p).1 ((a.exact p).0 i)) (λ p i. (a.exact p).1 ((b.exact p).0 i))

-- where a search may stop at all, no more is possible than the limit
pub few_possible : (s : SheetState) (limit : ℕ) (S : List Pos) → AllWithin limit s → IsPossible s S → length S ≤ limit
few_possible s limit S within possible =
    let (ps, is, few) = within (suc (length s.entries)) (omega arith) in
    let all : IsPossible s ps = subst (λ (ls : List Line). IsPossible (record { dialect = s.dialect; side = s.side; list = s.list; opens = s.opens; entries = ls }) ps) (take_all (length s.entries) s.entries (omega arith)) is in
    omega (arith, few, ap (λ (ps : List Pos). length ps) (one_list s S ps possible all))

-- the best plan with its worst case is the best file
pub best_file : (d : Dialect) (who : Side) (S : List Pos) (n w : ℕ) (plan : PlanTrees) → IsBest d who S n w plan → IsBestFile d who S n (file_of d who S w plan)
best_file d who S n w plan b = record { dialect = refl; side = refl; list = refl; mates = b.worst_case.mates_within; within = b.within; least = b.least; canonical = b.canonical }

module _ (d : Dialect) (who : Side) (S : List Pos) (n budget start left : ℕ) (same : start ≡ budget) where
  pub stop_told : {X : Type 0} (view : X → List ℕ) (stop : SearchStop) → IsAnswer d who S n MOST_NODES (Err stop) → IsCharged d who S n (Err stop) start left → Decides view (Err (of_search stop)) (Searched d who S n budget)
  stop_told view search.Spent answer units = omega (arith, same, units.0)
  stop_told view search.Large answer units = (omega (arith, same, units.at_least), file_of d who S answer.worst answer.plan, best_file d who S n answer.worst answer.plan answer.best, answer.large)
  stop_told view search.NoMemory answer units = tt

  -- what a search takes that may cut tries, or one that cuts none
  abbrev ChargedBy : Bool → Result Answer SearchStop → Type 0
  ChargedBy cut found = MatchBool cut (IsChargedAtMost d who S n found start left) (IsCharged d who S n found start left)

  pub stop_told_by : {X : Type 0} (view : X → List ℕ) (cut : Bool) (stop : SearchStop) → IsAnswer d who S n MOST_NODES (Err stop) → ChargedBy cut (Err stop) → Decides view (Err (of_search stop)) (SearchedBy cut d who S n budget)
  stop_told_by view false stop answer units = stop_told view stop answer units
  stop_told_by view true search.Spent answer units = omega (arith, same, units.0)
  stop_told_by view true search.Large answer units = (file_of d who S answer.worst answer.plan, best_file d who S n answer.worst answer.plan answer.best, answer.large)
  stop_told_by view true search.NoMemory answer units = tt

  pub answer_told_by : (cut : Bool) (found : Answer) (answer : List ℕ) → ChargedBy cut (Ok found) → Tells d who S n answer → SearchedBy cut d who S n budget (Ok answer)
  answer_told_by false found answer units tells = (omega (arith, same, units.at_least), tells)
  answer_told_by true found answer units tells = tells
