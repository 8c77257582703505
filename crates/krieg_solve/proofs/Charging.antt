-- What an answer takes, by the account of the search.
use Rattle.std.proofs.Common.{◌≡◌, ℕ, ◌<◌, Bool, true, false, List, Result, Ok, Err, refl, subst, arith}
use Rattle.std.specs.Result.{IsErrAnd}
use Rattle.krieg_solve.proofs.Common.{Pos, Side, Dialect, cost_of, chess, outset, Answer, SearchStop, Large, IsDecision, IsCharged, HasAccount, IsChargedAtMost, Takes}
use Rattle.krieg_costs.proofs.Costs.{fresh_is_at_most_cost}
use Rattle.krieg_game.proofs.ChessLaws.{chess_is_game}
use Rattle.krieg_search.specs.declared.stop.SearchStop.TheVariants.{Spent, NoMemory}
use Rattle.krieg_search.proofs.Accounting.{at_most_fresh, account_is_between}

module _ (d : Dialect) (who : Side) (S : List Pos) (n : ℕ) where
  -- what a search that cuts no tries takes
  pub charged : (r : Result Answer SearchStop) (had has : ℕ) → Takes d who S n false r had has → IsCharged d who S n r had has
  charged (Ok a) had has k = account_is_between d who S n had has k
  charged (Err Large) had has k = account_is_between d who S n had has k
  charged (Err Spent) had has k = k
  charged (Err NoMemory) had has k = k

  pub accounted : (r : Result Answer SearchStop) (had has : ℕ) → Takes d who S n false r had has → HasAccount d who S n r had has
  accounted (Ok a) had has k = k
  accounted (Err Large) had has k = k
  accounted (Err Spent) had has k = tt
  accounted (Err NoMemory) had has k = tt

  -- fewer than are fresh are fewer than the cost
  pub spent_below_cost : (r : Result Answer SearchStop) (had has : ℕ) → Takes d who S n false r had has → r ≡ Err Spent → had < cost_of (chess d) (outset d who) n S
  spent_below_cost (Ok a) had has k e = absurd (cc)
  spent_below_cost (Err Large) had has k e = absurd (cc)
  spent_below_cost (Err Spent) had has k e = let c = fresh_is_at_most_cost (chess d) (chess_is_game d) (outset d who) n S in let f = k.0 in omega arith
  spent_below_cost (Err NoMemory) had has k e = absurd (cc)

  -- what a search that may cut tries takes
  pub charged_at_most : (r : Result Answer SearchStop) (had has : ℕ) → Takes d who S n true r had has → IsChargedAtMost d who S n r had has
  charged_at_most (Ok a) had has k = (k.fewer, at_most_fresh d true who S n had has k)
  charged_at_most (Err Large) had has k = (k.fewer, at_most_fresh d true who S n had has k)
  charged_at_most (Err Spent) had has k = k
  charged_at_most (Err NoMemory) had has k = k

  -- the search was stopped
  pub stopped_takes : (cut : Bool) (P : SearchStop → Type 0) (r : Result Answer SearchStop) (e : SearchStop) (had has u : ℕ) → ((x : SearchStop) → P x → e ≡ x) → IsErrAnd r P → had ≡ u → IsDecision d who S n cut (Err e) had has → Takes d who S n cut r u u
  stopped_takes cut P (Ok x) e had has u same fails start k = absurd fails
  stopped_takes cut P (Err x) e had has u same fails start k = go x (subst (λ (y : SearchStop). IsDecision d who S n cut (Err y) had has) (same x fails) k)
    where
      go : (y : SearchStop) → IsDecision d who S n cut (Err y) had has → Takes d who S n cut (Err y) u u
      go Spent v = ((omega arith), refl)
      go Large v = absurd v
      go NoMemory v = refl
