-- The cost of a set, without the bound on its members, and what is reached costs just that.
use Rattle.std.proofs.Common.{◌≡◌, ℕ, zero, suc, ◌+◌, ◌≤◌, true, List, [], ◌∷◌, ◌++◌, length, filter, flat_map, refl, sym, ap, ◌∙◌, arith}
use Rattle.krieg_costs.proofs.Common.{In, Game, IsGame, refused, legal_in_some, tries, all_outcomes, given, keys, class, Outset, openings, opening_set, Pair, total, made, price, round, cost_within, cost, reach_within, reach, reach_of, CostIsSum, FreshIsAtMostCost}
use Rattle.krieg_theory.proofs.Lists.{filter_in, in_filter, any_at}
use Rattle.krieg_theory.proofs.Steps.{refused_lt}
use Rattle.krieg_costs.proofs.Totals.{total_agree, total_append, total_add, total_flat, length_flat}
use Rattle.krieg_costs.proofs.Pairs.{total_once}

module _ (G : Game) (L : IsGame G) where
  pub try_legal : (B : List G.Position) (t : G.Move) → In t (tries G B) → legal_in_some G B t ≡ true
  try_legal B t i = (filter_in (legal_in_some G B) G.moves t i).1

  pub legal_try : (B : List G.Position) (t : G.Move) → legal_in_some G B t ≡ true → In t (tries G B)
  legal_try B t l = let s = any_at (λ p. G.legal p t) B l in in_filter (legal_in_some G B) G.moves t (L.listed s.0 t s.2) l

  -- what a split makes, by the number of outcomes
  pub made_is : (B : List G.Position) (t : G.Move) → made G B t ≡ length B + length (all_outcomes G B t)
  made_is B t = ap (λ n. length B + n) (sym (length_flat (given G t) B))

  pub no_tries : tries G [] ≡ []
  no_tries = go G.moves
    where
      go : (ts : List G.Move) → filter (legal_in_some G []) ts ≡ []
      go [] = refl
      go (t ∷ ts) = go ts

  round_nil : (less here : List G.Position → ℕ) → round G less here [] ≡ 0
  round_nil less here = ap (total (λ t. made G [] t + (here (refused G [] t) + total (λ key. less (class G [] t key)) (keys G [] t)))) no_tries

  round_agree : (less here here' : List G.Position → ℕ) (B : List G.Position) → ((t : G.Move) → In t (tries G B) → here (refused G B t) ≡ here' (refused G B t)) → round G less here B ≡ round G less here' B
  round_agree less here here' B h = total_agree _ _ (tries G B) (λ t i. ap (λ n. made G B t + (n + total (λ key. less (class G B t key)) (keys G B t))) (h t i))

  within_nil : (less : List G.Position → ℕ) (n : ℕ) → less [] ≡ 0 → cost_within G less n [] ≡ 0
  within_nil less zero h = refl
  within_nil less (suc n) h = let a = round_nil less (cost_within G less n) in omega arith

  pub cost_nil : (k : ℕ) → cost G k [] ≡ 0
  cost_nil zero = refl
  cost_nil (suc k) = refl

  cost_fuel : (k n m : ℕ) (B : List G.Position) → length B ≤ n → length B ≤ m → cost_within G (cost G k) n B ≡ cost_within G (cost G k) m B
  cost_fuel k n m [] h g = within_nil (cost G k) n (cost_nil k) ∙ sym (within_nil (cost G k) m (cost_nil k))
  cost_fuel k zero m (p ∷ B) h g = absurd (omega arith)
  cost_fuel k (suc n) zero (p ∷ B) h g = absurd (omega arith)
  cost_fuel k (suc n) (suc m) (p ∷ B) h g =
      let ih = cost_fuel k n m in
      ap (λ x. cost G k (p ∷ B) + x) (round_agree (cost G k) (cost_within G (cost G k) n) (cost_within G (cost G k) m) (p ∷ B) (λ t i.
      let s = refused_lt G L (p ∷ B) t (try_legal (p ∷ B) t i) in ih (refused G (p ∷ B) t) (omega arith) (omega arith)))

  pub cost_step : (k : ℕ) (B : List G.Position) → cost G (suc k) B ≡ cost G k B + round G (cost G k) (cost G (suc k)) B
  cost_step k [] = let a = round_nil (cost G k) (cost G (suc k)) in let b = cost_nil k in omega arith
  cost_step k (p ∷ B) =
      ap (λ x. cost G k (p ∷ B) + x) (round_agree (cost G k) (cost_within G (cost G k) (length B)) (cost G (suc k)) (p ∷ B) (λ t i.
      let s = refused_lt G L (p ∷ B) t (try_legal (p ∷ B) t i) in cost_fuel k (length B) (length (refused G (p ∷ B) t)) (refused G (p ∷ B) t) (omega arith) (omega arith)))

  pub cost_is_sum : CostIsSum G
  cost_is_sum B zero = refl
  cost_is_sum B (suc k) = let ih = cost_is_sum B k in let s = cost_step k B in omega arith

  -- the prices of what is reached, with its repeats
  abbrev pub paid : List (Pair G) → ℕ
  paid R = total (λ q. price G q.0) R

  within_pays : (k n : ℕ) → ((B : List G.Position) → paid (reach G k B) ≡ cost G k B) → (B : List G.Position) → paid (reach_within G k (reach G k) n B) ≡ cost_within G (cost G k) n B
  within_pays k zero ih B = refl
  within_pays k (suc n) ih [] = sym (within_nil (cost G k) (suc n) (cost_nil k))
  within_pays k (suc n) ih (p ∷ B) =
      let one : G.Move → List (Pair G) = λ t. reach_within G k (reach G k) n (refused G (p ∷ B) t) ++ flat_map (λ key. reach G k (class G (p ∷ B) t key)) (keys G (p ∷ B) t) in
      let below : G.Move → ℕ = λ t. cost_within G (cost G k) n (refused G (p ∷ B) t) + total (λ key. cost G k (class G (p ∷ B) t key)) (keys G (p ∷ B) t) in
      let a = total_append (λ q. price G q.0) (reach G k (p ∷ B)) (flat_map one (tries G (p ∷ B))) in
      let b = total_flat (λ q. price G q.0) one (tries G (p ∷ B)) in
      let c : total (λ t. paid (one t)) (tries G (p ∷ B)) ≡ total below (tries G (p ∷ B)) = total_agree _ _ (tries G (p ∷ B)) (λ t i. each t (within_pays k n ih (refused G (p ∷ B) t))) in
      let d = total_add (made G (p ∷ B)) below (tries G (p ∷ B)) in
      let e = ih (p ∷ B) in
      omega arith
    where
      each : (t : G.Move) → paid (reach_within G k (reach G k) n (refused G (p ∷ B) t)) ≡ cost_within G (cost G k) n (refused G (p ∷ B) t) → paid (reach_within G k (reach G k) n (refused G (p ∷ B) t) ++ flat_map (λ key. reach G k (class G (p ∷ B) t key)) (keys G (p ∷ B) t)) ≡ cost_within G (cost G k) n (refused G (p ∷ B) t) + total (λ key. cost G k (class G (p ∷ B) t key)) (keys G (p ∷ B) t)
      each t d =
          let a = total_append (λ q. price G q.0) (reach_within G k (reach G k) n (refused G (p ∷ B) t)) (flat_map (λ key. reach G k (class G (p ∷ B) t key)) (keys G (p ∷ B) t)) in
          let b = total_flat (λ q. price G q.0) (λ key. reach G k (class G (p ∷ B) t key)) (keys G (p ∷ B) t) in
          let c = total_agree (λ key. paid (reach G k (class G (p ∷ B) t key))) (λ key. cost G k (class G (p ∷ B) t key)) (keys G (p ∷ B) t) (λ key i. ih (class G (p ∷ B) t key)) in
          omega arith

  -- are just the cost
  pub reach_pays : (k : ℕ) (B : List G.Position) → paid (reach G k B) ≡ cost G k B
  reach_pays zero B = refl
  reach_pays (suc k) B = within_pays k (length B) (reach_pays k) B

module _ (G : Game) (L : IsGame G) (O : Outset G) where
  pub fresh_is_at_most_cost : FreshIsAtMostCost G O
  fresh_is_at_most_cost n S =
      let a = total_once G L (λ q. price G q.0) (reach_of G O n S) in
      let b = total_flat (λ q. price G q.0) (λ key. reach G n (opening_set G O S key)) (openings G O S) in
      let c = total_agree (λ key. paid G L (reach G n (opening_set G O S key))) (λ key. cost G n (opening_set G O S key)) (openings G O S) (λ key i. reach_pays G L n (opening_set G O S key)) in
      omega arith
