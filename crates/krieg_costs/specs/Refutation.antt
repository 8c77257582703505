-- A list of claims that certain sets cannot be won, each shown by claims before it.
use Rattle.std.specs.Prelude.{ℕ, zero, suc, ◌==◌, ◌&&◌, nat_lt, Bool, true, false, not, List, [], ◌∷◌, ◌++◌, Option, Some, None}
use Rattle.std.specs.List.{list_all, list_any}
use Rattle.krieg_theory.specs.Sets.{same, is_nil}
use Rattle.krieg_theory.specs.Game.{Game}
use Rattle.krieg_theory.specs.Split.{refused, legal_in_some, stale_in_some, tries, class}
use Rattle.krieg_theory.specs.Plans.{Outset, openings, opening_set}
use Rattle.krieg_costs.specs.Block.{lives_in_some}

-- Why a try does not win. A claim is cited by its place, counted from 1.
pub data Reason (K : Type 0) : Type 0 where
  ByLife : Reason K
  ByStalemate : Reason K
  ByClass : K → ℕ → Reason K
  ByRefused : ℕ → Reason K

-- no node wins all of the set within the number, for a reason at each try
pub record Claim (G : Game) : Type 0 where
  pub number : ℕ
  pub set : List G.Position
  pub reasons : List (G.Move × Reason G.Key)

-- what stands at a place, counted from 1
abbrev pub cited : {X : Type 0} → List X → ℕ → Option X
cited cs zero = None
cited [] (suc i) = None
cited (c ∷ cs) (suc zero) = Some c
cited (c ∷ cs) (suc (suc i)) = cited cs (suc i)

-- the last of a list
abbrev pub last_of : {X : Type 0} → List X → Option X
last_of [] = None
last_of (c ∷ []) = Some c
last_of (c ∷ d ∷ cs) = last_of (d ∷ cs)

-- each of xs is one of ys
abbrev pub is_within : {X : Type 0} → (X → X → Bool) → List X → List X → Bool
is_within lt xs ys = list_all (λ x. list_any (same lt x) ys) xs

module _ (G : Game) where
  -- the cited claim is there, speaks of a number that is at least the one that is asked, and of some of the set
  abbrev pub is_shown : Option (Claim G) → ℕ → List G.Position → Bool
  is_shown None j B = false
  is_shown (Some c) j B = not (nat_lt c.number j) && is_within G.position_lt c.set B

  -- the reason holds for the try at a set and the number j + 1, by the claims before
  abbrev pub holds : List (Claim G) → ℕ → List G.Position → G.Move → Reason G.Key → Bool
  holds before j B t ByLife = (j == 0) && lives_in_some G B t
  holds before j B t ByStalemate = stale_in_some G B t
  holds before j B t (ByClass key i) = not (j == 0) && is_shown (cited before i) j (class G B t key)
  holds before j B t (ByRefused i) = is_shown (cited before i) (suc j) (refused G B t)

  -- there are reasons for exactly the tries that are legal in some member, and each holds
  abbrev pub are_reasons : List (Claim G) → ℕ → List G.Position → List (G.Move × Reason G.Key) → Bool
  are_reasons before zero B rs = false
  are_reasons before (suc j) B rs =
      list_all (λ t. list_any (λ r. same G.move_lt r.0 t) rs) (tries G B) && list_all (λ r. legal_in_some G B r.0 && holds before j B r.0 r.1) rs

  -- the claim's set has members, and its reasons hold by the claims before
  abbrev pub claim_holds : List (Claim G) → Claim G → Bool
  claim_holds before c = not (is_nil c.set) && are_reasons before c.number c.set c.reasons

  -- each claim holds by those before it
  abbrev pub claims_hold : List (Claim G) → List (Claim G) → Bool
  claims_hold before [] = true
  claims_hold before (c ∷ cs) = claim_holds before c && claims_hold (before ++ c ∷ []) cs

module _ (G : Game) (O : Outset G) where
  -- the claim speaks of the number n at least, and of some of one opening set
  abbrev pub denies : ℕ → List G.Position → Option (Claim G) → Bool
  denies n S None = false
  denies n S (Some c) = not (nat_lt c.number n) && list_any (λ key. is_within G.position_lt c.set (opening_set G O S key)) (openings G O S)

  -- all claims hold, and the last one denies that some plan mates within n
  abbrev pub refutes : ℕ → List G.Position → List (Claim G) → Bool
  refutes n S cs = claims_hold G [] cs && denies n S (last_of cs)
