-- A stretch of a search: what it does to the table of results, and what it takes.
use Rattle.std.specs.Prelude.{◌≡◌, ℕ, ◌+◌, ◌<◌, ◌≤◌, Bool, true, false, List, Option, Some, ◌⊎◌}
use Rattle.krieg_theory.specs.Sets.{In}
use Rattle.krieg_theory.specs.Game.{Game}
use Rattle.krieg_theory.specs.Split.{legal_in_some}
use Rattle.krieg_costs.specs.Sums.{Pair}
use Rattle.krieg_costs.specs.Reach.{HasParts, LeadsOn}
use Rattle.krieg_costs.specs.Cost.{made}
use Rattle.krieg_accounts.specs.Sound.{Table, known, IsSound}
use Rattle.krieg_accounts.specs.Charges.{charged, all_owed}

module _ (G : Game) where
  -- From the table T and `had` units to the table T' and `has` units. A result may come only for a pair that stands in
  -- every list R that Q admits. The cost is what the splits of tries take for pairs that have no result yet. All else
  -- that was taken is what the new results took, and of each list R at most what its pairs with a new result owed. Where
  -- tries may be cut, less may be taken: for a try that is cut, and for a set that is found to be lost, nothing. But the
  -- split of a try that wins was paid.
  pub record IsStretch (cut : Bool) (Q : List (Pair G) → Type 0) (cost : ℕ) (T T' : Table G) (had has : ℕ) : Type 0 where
    pub sound : IsSound G cut T'
    pub kept : (q : Pair G) (x : Option G.Move) → known G T q ≡ Some x → known G T' q ≡ Some x
    pub news : (R : List (Pair G)) → Q R → (q : Pair G) (x : Option G.Move) → known G T' q ≡ Some x → (known G T q ≡ Some x) ⊎ In q R
    pub exact : cut ≡ false → had + charged G T ≡ has + cost + charged G T'
    pub at_most : had + charged G T ≤ has + cost + charged G T'
    pub fewer : has ≤ had
    pub won : (q : Pair G) (m : G.Move) → known G T' q ≡ Some (Some m) → (known G T q ≡ Some (Some m)) ⊎ (has + made G q.0 m ≤ had)
    pub paid : (R : List (Pair G)) → Q R → had + all_owed G R T' ≤ has + cost + all_owed G R T

  -- the units are fewer than the cost and what the pairs of any list that Q admits may take yet
  abbrev pub FallsShort : (List (Pair G) → Type 0) → ℕ → Table G → ℕ → Type 0
  FallsShort Q cost T had = (R : List (Pair G)) → Q R → had < cost + all_owed G R T

  -- The lists that stretches are measured by. Everything in them leads on, so the parts of their pairs stand in them
  -- too. This one covers the set with each number up to j.
  abbrev pub CoversSet : List G.Position → ℕ → List (Pair G) → Type 0
  CoversSet B j R = LeadsOn G R × ((i : ℕ) → 0 < i → i ≤ j → In (B, i) R)

  -- it covers the set with the number j
  abbrev pub CoversPair : List G.Position → ℕ → List (Pair G) → Type 0
  CoversPair B j R = LeadsOn G R × In (B, j) R

  -- it covers the parts that a try of the set leads to
  abbrev pub CoversTry : List G.Position → ℕ → G.Move → List (Pair G) → Type 0
  CoversTry B j t R = LeadsOn G R × HasParts G R B j t

  -- those of every try
  abbrev pub CoversTries : List G.Position → ℕ → List (Pair G) → Type 0
  CoversTries B j R = LeadsOn G R × ((t : G.Move) → legal_in_some G B t ≡ true → HasParts G R B j t)

  -- it covers each of some sets with each number up to j
  abbrev pub CoversSets : List (List G.Position) → ℕ → List (Pair G) → Type 0
  CoversSets Cs j R = LeadsOn G R × ((C : List G.Position) → In C Cs → (i : ℕ) → 0 < i → i ≤ j → In (C, i) R)
