-- What a search takes that never looks at a set with the same number twice.
use Rattle.std.specs.Prelude.{◌≡◌, ℕ, zero, suc, ◌+◌, ◌<◌, ◌≤◌, true, false, List, [], ◌∷◌, ◌++◌, length, flat_map, if◌then◌else◌}
use Rattle.krieg_theory.specs.Sets.{In, is_nil}
use Rattle.krieg_theory.specs.Game.{Game}
use Rattle.krieg_theory.specs.Split.{refused, legal_in_some, tries, keys, class}
use Rattle.krieg_theory.specs.Plans.{Outset, openings, opening_set}
use Rattle.krieg_costs.specs.Sums.{Pair, total, once}
use Rattle.krieg_costs.specs.Cost.{price, first_made}

module _ (G : Game) where
  -- the pairs that the recursion meets, with its repeats, for a set of at most n members
  abbrev pub reach_within : ℕ → (List G.Position → List (Pair G)) → ℕ → List G.Position → List (Pair G)
  reach_within j less zero B = []
  reach_within j less (suc n) B =
      if is_nil B then []
      else (B, suc j) ∷ (less B ++ flat_map (λ t. reach_within j less n (refused G B t) ++ flat_map (λ key. less (class G B t key)) (keys G B t)) (tries G B))

  -- the pairs that are met from a set with every number up to j
  abbrev pub reach : ℕ → List G.Position → List (Pair G)
  reach zero B = []
  reach (suc j) B = reach_within j (reach j) (length B) B

  -- what goes with a pair and a try: the refused part with every number up to the pair's, and each class with every
  -- smaller one
  pub record HasParts (R : List (Pair G)) (B : List G.Position) (j : ℕ) (t : G.Move) : Type 0 where
    pub refused_part : is_nil (refused G B t) ≡ false → (i : ℕ) → 0 < i → i ≤ j → In (refused G B t, i) R
    pub classes : (key : G.Key) → In key (keys G B t) → (i : ℕ) → 0 < i → i < j → In (class G B t key, i) R

  -- each pair of the list has with each try its parts in the list
  abbrev pub LeadsOn : List (Pair G) → Type 0
  LeadsOn R = (B : List G.Position) (j : ℕ) → In (B, j) R → (t : G.Move) → legal_in_some G B t ≡ true → HasParts R B j t

module _ (G : Game) (O : Outset G) where
  -- the pairs that are met from the opening sets of a list
  abbrev pub reach_of : ℕ → List G.Position → List (Pair G)
  reach_of n S = flat_map (λ key. reach G n (opening_set G O S key)) (openings G O S)

  -- the units where each distinct pair is paid for once
  abbrev pub fresh : ℕ → List G.Position → ℕ
  fresh n S = first_made G O S + total (λ q. price G q.0) (once G (reach_of n S))

  -- a list that keeps the rules of reach: it has each opening set with every number up to n, and leads on
  pub record IsReach (n : ℕ) (S : List G.Position) (R : List (Pair G)) : Type 0 where
    pub opened : (key : O.Root) → In key (openings G O S) → (i : ℕ) → 0 < i → i ≤ n → In (opening_set G O S key, i) R
    pub leads : LeadsOn G R
