-- The claims that are written of a set that cannot be won.
use Rattle.std.specs.Prelude.{ℕ, zero, suc, List, [], ◌∷◌, map, Option, Some, None, if◌then◌else◌}
use Rattle.krieg_theory.specs.Game.{Game}
use Rattle.krieg_theory.specs.Split.{refused, tries, class}
use Rattle.krieg_theory.specs.Plans.{Outset, opening_set}
use Rattle.krieg_costs.specs.Sums.{Pair, same_pair}
use Rattle.krieg_costs.specs.Block.{Block, Lives, Stale, LostClass, LostRefused, NoBlock, block}
use Rattle.krieg_costs.specs.Backing.{first_lost}
use Rattle.krieg_costs.specs.Refutation.{Reason, ByLife, ByStalemate, ByClass, ByRefused, Claim}
use Rattle.krieg_claims.specs.InOrder.{in_order}

module _ (G : Game) where
  -- how many stand before a pair
  abbrev pub index_of : List (Pair G) → Pair G → ℕ
  index_of [] q = 0
  index_of (p ∷ ps) q = if same_pair G p q then 0 else suc (index_of ps q)

  -- the place of a pair, counted from 1
  abbrev pub place_of : List (Pair G) → Pair G → ℕ
  place_of qs q = suc (index_of qs q)

  -- The reason that a block gives at the number j + 1, which cites a pair by its place. A set that cannot be won has a block
  -- for each try.
  abbrev pub reason_of : List (Pair G) → ℕ → List G.Position → G.Move → Block G.Key → Reason G.Key
  reason_of qs j B t Lives = ByLife
  reason_of qs j B t Stale = ByStalemate
  reason_of qs j B t (LostClass key) = ByClass key (place_of qs (class G B t key, j))
  reason_of qs j B t LostRefused = ByRefused (place_of qs (refused G B t, suc j))
  reason_of qs j B t NoBlock = ByLife

  -- why a try does not win the set within a number
  abbrev pub reason_at : List (Pair G) → ℕ → List G.Position → G.Move → Reason G.Key
  reason_at qs zero B t = ByLife
  reason_at qs (suc j) B t = reason_of qs j B t (block G (suc j) B t)

  -- each try in order, with its reason
  abbrev pub reasons_at : List (Pair G) → ℕ → List G.Position → List (G.Move × Reason G.Key)
  reasons_at qs j B = map (λ t. (t, reason_at qs j B t)) (tries G B)

  -- the claim of a pair
  abbrev pub claim_of : List (Pair G) → Pair G → Claim G
  claim_of qs q = record { number = q.1; set = q.0; reasons = reasons_at qs q.1 q.0 }

  -- the claims of all pairs, each cited by its place among them
  abbrev pub claims_of : List (Pair G) → List (Claim G)
  claims_of qs = map (claim_of qs) qs

  -- the claims that a set cannot be won within j
  abbrev pub claims : ℕ → List G.Position → List (Claim G)
  claims j B = claims_of (in_order G j B)

module _ (G : Game) (O : Outset G) where
  -- the claims of an opening set, where there is one
  abbrev pub claims_from : ℕ → List G.Position → Option O.Root → List (Claim G)
  claims_from n S None = []
  claims_from n S (Some key) = claims G n (opening_set G O S key)

  -- the claims that no plan mates within n: those of the first opening set that cannot be won
  abbrev pub denial : ℕ → List G.Position → List (Claim G)
  denial n S = claims_from n S (first_lost G O n S)
