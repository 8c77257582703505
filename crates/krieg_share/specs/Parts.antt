-- Nodes for several sets, one after another.
use Rattle.std.specs.Prelude.{ℕ, ◌<◌, ◌⊎◌, List, [], ◌∷◌, length, map}
use Rattle.krieg_theory.specs.Game.{Game}
use Rattle.krieg_theory.specs.Computed.{canon}
use Rattle.krieg_costs.specs.Sums.{total}
use Rattle.krieg_share.specs.Sharing.{Shared, number_of, share_other}

module _ (G : Game) where
  -- nodes for the canonical trees of sets that can be won within j, each under a key
  abbrev pub share_sets : {K : Type 0} → ℕ → List (K × List G.Position) → Shared G → Shared G
  share_sets j [] s = s
  share_sets j (c ∷ cs) s = share_sets j cs (share_other G (canon G j c.1) c.1 s)

  -- the numbers of the nodes of these sets
  abbrev pub numbered : {K : Type 0} → List (List G.Position) → List (K × List G.Position) → List (K × ℕ)
  numbered Xs cs = map (λ c. (c.0, number_of G c.1 Xs)) cs

  -- there are more nodes than the first number, or more edges than the second
  abbrev pub IsOver : ℕ → ℕ → Shared G → Type 0
  IsOver nodes edges s = (nodes < length s.nodes) ⊎ (edges < total (λ n. length n.edges) s.nodes)
