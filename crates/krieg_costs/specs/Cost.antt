-- What a search by the recursion over sets takes, if it stores nothing.
use Rattle.std.specs.Prelude.{ℕ, zero, suc, ◌+◌, List, length, if◌then◌else◌}
use Rattle.krieg_theory.specs.Game.{Game}
use Rattle.krieg_theory.specs.Split.{refused, tries, given, keys, class}
use Rattle.krieg_theory.specs.Plans.{Outset, openings, opening_set}
use Rattle.krieg_costs.specs.Sums.{total}

module _ (G : Game) where
  -- the units that one split takes: one for each member, and one for each reply where the try is legal
  abbrev pub made : List G.Position → G.Move → ℕ
  made B t = length B + total (λ p. length (given G t p)) B

  -- those of all splits of a set
  abbrev pub price : List G.Position → ℕ
  price B = total (made B) (tries G B)

  -- one number of moves more: all splits, and what is spent on the refused parts with this number and on the
  -- classes with one less
  abbrev pub round : (List G.Position → ℕ) → (List G.Position → ℕ) → List G.Position → ℕ
  round less here B = total (λ t. made B t + (here (refused G B t) + total (λ key. less (class G B t key)) (keys G B t))) (tries G B)

  -- the cost of a set of at most n members; less is its cost with one number fewer
  abbrev pub cost_within : (List G.Position → ℕ) → ℕ → List G.Position → ℕ
  cost_within less zero B = 0
  cost_within less (suc n) B = less B + round less (cost_within less n) B

  -- the cost of a set with every number up to k
  abbrev pub cost : ℕ → List G.Position → ℕ
  cost zero B = 0
  cost (suc k) B = cost_within (cost k) (length B) B

module _ (G : Game) (O : Outset G) where
  -- the units for the replies that come before the first own turn: none where the player is to move, and else one
  -- for each listed position and one for each reply
  abbrev pub first_made : List G.Position → ℕ
  first_made S = total (λ p. if O.waits p then suc (length (O.starts p)) else 0) S

  -- the cost of a list of positions is that of its opening sets
  abbrev pub cost_of : ℕ → List G.Position → ℕ
  cost_of n S = first_made S + total (λ key. cost G n (opening_set G O S key)) (openings G O S)
