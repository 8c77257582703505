-- The pairs that no search can do without, and what they take.
use Rattle.std.specs.Prelude.{ℕ, zero, suc, ◌+◌, not, List, [], ◌∷◌, ◌++◌, length, filter, find, flat_map, Option, Some, None, if◌then◌else◌}
use Rattle.std.specs.List.{list_any}
use Rattle.krieg_theory.specs.Sets.{is_nil}
use Rattle.krieg_theory.specs.Game.{Game}
use Rattle.krieg_theory.specs.Split.{refused, tries, keys, class}
use Rattle.krieg_theory.specs.Can.{can, begins, first_try}
use Rattle.krieg_theory.specs.Plans.{Outset, openings, opening_set, is_over, can_plan}
use Rattle.krieg_costs.specs.Sums.{Pair, total, once, up_to}
use Rattle.krieg_costs.specs.Cost.{made, first_made}
use Rattle.krieg_costs.specs.Block.{Block, Lives, Stale, LostClass, LostRefused, NoBlock, block}

module _ (G : Game) where
  -- what backs a try that does not win: its block's pair, and so on
  abbrev pub behind : (List G.Position → List (Pair G)) → (List G.Position → List (Pair G)) → List G.Position → G.Move → Block G.Key → List (Pair G)
  behind less here B t Lives = []
  behind less here B t Stale = []
  behind less here B t (LostClass key) = less (class G B t key)
  behind less here B t LostRefused = here (refused G B t)
  behind less here B t NoBlock = []

  -- the same for a set of at most n members: the pair itself, and what is behind the block of each try
  abbrev pub lost_within : ℕ → (List G.Position → List (Pair G)) → ℕ → List G.Position → List (Pair G)
  lost_within j less zero B = []
  lost_within j less (suc n) B = (B, suc j) ∷ flat_map (λ t. behind less (lost_within j less n) B t (block G (suc j) B t)) (tries G B)

  -- what backs a set that cannot be won within j
  abbrev pub lost : ℕ → List G.Position → List (Pair G)
  lost zero B = []
  lost (suc j) B = lost_within j (lost j) (length B) B

  -- what backs the refused part of the first try: nothing where it is empty
  abbrev pub refused_won : ℕ → (List G.Position → List (Pair G)) → (List G.Position → List (Pair G)) → List G.Position → List (Pair G)
  refused_won j less here R = if is_nil R then [] else if can G j R then less R else here R

  -- what backs a set whose least number is j + 1, with its first try: the pair itself, the same set with one move
  -- less, which is lost, each class and the refused part at their least numbers, and the block of each earlier try
  abbrev pub won_by : ℕ → (List G.Position → List (Pair G)) → (List G.Position → List (Pair G)) → List G.Position → Option G.Move → List (Pair G)
  won_by j less here B None = []
  won_by j less here B (Some m) =
      (B, suc j) ∷ (lost j B ++ (flat_map (λ key. less (class G B m key)) (keys G B m)
      ++ (refused_won j less here (refused G B m)
      ++ flat_map (λ t. behind (lost j) (lost (suc j)) B t (block G (suc j) B t)) (filter (λ t. G.move_lt t m) (tries G B)))))

  -- the same for a set of at most n members
  abbrev pub won_within : ℕ → (List G.Position → List (Pair G)) → ℕ → List G.Position → List (Pair G)
  won_within j less zero B = []
  won_within j less (suc n) B = won_by j less (won_within j less n) B (first_try G (suc j) B)

  -- what backs a set that can be won within j, at its least number
  abbrev pub won : ℕ → List G.Position → List (Pair G)
  won zero B = []
  won (suc j) B = if can G j B then won j B else won_within j (won j) (length B) B

  -- the tries that must be split for a pair: all of them, or those up to the first that wins
  abbrev pub floor_price : Pair G → ℕ
  floor_price q = total (made G q.0) (up_to (begins G q.1 q.0) (tries G q.0))

module _ (G : Game) (O : Outset G) where
  -- the first opening set, in the order of keys, that cannot be won within n
  abbrev pub first_lost : ℕ → List G.Position → Option O.Root
  first_lost n S = find (λ key. not (can G n (opening_set G O S key))) (openings G O S)

  -- what backs it
  abbrev pub lost_opening : ℕ → List G.Position → Option O.Root → List (Pair G)
  lost_opening n S None = []
  lost_opening n S (Some key) = lost G n (opening_set G O S key)

  -- what backs all opening sets where they can be won, or else the first that cannot; nothing where something is over
  abbrev pub backing : ℕ → List G.Position → List (Pair G)
  backing n S =
      if list_any (is_over G O) S then []
      else if can_plan G O n S then flat_map (λ key. won G n (opening_set G O S key)) (openings G O S)
      else lost_opening n S (first_lost n S)

  -- the units that every search must take
  abbrev pub floor : ℕ → List G.Position → ℕ
  floor n S = first_made G O S + total (floor_price G) (once G (backing n S))
