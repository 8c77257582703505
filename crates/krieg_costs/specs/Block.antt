-- Why a try does not begin a node that wins all of a set within a number of moves.
use Rattle.std.specs.Prelude.{ℕ, zero, suc, ◌==◌, ◌&&◌, ◌||◌, Bool, not, List, find, Option, Some, None, if◌then◌else◌}
use Rattle.std.specs.List.{list_any}
use Rattle.krieg_theory.specs.Sets.{is_nil}
use Rattle.krieg_theory.specs.Game.{Game}
use Rattle.krieg_theory.specs.Split.{refused, stale_in_some, keys, class, mates_at}
use Rattle.krieg_theory.specs.Can.{can}
use Rattle.krieg_costs.specs.Sums.{Pair}

-- what blocks a try, in the order in which it is looked for; or that nothing does
pub data Block (K : Type 0) : Type 0 where
  -- one move is left, and in some member the try is legal and does not mate
  Lives : Block K
  -- the try stalemates in some member
  Stale : Block K
  -- the first class, in the order of keys, that cannot be won with one move less
  LostClass : K → Block K
  -- the refused part, which cannot be won with this number
  LostRefused : Block K
  -- there is none: the try begins a node that wins
  NoBlock : Block K

module _ (G : Game) where
  -- there is a member in which the try is legal and does not mate
  abbrev pub lives_in_some : List G.Position → G.Move → Bool
  lives_in_some B t = list_any (λ p. G.legal p t && not (mates_at G p t)) B

  -- the block by the first lost class, or by the refused part where no class is lost
  abbrev pub by_class : ℕ → List G.Position → G.Move → Option G.Key → Block G.Key
  by_class j B t (Some key) = LostClass key
  by_class j B t None = if is_nil (refused G B t) || can G j (refused G B t) then NoBlock else LostRefused

  -- the first of these that holds, for the number j
  abbrev pub block : ℕ → List G.Position → G.Move → Block G.Key
  block zero B t = NoBlock
  block (suc j) B t =
      if (j == 0) && lives_in_some B t then Lives
      else if stale_in_some G B t then Stale
      else by_class (suc j) B t (find (λ key. not (can G j (class G B t key))) (keys G B t))

  -- the pair that cannot be won, where the block has one
  abbrev pub pair_of : ℕ → List G.Position → G.Move → Block G.Key → Option (Pair G)
  pair_of j B t Lives = None
  pair_of j B t Stale = None
  pair_of j B t (LostClass key) = Some (class G B t key, j)
  pair_of j B t LostRefused = Some (refused G B t, suc j)
  pair_of j B t NoBlock = None

  -- the pair of the block of a try
  abbrev pub block_pair : ℕ → List G.Position → G.Move → Option (Pair G)
  block_pair zero B t = None
  block_pair (suc j) B t = pair_of j B t (block (suc j) B t)
