-- Within how many moves a plan wins, as the checker finds it.
use Rattle.std.specs.Prelude.{◌≡◌, ◌≤◌, ℕ, ◌+◌, max, Bool, false, nat_le, nat_lt, List, Option, Some, None, if◌then◌else◌}
use Rattle.std.specs.List.{list_all}
use Rattle.krieg_theory.specs.Tree.{Tree, Maybe}
use Rattle.krieg_theory.specs.Game.{Game}
use Rattle.krieg_theory.specs.Wins.{wins, wins_other}
use Rattle.krieg_checker.specs.declared.walk.TheConstants.{MOST_COUNTED}

-- within k moves: at least so many are needed, or no number is enough
abbrev pub within : Option ℕ → ℕ → Bool
within None k = false
within (Some w) k = nat_le w k

-- a number that tells, of each that a plan file may name, whether the test holds of it
abbrev pub Tells : Option ℕ → (ℕ → Bool) → Type 0
Tells r test = (k : ℕ) → k ≤ MOST_COUNTED → test k ≡ within r k

-- what is needed for both
abbrev pub worse : Option ℕ → Option ℕ → Option ℕ
worse None s = None
worse (Some a) None = None
worse (Some a) (Some b) = Some (max a b)

-- one move more, where that is a number of 16 bits
abbrev pub one_more : Option ℕ → Option ℕ
one_more None = None
one_more (Some w) = if nat_lt w MOST_COUNTED then Some (w + 1) else None

-- what the legal try of a node needs: nothing is enough where it stalemates in some member
abbrev pub own_need : Bool → Option ℕ → Option ℕ
own_need stale below = if stale then None else one_more below

module _ (G : Game) where
  -- the tree wins all of the set within k
  abbrev pub all_won : Tree G.Move G.Key → List G.Position → ℕ → Bool
  all_won n B k = list_all (λ p. wins G n p k) B

  -- the tree is there, and wins all of it
  abbrev pub all_won_other : Maybe G.Move G.Key → List G.Position → ℕ → Bool
  all_won_other o B k = list_all (λ p. wins_other G o p k) B
