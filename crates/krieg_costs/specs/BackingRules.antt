-- The rules of backing, for any list of pairs that keeps them.
use Rattle.std.specs.Prelude.{◌≡◌, ℕ, suc, ◌<◌, true, false, List, Some, IfSome}
use Rattle.std.specs.List.{list_any}
use Rattle.krieg_theory.specs.Sets.{In, is_nil}
use Rattle.krieg_theory.specs.Game.{Game}
use Rattle.krieg_theory.specs.Split.{refused, legal_in_some, keys, class}
use Rattle.krieg_theory.specs.Can.{can, first_try, least}
use Rattle.krieg_theory.specs.Plans.{Outset, openings, opening_set, is_over, can_plan}
use Rattle.krieg_costs.specs.Sums.{Pair}
use Rattle.krieg_costs.specs.Block.{block_pair}
use Rattle.krieg_costs.specs.Backing.{first_lost}

module _ (G : Game) where
  -- with a pair that cannot be won: the pair of the block of each try that is legal in some member
  abbrev pub KeepsLost : List (Pair G) → Type 0
  KeepsLost R = (B : List G.Position) (j : ℕ) → In (B, j) R → can G j B ≡ false → (t : G.Move) → legal_in_some G B t ≡ true → IfSome (block_pair G j B t) (λ q. In q R)

  -- what goes with a set at its least number, j + 1, and its first try
  pub record HasWon (R : List (Pair G)) (B : List G.Position) (j : ℕ) (m : G.Move) : Type 0 where
    pub below : 0 < j → In (B, j) R
    pub classes : (key : G.Key) → In key (keys G B m) → In (class G B m key, least G j (class G B m key)) R
    pub refused_part : is_nil (refused G B m) ≡ false → In (refused G B m, least G (suc j) (refused G B m)) R
    pub earlier : (t : G.Move) → legal_in_some G B t ≡ true → G.move_lt t m ≡ true → IfSome (block_pair G (suc j) B t) (λ q. In q R)

  -- with a pair at its least number: all that goes with it
  abbrev pub KeepsWon : List (Pair G) → Type 0
  KeepsWon R = (B : List G.Position) (j : ℕ) (m : G.Move) → In (B, suc j) R → can G j B ≡ false → first_try G (suc j) B ≡ Some m → HasWon R B j m

module _ (G : Game) (O : Outset G) where
  -- the list keeps all rules of backing
  pub record IsBacking (n : ℕ) (S : List G.Position) (R : List (Pair G)) : Type 0 where
    -- where all opening sets can be won, each at its least number; else the first that cannot, with n
    pub all_won : can_plan G O n S ≡ true → (key : O.Root) → In key (openings G O S) → In (opening_set G O S key, least G n (opening_set G O S key)) R
    pub one_lost : list_any (is_over G O) S ≡ false → 0 < n → IfSome (first_lost G O n S) (λ key. In (opening_set G O S key, n) R)
    pub keeps_lost : KeepsLost G R
    pub keeps_won : KeepsWon G R
