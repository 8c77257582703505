-- When stored results are right, and stand on others that are stored.
use Rattle.std.specs.Prelude.{◌≡◌, ℕ, ◌<◌, Bool, true, false, List, Option, Some, None, IfSome, ⊤}
use Rattle.krieg_theory.specs.Sets.{In, is_nil}
use Rattle.krieg_theory.specs.Game.{Game}
use Rattle.krieg_theory.specs.Split.{refused, legal_in_some, keys, class}
use Rattle.krieg_theory.specs.Can.{first_try}
use Rattle.krieg_costs.specs.Sums.{Pair}
use Rattle.krieg_costs.specs.Block.{block_pair}
use Rattle.krieg_accounts.specs.Stored.{Entries, stored}

module _ (G : Game) where
  -- a table of results
  abbrev pub Table : Type 0
  Table = Entries G.Position G.Move

  -- what is known of a pair
  abbrev pub known : Table → Pair G → Option (Option G.Move)
  known T q = stored G.position_lt T q

  -- the pair is stored as lost: the set cannot be won within the number
  abbrev pub StoredLost : Table → Pair G → Type 0
  StoredLost T q = known T q ≡ Some None

  -- the set is stored as won with some number
  abbrev pub StoredWon : Table → List G.Position → Type 0
  StoredWon T X = (i : ℕ) × (m : G.Move) × (known T (X, i) ≡ Some (Some m))

  -- the try comes before the one that wins; where none wins, every try does
  abbrev pub IsEarlier : Option G.Move → G.Move → Type 0
  IsEarlier None t = ⊤
  IsEarlier (Some m) t = G.move_lt t m ≡ true

-- A search may cut a try that is known to fail: of its parts nothing is stored then. So where tries may be cut, results do
-- not stand on the blocks of earlier tries.
module _ (G : Game) (cut : Bool) where
  -- What the result o of a pair stands on. With every smaller number the set is stored as lost. Of each earlier try the
  -- pair of the block is stored as lost. And of the try that wins each class and the refused part are stored as won.
  pub record IsBacked (T : Table G) (B : List G.Position) (j : ℕ) (o : Option G.Move) : Type 0 where
    pub some : 0 < j
    pub below : (i : ℕ) → 0 < i → i < j → StoredLost G T (B, i)
    pub earlier : cut ≡ false → (t : G.Move) → legal_in_some G B t ≡ true → IsEarlier G o t → IfSome (block_pair G j B t) (λ q. StoredLost G T q)
    pub classes : (m : G.Move) → o ≡ Some m → (key : G.Key) → In key (keys G B m) → StoredWon G T (class G B m key)
    pub refused_part : (m : G.Move) → o ≡ Some m → is_nil (refused G B m) ≡ false → StoredWon G T (refused G B m)

  -- each stored result is the first try that wins, and is backed
  pub record IsSound (T : Table G) : Type 0 where
    pub right : (B : List G.Position) (j : ℕ) (o : Option G.Move) → known G T (B, j) ≡ Some o → o ≡ first_try G j B
    pub backed : (B : List G.Position) (j : ℕ) (o : Option G.Move) → known G T (B, j) ≡ Some o → IsBacked T B j o
