-- What stored results took, and what is to be taken yet.
use Rattle.std.specs.Prelude.{ℕ, List, is_some, if◌then◌else◌}
use Rattle.krieg_theory.specs.Game.{Game}
use Rattle.krieg_costs.specs.Sums.{Pair, total}
use Rattle.krieg_costs.specs.Cost.{price}
use Rattle.krieg_costs.specs.Backing.{floor_price}
use Rattle.krieg_accounts.specs.Stored.{pairs}
use Rattle.krieg_accounts.specs.Sound.{Table, known}

module _ (G : Game) where
  -- what the stored results took: for each pair the splits of its tries up to the first that wins
  abbrev pub charged : Table G → ℕ
  charged T = total (floor_price G) (pairs T)

  -- what one pair may take yet: nothing where its result is stored, and else the splits of all tries
  abbrev pub owed : Table G → Pair G → ℕ
  owed T q = if is_some (known G T q) then 0 else price G q.0

  -- what the pairs of a list may take yet
  abbrev pub all_owed : List (Pair G) → Table G → ℕ
  all_owed R T = total (owed T) R
