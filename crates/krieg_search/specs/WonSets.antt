-- What a table says of sets that are won, and what it must say for these to be split again.
use Rattle.std.specs.Prelude.{◌≡◌, ℕ, Bool, false, ◌<◌, ◌≤◌, ◌^◌, List, Some}
use Rattle.krieg_board.specs.Pos.{Pos}
use Rattle.krieg_board.specs.declared.men.Move.{Move}
use Rattle.krieg_words.specs.declared.dialects.Dialect.{Dialect}
use Rattle.krieg_pack.specs.Order.{position_lt}
use Rattle.krieg_costs.specs.Cost.{made}
use Rattle.krieg_accounts.specs.Stored.{stored}
use Rattle.krieg_accounts.specs.Charges.{charged}
use Rattle.krieg_game.specs.Chess.{chess}
use Rattle.krieg_table.specs.SetRows.{SetRows}
use Rattle.krieg_table.specs.Entries.{entries}
use Rattle.krieg_search.specs.Stretches.{IsReady}

-- the set is stored as won within j
abbrev pub WonBy : SetRows → List Pos → ℕ → Type 0
WonBy T X j = (i : ℕ) × (0 < i) × (i ≤ j) × (m : Move) × (stored position_lt (entries T) (X, i) ≡ Some (Some m))

module _ (d : Dialect) where
  -- the split of each try that is stored as winning takes fewer units
  abbrev pub WinsAreBelow : ℕ → SetRows → Type 0
  WinsAreBelow most T = (q : List Pos × ℕ) (m : Move) → stored position_lt (entries T) q ≡ Some (Some m) → made (chess d) q.0 m < most

  -- What building needs of a table: right results, and that 64 bits count the units of the split by each try that wins.
  -- Where no try was cut, they count all units that the results stand for.
  pub record IsPaidFor (cut : Bool) (T : SetRows) : Type 0 where
    pub ready : IsReady d cut T
    pub paid : cut ≡ false → charged (chess d) (entries T) < 2 ^ 64
    pub wins : WinsAreBelow (2 ^ 64) T
