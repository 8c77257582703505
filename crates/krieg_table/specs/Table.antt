-- What calls do to a table.
use Rattle.std.specs.Prelude.{◌≡◌, ℕ, ◌<◌, ◌≤◌, ◌⊎◌, List, length, Some, None}
use Rattle.krieg_board.specs.Pos.{Pos}
use Rattle.krieg_board.specs.declared.men.Move.{Move}
use Rattle.krieg_pack.specs.Order.{position_lt}
use Rattle.krieg_theory.specs.Sets.{In}
use Rattle.krieg_costs.specs.Sums.{IsOnce}
use Rattle.krieg_accounts.specs.Stored.{PairOf, stored, AddsResult}
use Rattle.krieg_table.specs.declared.set_result.SetResult.{SetResult}
use Rattle.krieg_table.specs.Results.{AreResults}
use Rattle.krieg_table.specs.SetRows.{Row, SetRows, sets, set_at}
use Rattle.krieg_table.specs.Entries.{try_of, entries}

-- no set has two numbers, and each is lost with fewer moves than it is won with
pub record IsTable (T : SetRows) : Type 0 where
  pub once : IsOnce (sets T)
  pub results : (r : Row) → In r T → AreResults r.1

-- each set has kept its number
pub record IsMore (T T' : SetRows) : Type 0 where
  pub longer : length T ≤ length T'
  pub same : (k : ℕ) → k < length T → set_at T' k ≡ set_at T k

-- the set has the number, no other set has come, and the results are as they were
pub record IsInterned (T T' : SetRows) (B : List Pos) (id : ℕ) : Type 0 where
  pub within : id < length T'
  pub at : set_at T' id ≡ B
  pub more : IsMore T T'
  pub only : (k : ℕ) → k < length T' → (k < length T) ⊎ (set_at T' k ≡ B)
  pub noted : entries T' ≡ entries T

-- a result of the set with the number may come next: the set is stored as lost with each smaller number of moves, nothing is stored with this
-- one, and no win with a greater one
pub record IsNext (T : SetRows) (id moves : ℕ) : Type 0 where
  pub some : 0 < moves
  pub below : (i : ℕ) → 0 < i → i < moves → stored position_lt (entries T) (set_at T id, i) ≡ Some None
  pub unknown : stored position_lt (entries T) (set_at T id, moves) ≡ None
  pub above : (i : ℕ) (m : Move) → moves < i → stored position_lt (entries T) (set_at T id, i) ≡ Some (Some m) → ⊥

-- the result is there, and all else is as it was
pub record IsNoted (T T' : SetRows) (id moves : ℕ) (k : SetResult) : Type 0 where
  pub same_sets : sets T' ≡ sets T
  pub here : stored position_lt (entries T') (set_at T id, moves) ≡ Some (try_of k)
  pub others : (q : PairOf Pos) → (((set_at T id, moves) ≡ q) → ⊥) → stored position_lt (entries T') q ≡ stored position_lt (entries T) q
  -- it is one result more
  pub added : AddsResult position_lt (entries T) (entries T') (set_at T id, moves) (try_of k)
