-- Outcomes in buckets: for each key its positions, in any order and perhaps more than once.
use Rattle.std.specs.Prelude.{◌≡◌, ℕ, ◌-◌, ◌/◌, ◌<◌, ◌≤◌, nat_lt, length, if◌then◌else◌, true, List, [], ◌∷◌, ◌++◌, map, flat_map, take, drop, Result, Ok, Err}
use Rattle.std.specs.List.{HoldsAt}
use Rattle.krieg_board.specs.Pos.{Pos}
use Rattle.krieg_theory.specs.Sets.{In, Ascending}
use Rattle.krieg_pack.specs.Members.{set_of}
use Rattle.krieg_game.specs.Keys.{Key, key_lt}
use Rattle.krieg_game.specs.Outcomes.{KeyedPosition}
use Rattle.krieg_game.specs.Classes.{outcome_set}
use Rattle.krieg_game.specs.declared.bucket.Bucket.{Bucket}

-- the room that is wanted where so many are left of all: four times as much is taken before repeats are dropped again,
-- or twice as much as is left, where one in eight was a repeat
abbrev pub wanted_room : ℕ → ℕ → ℕ
wanted_room all left = if nat_lt (all - left) (all / 8) then left else left / 2

-- the outcomes of a bucket
abbrev pub outcomes_of : Bucket → List KeyedPosition
outcomes_of b = map (λ p. (b.heard, p)) b.positions.items

-- those of all buckets
abbrev pub outcomes_in : List Bucket → List KeyedPosition
outcomes_in bs = flat_map outcomes_of bs

-- the class of a bucket
abbrev pub bucket_class : Bucket → Key × List Pos
bucket_class b = (b.heard, set_of b.positions.items)

-- their keys ascend, and none is empty
pub record AreBuckets (bs : List Bucket) : Type 0 where
  pub ascending : Ascending key_lt (map (λ (b : Bucket). b.heard) bs)
  pub filled : (b : Bucket) → In b bs → (p : Pos) × In p b.positions.items

-- the same positions, and one more
pub record Gains (old new : Bucket) (p : Pos) : Type 0 where
  pub heard_part : new.heard ≡ old.heard
  pub positions_part : set_of new.positions.items ≡ set_of (old.positions.items ++ p ∷ [])

-- nothing came
pub record IsAsBefore (old new : Bucket) : Type 0 where
  pub heard_part : new.heard ≡ old.heard
  pub positions_part : new.positions.items ≡ old.positions.items

-- each position is kept once
pub record IsTrimmed (old new : Bucket) : Type 0 where
  pub heard_part : new.heard ≡ old.heard
  pub positions_part : new.positions.items ≡ set_of old.positions.items

-- the place of the key's bucket, or the place before which all keys are less and behind which all are greater
abbrev pub IsPlace : List Bucket → Key → Result ℕ ℕ → Type 0
IsPlace bs key (Ok i) = (i < length bs) × HoldsAt (λ (b : Bucket). b.heard ≡ key) bs i
IsPlace bs key (Err i) = (i ≤ length bs) × ((b : Bucket) → In b (take i bs) → key_lt b.heard key ≡ true) × ((b : Bucket) → In b (drop i bs) → key_lt key b.heard ≡ true)

-- the outcomes of a list, but for their order and repeats
abbrev pub Holds : List KeyedPosition → List KeyedPosition → Type 0
Holds pool os = outcome_set pool ≡ outcome_set os
