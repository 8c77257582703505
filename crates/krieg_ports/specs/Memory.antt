-- A source and a sink in memory as contracts see them, and what one call makes of them.
use Rattle.std.specs.Prelude.{◌≡◌, ℕ, ◌-◌, ◌<◌, ◌⊎◌, List, ◌++◌, length, take, drop, min, Contains}
use Rattle.krieg_ports.specs.Faults.{one_more}

-- ---- a source

-- a source over bytes in memory: what is left, the most bytes of a call, the calls that fail, and how many calls and faults there were
pub record SourceInMemory : Type 0 where
  -- the bytes that are left
  pub left : List ℕ
  -- the most bytes that one call gives
  pub piece : ℕ
  -- the numbers of the calls that fail, from 1 on
  pub fails : List ℕ
  -- how many calls there were, and how many of them failed
  pub calls : ℕ
  pub faults : ℕ

-- the number of the next call stands among those that fail
abbrev pub FailsNext : SourceInMemory → Type 0
FailsNext s = Contains s.fails (one_more s.calls)

-- how many bytes a call gives to a buffer of so many places
abbrev pub given_count : SourceInMemory → ℕ → ℕ
given_count s places = min s.piece (min places (length s.left))

-- the source after a call that gave n bytes
abbrev pub after_read : SourceInMemory → ℕ → SourceInMemory
after_read s n = record s { left = drop n s.left; calls = one_more s.calls }

-- the source after a call that failed
abbrev pub after_failed_read : SourceInMemory → SourceInMemory
after_failed_read s = record s { calls = one_more s.calls; faults = one_more s.faults }

-- ---- a sink

-- a sink into memory: what it got, the room that is left, the most bytes of a call, the calls that fail, and how many calls and faults
-- there were
pub record SinkInMemory : Type 0 where
  -- the bytes that it got
  pub got : List ℕ
  -- how many places are free
  pub room : ℕ
  -- the most bytes that one call takes
  pub piece : ℕ
  -- the numbers of the calls that fail, from 1 on
  pub fails : List ℕ
  -- how many calls there were, and how many of them failed
  pub calls : ℕ
  pub faults : ℕ

-- the number of the next call stands among those that fail, or a byte finds no free place
abbrev pub RefusesNext : SinkInMemory → List ℕ → Type 0
RefusesNext s piece = Contains s.fails (one_more s.calls) ⊎ ((0 < length piece) × (s.room ≡ 0))

-- how many bytes of a piece a call takes, which is never more than there are free places
abbrev pub taken_count : SinkInMemory → List ℕ → ℕ
taken_count s piece = min s.piece (min (length piece) s.room)

-- the sink after a call that took the first n bytes of a piece
abbrev pub after_write : SinkInMemory → List ℕ → ℕ → SinkInMemory
after_write s piece n = record s { got = s.got ++ take n piece; room = s.room - n; calls = one_more s.calls }

-- the sink after a call that failed
abbrev pub after_failed_write : SinkInMemory → SinkInMemory
after_failed_write s = record s { calls = one_more s.calls; faults = one_more s.faults }
