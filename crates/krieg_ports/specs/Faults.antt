-- Counts of faults and of calls, which a program keeps in 64 bits.
use Rattle.std.specs.Prelude.{ℕ, zero, suc, ◌+◌, ◌-◌, ◌^◌, ◌≤◌, min}

-- the last value of such a count
abbrev pub last_count : ℕ
last_count = 2 ^ 64 - 1

-- a count after one more: it stands still at its last value
abbrev pub one_more : ℕ → ℕ
one_more count = min (count + 1) last_count

-- a count after so many more
abbrev pub many_more : ℕ → ℕ → ℕ
many_more zero count = count
many_more (suc n) count = one_more (many_more n count)

-- the count rose, or it stands at its last value
abbrev pub Rose : ℕ → ℕ → Type 0
Rose before now = one_more before ≤ now
