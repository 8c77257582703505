-- A set of squares as a number: a square belongs to it exactly where its bit is set.
use Rattle.std.specs.Prelude.{ℕ, zero, suc, Bool, true, false, ◌≡◌, ◌<◌, ◌+◌, ◌/◌, ◌%◌, ◌^◌, ◌==◌, if◌then◌else◌}

-- the square belongs to the set
unfoldable pub has : ℕ → ℕ → Bool
has n k = n / 2 ^ k % 2 == 1

-- the square belongs to the set, and no square with a lower number does
pub record IsLowest (n s : ℕ) : Type 0 where
  pub below : s < 64
  pub member : has n s ≡ true
  pub first : (k : ℕ) → k < s → has n k ≡ false

-- the set of the squares below n that pass the test
unfoldable pub set_below : (ℕ → Bool) → ℕ → ℕ
set_below test zero = 0
set_below test (suc n) = set_below test n + (if test n then 2 ^ n else 0)

-- the set of the squares that pass the test
unfoldable pub squares_where : (ℕ → Bool) → ℕ
squares_where test = set_below test 64
