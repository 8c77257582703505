-- Losses among stored results.
use Rattle.std.specs.Prelude.{Bool, true, false, Option, Some, None}

-- what is stored of a pair is that it cannot be won
abbrev pub is_loss : {M : Type 0} → Option (Option M) → Bool
is_loss None = false
is_loss (Some None) = true
is_loss (Some (Some m)) = false
