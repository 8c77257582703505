-- The units that an answer takes, or that they are too few.
use Rattle.std.specs.Prelude.{◌≡◌, ℕ, ◌+◌, ◌<◌, ◌≤◌, Result, Ok, Err}
use Rattle.krieg_parting.specs.declared.stop.PartStop.{PartStop}
use Rattle.krieg_parting.specs.declared.stop.PartStop.TheVariants.{Spent, NoMemory}

-- An answer takes exactly its cost, and Spent comes only where fewer units are left. After an error some may be gone, and
-- none are new.
abbrev pub Charges : {A : Type 0} → Result A PartStop → (A → Type 0) → ℕ → ℕ → ℕ → Type 0
Charges (Ok x) holds cost old new = holds x × (new + cost ≡ old)
Charges (Err Spent) holds cost old new = (old < cost) × (new ≤ old)
Charges (Err NoMemory) holds cost old new = new ≤ old
