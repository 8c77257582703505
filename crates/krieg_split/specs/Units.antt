-- The units that an answer takes, where an error takes none.
use Rattle.std.specs.Prelude.{◌≡◌, ℕ, ◌+◌, ◌<◌, Result, Ok, Err}
use Rattle.krieg_parting.specs.declared.stop.PartStop.{PartStop}
use Rattle.krieg_parting.specs.declared.stop.PartStop.TheVariants.{Spent, NoMemory}
pub use Rattle.krieg_parting.specs.Charges.{Charges}

-- An answer takes exactly its cost. An error takes none, and Spent comes only where fewer units are left.
abbrev pub IsPaid : {A : Type 0} → Result A PartStop → ℕ → ℕ → ℕ → Type 0
IsPaid (Ok x) cost old new = new + cost ≡ old
IsPaid (Err Spent) cost old new = (old < cost) × (new ≡ old)
IsPaid (Err NoMemory) cost old new = new ≡ old
