-- What came from a source and what reached a sink, where the two tell their bytes.
use Rattle.std.specs.Prelude.{◌≡◌, ℕ, ◌<◌, ◌≤◌, List, ◌++◌, length, Option, Result, IfOk}
use Rattle.std.specs.Io.KnownBytes.{Appends, Consumes}

-- a write took no more than the piece has, and at least one byte of a piece that is not empty
abbrev pub TakesSome : {E : Type 0} → Result ℕ E → List ℕ → Type 0
TakesSome result piece = IfOk result (λ n. (n ≤ length piece) × (0 < length piece → 0 < n))

-- a sink got some front part of the text, which may be all of it or nothing
abbrev pub AppendsPrefix : Option (List ℕ) → Option (List ℕ) → List ℕ → Type 0
AppendsPrefix old new text = (sent rest : List ℕ) × (text ≡ sent ++ rest) × Appends old new sent

-- a source gave some bytes, and P holds of how many
abbrev pub Gave : Option (List ℕ) → Option (List ℕ) → (ℕ → Type 0) → Type 0
Gave old new P = (given : List ℕ) × Consumes old new given × P (length given)
