-- What is seen of a run before it and after it.
use Rattle.std.specs.Prelude.{◌≡◌, ℕ, List, Option}
use Rattle.krieg_ports.specs.Faults.{Rose}

-- what a stream shows: the bytes that are left in it, or that it got, where it tells them, and how many of its calls failed
pub record Stream : Type 0 where
  pub bytes : Option (List ℕ)
  pub faults : ℕ

-- what a stream shows
abbrev pub stream : {X : Type 0} → (X → Option (List ℕ)) → (X → ℕ) → X → Stream
stream bytes faults x = record { bytes = bytes x; faults = faults x }

-- the input, and the sink for the answer
pub record World : Type 0 where
  pub input : Stream
  pub out : Stream

-- what the input and the sink of the answer show
abbrev pub world : {I O : Type 0} → (I → Option (List ℕ)) → (I → ℕ) → (O → Option (List ℕ)) → (O → ℕ) → I → O → World
world left input_faults got out_faults input out = record { input = stream left input_faults input; out = stream got out_faults out }

-- the count of faults rose
abbrev pub FaultsRose : Stream → Stream → Type 0
FaultsRose before after = Rose before.faults after.faults

-- no call failed: the count of faults is as it was
abbrev pub NoFault : Stream → Stream → Type 0
NoFault before after = after.faults ≡ before.faults
