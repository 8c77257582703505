-- A text in pieces.
use Rattle.std.specs.Prelude.{◌≡◌, ℕ, List, [], ◌++◌, Vec}
use Rattle.std.specs.declared.alloc.Global.{Global}
use Rattle.std.specs.List.{flat_map}
use Rattle.krieg_text.specs.Writing.{Written}

-- the bytes of all pieces in order
abbrev pub all_of : List (Vec ℕ Global) → List ℕ
all_of pieces = flat_map (λ piece. piece.items) pieces

-- the last piece was taken out of the text, and nothing is written after it yet
abbrev pub IsTaken : List ℕ → List ℕ → Written → Type 0
IsTaken old new last = (old ≡ new ++ last.before) × (last.written ≡ [])
