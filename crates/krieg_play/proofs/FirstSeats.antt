-- The first place of a list: a write to it, and its removal.
use Rattle.std.proofs.Common.{◌≡◌, ◌<◌, List, [], ◌∷◌, length, refl, sym, ap, arith}
use Rattle.std.specs.Prelude.{slice_set, slice_index_or}
use Rattle.std.specs.List.{remove}
use Rattle.krieg_play.proofs.Common.{FirstChanges}

pub first_written : {X : Type 0} (R : X → X → Type 0) (xs : List X) (x y : X) → 0 < length xs → x ≡ slice_index_or xs 0 x → R x y →
    FirstChanges R xs (slice_set xs 0 y)
first_written R [] x y h e r = absurd (omega arith)
first_written {X} R (z ∷ zs) x y h e r = record { first = x; first' = y; behind = zs; then_is = ap (λ (t : X). t ∷ zs) (sym e); now_is = refl; changes = r }

pub first_removed : {X : Type 0} (xs : List X) (x : X) → 0 < length xs → x ≡ slice_index_or xs 0 x → xs ≡ x ∷ remove xs 0
first_removed [] x h e = absurd (omega arith)
first_removed {X} (z ∷ zs) x h e = ap (λ (t : X). t ∷ zs) (sym e)
