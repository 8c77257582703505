-- A position at a place of a list is in it.
use Rattle.std.proofs.Common.{◌≡◌, ℕ, zero, suc, List, [], ◌∷◌, inl, inr, Some}
use Rattle.std.specs.Prelude.{slice_get}
use Rattle.krieg_plan.proofs.Common.{In}

pub get_in : {X : Type 0} (xs : List X) (i : ℕ) (x : X) → slice_get xs i ≡ Some x → In x xs
get_in [] i x e = absurd cc
get_in (y ∷ ys) zero x e = inl cc
get_in (y ∷ ys) (suc i) x e = inr (get_in ys i x e)
