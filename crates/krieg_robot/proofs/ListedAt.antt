-- A position by its number in a list, as code reads it.
use Rattle.std.proofs.Common.{◌≡◌, ℕ, ◌-◌, ◌≤◌, List, length, refl, ap, subst, arith, get_or, Some}
use Rattle.std.specs.Prelude.{slice_get}
use Rattle.std.proofs.lemmas.Option.{slice_get_read}

-- the listed position with a number, counted from 1
pub listed : {X : Type 0} (ps qs : List X) (n : ℕ) (p : X) → ps ≡ qs → 1 ≤ n → n ≤ length qs → p ≡ get_or ps (n - 1) p → slice_get qs (n - 1) ≡ Some p
listed ps qs n p same some within read = subst (λ xs. slice_get xs (n - 1) ≡ Some p) same (slice_get_read ps (length ps) (n - 1) p refl (omega (arith, ap length same)) read)
