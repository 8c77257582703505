-- What a test says, and whether a text is a name.
use Rattle.std.proofs.Common.{◌≡◌, ℕ, Bool, true, false, List, refl}
use Rattle.std.specs.Str.{bytes_eq}
use Rattle.std.proofs.lemmas.Slice.Eq.{bytes_eq-Decides}

pub by_test : (P : Bool → Type 0) (t : Bool) → (t ≡ true → P true) → (t ≡ false → P false) → P t
by_test P true holds fails = holds refl
by_test P false holds fails = fails refl

pub by_name : (P : Bool → Type 0) (text name : List ℕ) → (text ≡ name → P true) → P false → P (bytes_eq text name)
by_name P text name same other = by_test P (bytes_eq text name) (λ h. same ((bytes_eq-Decides text name).0 h)) (λ h. other)
