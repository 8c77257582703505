-- Tests that agree.
use Rattle.std.proofs.Common.{◌≡◌, Bool, true, false, not, ◌&&◌, ◌||◌, refl}

pub and_swap : (a x r y z : Bool) → ((a && x) && (r && (y && z))) ≡ (r && ((a && y) && (x && z)))
and_swap true true true y z = refl
and_swap true true false y z = refl
and_swap true false true true z = refl
and_swap true false true false z = refl
and_swap true false false y z = refl
and_swap false x true y z = refl
and_swap false x false y z = refl

pub not_or : (a b : Bool) → not (a || b) ≡ (not a && not b)
not_or true b = refl
not_or false b = refl
