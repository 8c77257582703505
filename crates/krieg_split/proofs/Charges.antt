-- What is taken of the caller's units at the end.
use Rattle.std.proofs.Common.{◌≡◌, ℕ, Result, Ok, Err, refl, subst, arith}
use Rattle.std.specs.Result.{IsErrAnd}
use Rattle.krieg_split.proofs.Common.{PartStop, Spent, NoMemory, Charges, IsPaid}

-- all of the work was too dear, on other units: the caller's are as they were
pub unpaid : {A B : Type 0} (Q : PartStop → Type 0) (r : Result B PartStop) (e : PartStop) (holds : A → Type 0) (cost all units old now : ℕ) →
    ((x : PartStop) → Q x → e ≡ x) → IsErrAnd r Q → cost ≡ all → old ≡ units → Charges (Err e) holds cost old now → IsPaid r all units units
unpaid Q (Ok x) e holds cost all units old now passed_on fails same start h = absurd fails
unpaid {A = A} {B = B} Q (Err x) e holds cost all units old now passed_on fails same start h =
    go x (subst (λ (y : PartStop). Charges {A = A} (Err y) holds cost old now) (passed_on x fails) h)
  where
    go : (y : PartStop) → Charges {A = A} (Err y) holds cost old now → IsPaid {A = B} (Err y) all units units
    go Spent k = (omega (arith, same, start, k.0), refl)
    go NoMemory k = refl
