-- What is taken one after another.
use Rattle.std.proofs.Common.{◌≡◌, ℕ, ◌+◌, ◌≤◌, Result, Ok, Err, subst, arith}
use Rattle.std.specs.Result.{IsErrAnd}
use Rattle.krieg_parting.proofs.Common.{PartStop, Spent, NoMemory, Charges}

-- a step was too dear: with what comes later, all is
pub stopped : {A B : Type 0} (Q : PartStop → Type 0) (r : Result B PartStop) (e : PartStop) (holds : A → Type 0) (wanted : B → Type 0) (cost all old mid new : ℕ) →
    ((x : PartStop) → Q x → e ≡ x) → IsErrAnd r Q → old + cost ≤ mid + all → mid ≤ old → Charges (Err e) holds cost mid new → Charges r wanted all old new
stopped Q (Ok x) e holds wanted cost all old mid new same fails so less h = absurd fails
stopped {A = A} Q (Err x) e holds wanted cost all old mid new same fails so less h =
    go x (subst (λ (y : PartStop). Charges {A = A} (Err y) holds cost mid new) (same x fails) h)
  where
    go : (y : PartStop) → Charges {A = A} (Err y) holds cost mid new → Charges (Err y) wanted all old new
    go Spent k = (omega (arith, so, k.0), omega (arith, less, k.1))
    go NoMemory k = omega (arith, less, k)

-- the last step of more, and its answer said otherwise
pub later : {A : Type 0} (r : Result A PartStop) (holds wanted : A → Type 0) (cost all old mid new : ℕ) → ((x : A) → holds x → wanted x) → old + cost ≡ mid + all → mid ≤ old
    → Charges r holds cost mid new → Charges r wanted all old new
later (Ok x) holds wanted cost all old mid new h e less k = (h x k.0, omega (arith, k.1, e))
later (Err Spent) holds wanted cost all old mid new h e less k = (omega (arith, k.0, e), omega (arith, less, k.1))
later (Err NoMemory) holds wanted cost all old mid new h e less k = omega (arith, less, k)

-- the same answer, said otherwise
pub said : {A : Type 0} (r : Result A PartStop) (holds wanted : A → Type 0) (cost all old new : ℕ) → ((x : A) → holds x → wanted x) → all ≡ cost → Charges r holds cost old new → Charges r wanted all old new
said r holds wanted cost all old new h e k = later r holds wanted cost all old old new h (omega (arith, e)) (omega arith) k

-- an answer that takes none
pub free : {A : Type 0} (r : Result A PartStop) (holds wanted : A → Type 0) (all units : ℕ) → ((x : A) → holds x → wanted x) → all ≡ 0 → Charges r holds 0 0 0 → Charges r wanted all units units
free (Ok x) holds wanted all units h e k = (h x k.0, omega (arith, e))
free (Err Spent) holds wanted all units h e k = absurd (omega (arith, k.0))
free (Err NoMemory) holds wanted all units h e k = omega arith
