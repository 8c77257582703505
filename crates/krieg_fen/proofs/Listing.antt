-- Reading listed positions line by line, and that this reading is local.
use Rattle.std.proofs.Common.{◌≡◌, ℕ, zero, suc, ◌+◌, ◌-◌, ◌<◌, ◌≤◌, List, [], ◌∷◌, ◌++◌, Option, None, Some, Result, Ok, Err, refl, sym, ap, ◌∙◌, append_assoc, arith}
use Rattle.std.proofs.lemmas.List.{append-nil}
use Rattle.std.specs.Prelude.{slice_get, unwrap_or}
use Rattle.std.specs.Result.{IsErrAnd}
use Rattle.krieg_fen.proofs.Common.{Pos, Side, TextFault, At, NoMemory, ◌>>=◌, Place, taken, GivesOn, Turn, listed_form, positions_at}
use Rattle.krieg_text.proofs.Locality.{IsLocal, local_pure, local_taken, local_bind}

-- what is read, after the positions of the front
abbrev pub with_front : List Pos → Result (List Pos × Place) TextFault → Result (List Pos × Place) TextFault
with_front front read = read >>= λ x. Ok (front ++ x.0, x.1)

first_push : (list : List Pos) (p : Pos) → slice_get (list ++ p ∷ []) 0 ≡ Some (unwrap_or (slice_get list 0) p)
first_push [] p = refl
first_push (q ∷ list) p = refl

front_push : (list : List Pos) (p : Pos) (r : Result (List Pos × Place) TextFault) → with_front list (r >>= λ o. Ok (p ∷ o.0, o.1)) ≡ with_front (list ++ p ∷ []) r
front_push list p (Ok x) = ap (λ (ps : List Pos). Ok (ps, x.1)) (sym (append_assoc list (p ∷ []) x.0))
front_push list p (Err e) = refl

more : (n i : ℕ) → i < n → n - i ≡ suc (n - (i + 1))
more n i lt = omega arith

-- what is read after the one position that was read next
abbrev rest : Turn → Side → List Pos → ℕ → Pos × Place → Result (List Pos × Place) TextFault
rest turn who list n x = positions_at turn who (Some (unwrap_or (slice_get list 0) x.0)) n x.1 >>= λ o. Ok (x.0 ∷ o.0, o.1)

pub listed_ok : (turn : Turn) (who : Side) (list : List Pos) (n i : ℕ) (from new : Place) (p : Pos) (all : Result (List Pos × Place) TextFault) → i < n →
    taken (listed_form turn who (slice_get list 0)) from ≡ Ok (p, new) →
    with_front list (positions_at turn who (slice_get list 0) (n - i) from) ≡ all →
    with_front (list ++ p ∷ []) (positions_at turn who (slice_get (list ++ p ∷ []) 0) (n - (i + 1)) new) ≡ all
listed_ok turn who list n i from new p all lt read so =
    let step : positions_at turn who (slice_get list 0) (n - i) from ≡ rest turn who list (n - (i + 1)) (p, new) =
    ap (λ (k : ℕ). positions_at turn who (slice_get list 0) k from) (more n i lt) ∙ ap (λ (r : Result (Pos × Place) TextFault). r >>= rest turn who list (n - (i + 1))) read in
    ap (λ (f : Option Pos). with_front (list ++ p ∷ []) (positions_at turn who f (n - (i + 1)) new)) (first_push list p)
    ∙ sym (front_push list p (positions_at turn who (Some (unwrap_or (slice_get list 0) p)) (n - (i + 1)) new))
    ∙ ap (with_front list) (sym step) ∙ so

listed_fails : (turn : Turn) (who : Side) (list : List Pos) (n i : ℕ) (from : Place) (e : TextFault) (all : Result (List Pos × Place) TextFault) → i < n →
    taken (listed_form turn who (slice_get list 0)) from ≡ Err e →
    with_front list (positions_at turn who (slice_get list 0) (n - i) from) ≡ all → all ≡ Err e
listed_fails turn who list n i from e all lt read so =
    sym so ∙ ap (with_front list) (ap (λ (k : ℕ). positions_at turn who (slice_get list 0) k from) (more n i lt) ∙ ap (λ (r : Result (Pos × Place) TextFault). r >>= rest turn who list (n - (i + 1))) read)

-- the same of what the code answered
pub listed_gives : {X : Type 0} (view : X → List Pos) (turn : Turn) (who : Side) (list : List Pos) (n i : ℕ) (from new : Place) (e : TextFault) (all : Result (List Pos × Place) TextFault) → i < n →
    GivesOn {X = Pos} (λ p. p) (Err e) new (taken (listed_form turn who (slice_get list 0)) from) →
    with_front list (positions_at turn who (slice_get list 0) (n - i) from) ≡ all → GivesOn view (Err e) new all
listed_gives view turn who list n i from new NoMemory all lt given so = tt
listed_gives view turn who list n i from new (At line kind) all lt given so = (listed_fails turn who list n i from (At line kind) all lt given.0 so, given.1)

pub listed_end : (turn : Turn) (who : Side) (list : List Pos) (n i : ℕ) (from : Place) (all : Result (List Pos × Place) TextFault) → n ≤ i →
    with_front list (positions_at turn who (slice_get list 0) (n - i) from) ≡ all → all ≡ Ok (list, from)
listed_end turn who list n i from all past so =
    let none : n - i ≡ 0 = omega arith in
    sym so ∙ ap (λ (k : ℕ). with_front list (positions_at turn who (slice_get list 0) k from)) none ∙ ap (λ (ps : List Pos). Ok (ps, from)) (append-nil list)

-- nothing was read yet
pub listed_start : (turn : Turn) (who : Side) (list : List Pos) (n : ℕ) (from : Place) → list ≡ [] →
    with_front list (positions_at turn who (slice_get list 0) (n - 0) from) ≡ positions_at turn who None n from
listed_start turn who list n from none =
    let all : n - 0 ≡ n = omega arith in
    rw (none, all) (whole (positions_at turn who None n from))
  where
    whole : (r : Result (List Pos × Place) TextFault) → with_front [] r ≡ r
    whole (Ok x) = refl
    whole (Err e) = refl

-- want of memory may be answered whatever is read
pub memory_gives : {X Y : Type 0} (view : X → Y) (r : Result X TextFault) (new : Place) (read : Result (Y × Place) TextFault) → IsErrAnd r (λ e. e ≡ NoMemory) → GivesOn view r new read
memory_gives view (Ok x) new read is = absurd is
memory_gives view (Err NoMemory) new read is = tt
memory_gives view (Err (At line kind)) new read is = absurd cc

pub local_positions : (n : ℕ) (turn : Turn) (who : Side) (first : Option Pos) → IsLocal (positions_at turn who first n)
local_positions zero turn who first = local_pure []
local_positions (suc n) turn who first =
    local_bind (taken (listed_form turn who first)) (λ one p. positions_at turn who (Some (unwrap_or first one)) n p >>= λ o. Ok (one ∷ o.0, o.1)) (local_taken (listed_form turn who first))
    (λ one. local_bind (positions_at turn who (Some (unwrap_or first one)) n) (λ o p. Ok (one ∷ o, p)) (local_positions n turn who (Some (unwrap_or first one))) (λ o. local_pure (one ∷ o)))
