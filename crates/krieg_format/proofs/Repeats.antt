-- Code that takes one item after another in a loop: what it has, and what is read after it, is what the whole gives.
use Rattle.std.proofs.Common.{◌≡◌, ℕ, suc, ◌+◌, ◌-◌, ◌<◌, ◌≤◌, List, [], ◌∷◌, ◌++◌, Result, Ok, Err, refl, sym, ap, ◌∙◌, append_assoc, arith}
use Rattle.std.proofs.lemmas.List.{append-nil}
use Rattle.krieg_format.proofs.Common.{TextFault, At, NoMemory, TextKind, ◌>>=◌, Place, LineReader, taken, GivesOn, repeated}

-- the items of the list, and those that are read after them
abbrev pub with_front : {A : Type 0} → List A → Result (List A × Place) TextFault → Result (List A × Place) TextFault
with_front list r = r >>= λ o. Ok (list ++ o.0, o.1)

-- one line that is read alone
pub line_gives : {X A : Type 0} (view : X → A) (form : List ℕ → Result A TextKind) (answer : Result X TextFault) (p q : Place) → GivesOn view answer q (taken form p) →
    GivesOn view answer q (◌>>=◌ {B = A × Place} (taken form p) (λ x. Ok (x.0, x.1)))
line_gives view form answer p q given = grind arith

module _ {S A : Type 0} (item : S → LineReader A) (next : S → A → S) where
  abbrev rest : S → ℕ → A × Place → Result (List A × Place) TextFault
  rest s n x = repeated n item next (next s x.0) x.1 >>= λ o. Ok (x.0 ∷ o.0, o.1)

  front_push : (list : List A) (x : A) (r : Result (List A × Place) TextFault) → with_front list (◌>>=◌ {B = List A × Place} r (λ o. Ok (x ∷ o.0, o.1))) ≡ with_front (list ++ x ∷ []) r
  front_push list x (Ok o) = ap (λ (t : List A). Ok (t, o.1)) (sym (append_assoc list (x ∷ []) o.0))
  front_push list x (Err e) = refl

  step : (n i : ℕ) (s : S) (from : Place) → i < n → repeated (n - i) item next s from ≡ (item s from >>= rest s (n - (i + 1)))
  step n i s from lt = let one : n - i ≡ suc (n - (i + 1)) = omega arith in ap (λ (k : ℕ). repeated k item next s from) one

  pub item_ok : (list : List A) (n i : ℕ) (s : S) (from new : Place) (x : A) (all : Result (List A × Place) TextFault) → i < n → item s from ≡ Ok (x, new) →
      with_front list (repeated (n - i) item next s from) ≡ all → with_front (list ++ x ∷ []) (repeated (n - (i + 1)) item next (next s x) new) ≡ all
  item_ok list n i s from new x all lt read so =
      sym (front_push list x (repeated (n - (i + 1)) item next (next s x) new)) ∙ ap (with_front list) (sym (step n i s from lt ∙ ap (λ (r : Result (A × Place) TextFault). r >>= rest s (n - (i + 1))) read)) ∙ so

  item_fails : (list : List A) (n i : ℕ) (s : S) (from : Place) (e : TextFault) (all : Result (List A × Place) TextFault) → i < n → item s from ≡ Err e →
      with_front list (repeated (n - i) item next s from) ≡ all → all ≡ Err e
  item_fails list n i s from e all lt read so = sym so ∙ ap (with_front list) (step n i s from lt ∙ ap (λ (r : Result (A × Place) TextFault). r >>= rest s (n - (i + 1))) read)

  -- the same of what the code answered
  pub item_gives : {X Y : Type 0} (view : X → A) (views : Y → List A) (list : List A) (n i : ℕ) (s : S) (from new : Place) (e : TextFault) (all : Result (List A × Place) TextFault) → i < n →
      GivesOn view (Err e) new (item s from) → with_front list (repeated (n - i) item next s from) ≡ all → GivesOn views (Err e) new all
  item_gives view views list n i s from new NoMemory all lt given so = tt
  item_gives view views list n i s from new (At line kind) all lt given so = (item_fails list n i s from (At line kind) all lt given.0 so, given.1)

  pub items_end : (list : List A) (n i : ℕ) (s : S) (from : Place) (all : Result (List A × Place) TextFault) → n ≤ i → with_front list (repeated (n - i) item next s from) ≡ all → all ≡ Ok (list, from)
  items_end list n i s from all past so =
      let none : n - i ≡ 0 = omega arith in
      sym so ∙ ap (λ (k : ℕ). with_front list (repeated k item next s from)) none ∙ ap (λ (xs : List A). Ok (xs, from)) (append-nil list)
