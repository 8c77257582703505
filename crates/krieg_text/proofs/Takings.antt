-- A reader of lines taken apart: what each of its steps gave, and the line that was taken.
use Rattle.std.proofs.Common.{◌≡◌, ℕ, ◌+◌, List, [], ◌∷◌, Result, Ok, Err, refl, sym, ap, ◌∙◌}
use Rattle.krieg_text.proofs.Common.{TextFault, At, NoMemory, TextKind, ◌>>=◌, Place, place, LineReader, on, taken, Step, goes_on, stops, up_to_last, ended, whole, GivesOn}
use Rattle.krieg_text.proofs.Locality.{ok_is}

-- the first of two steps that gave a value, and the second
pub record Steps {A B E : Type 0} (r : Result A E) (f : A → Result B E) (y : B) : Type 0 where
  pub mid : A
  pub first : r ≡ Ok mid
  pub second : f mid ≡ Ok y

pub steps : {A B E : Type 0} (r : Result A E) (f : A → Result B E) (y : B) → (r >>= f) ≡ Ok y → Steps r f y
steps (Ok x) f y h = record { mid = x; first = refl; second = h }
steps (Err e) f y h = absurd cc

-- a line that was taken is the next one and has the form
pub record TakenAt {A : Type 0} (form : List ℕ → Result A TextKind) (p q : Place) (x : A) : Type 0 where
  pub text : List ℕ
  pub is : form text ≡ Ok x
  pub left : p.left ≡ text ∷ q.left

pub taken_at : {A : Type 0} (form : List ℕ → Result A TextKind) (p q : Place) (x : A) → taken form p ≡ Ok (x, q) → TakenAt form p q x
taken_at {A = A} form p q x e = go p.left e
  where
    by_form : (l : List ℕ) (ls : List (List ℕ)) (f : Result A TextKind) → form l ≡ f → ◌>>=◌ {B = A × Place} (on p.number f) (λ v. Ok (v, place (p.number + 1) ls)) ≡ Ok (x, q) → TakenAt form (place p.number (l ∷ ls)) q x
    by_form l ls (Err kind) is h = absurd cc
    by_form l ls (Ok v) is h =
        let same = ok_is {A = A × Place} (v, place (p.number + 1) ls) (x, q) h in
        record { text = l; is = is ∙ ap (λ (t : A × Place). Ok t.0) same; left = ap (λ (t : A × Place). l ∷ t.1.left) same }

    go : (ls : List (List ℕ)) → taken form (place p.number ls) ≡ Ok (x, q) → TakenAt form (place p.number ls) q x
    go [] h = absurd cc
    go (l ∷ ls) h = by_form l ls (form l) refl h

-- a line of the form is taken
pub taken_again : {A : Type 0} (form : List ℕ → Result A TextKind) (n : ℕ) (l : List ℕ) (ls : List (List ℕ)) (x : A) → form l ≡ Ok x → taken form (place n (l ∷ ls)) ≡ Ok (x, place (n + 1) ls)
taken_again {A = A} form n l ls x is = ap (λ (f : Result A TextKind). ◌>>=◌ {B = A × Place} (on n f) (λ v. Ok (v, place (n + 1) ls))) is

-- the reading gives x and leaves the lines rest
pub record Read {A : Type 0} (r : Result (A × Place) TextFault) (x : A) (rest : List (List ℕ)) : Type 0 where
  pub number : ℕ
  pub is : r ≡ Ok (x, place number rest)

-- a text that is read whole leaves no line
pub whole_read : {A : Type 0} (r : LineReader A) (ls : List (List ℕ)) (x : A) → whole r ls ≡ Ok x → Read (r (place 1 ls)) x []
whole_read {A = A} r ls x h =
    let s = steps (r (place 1 ls)) (λ y. ended y.0 y.1.number y.1.left) x h in
    close s.mid.0 s.mid.1.number s.mid.1.left s.first s.second
  where
    close : (y : A) (n : ℕ) (left : List (List ℕ)) → r (place 1 ls) ≡ Ok (y, place n left) → ended y n left ≡ Ok x → Read (r (place 1 ls)) x []
    close y n [] is h = let same = ok_is y x h in record { number = n; is = is ∙ ap (λ (z : A). Ok (z, place n [])) same }
    close y n (l ∷ left) is h = absurd cc

pub read_whole : {A : Type 0} (r : LineReader A) (ls : List (List ℕ)) (x : A) → Read (r (place 1 ls)) x [] → whole r ls ≡ Ok x
read_whole {A = A} r ls x h = ap (λ (t : Result (A × Place) TextFault). t >>= λ y. ended y.0 y.1.number y.1.left) h.is

-- ---- line after line, up to the one that stops, by what the next line gave

-- the form of a line reads it, and what is read leads on
module _ {S A B : Type 0} (form : S → List ℕ → Result (Step S A) TextKind) (read : List ℕ → Result B TextKind) (s : S) (lead : B → Step S A) (is : (l : List ℕ) → form s l ≡ (read l >>= λ x. Ok (lead x))) where
  abbrev led : Step S A → Place → Result (A × Place) TextFault
  led t q = elim t [ stops y ↦ Ok (y, q) | goes_on t ↦ up_to_last form t q.number q.left ]

  abbrev loop : ℕ → List (List ℕ) → Result (Step S A) TextKind → Result (A × Place) TextFault
  loop n ls f = on n f >>= λ t. led t (place (n + 1) ls)

  loop_is : (n : ℕ) (ls : List (List ℕ)) → up_to_last form s n ls ≡ (taken read (place n ls) >>= λ x. led (lead x.0) x.1)
  loop_is n [] = refl
  loop_is n (l ∷ ls) = ap (loop n ls) (is l) ∙ go (read l)
    where
      go : (f : Result B TextKind) → loop n ls (f >>= λ x. Ok (lead x)) ≡ (◌>>=◌ {B = B × Place} (on n f) (λ x. Ok (x, place (n + 1) ls)) >>= λ x. led (lead x.0) x.1)
      go (Ok x) = refl
      go (Err kind) = refl

  -- the line stops
  pub loop_stops : (p q : Place) (x : B) (y : A) (all : Result (A × Place) TextFault) → taken read p ≡ Ok (x, q) → lead x ≡ stops y → up_to_last form s p.number p.left ≡ all → all ≡ Ok (y, q)
  loop_stops p q x y all e to so = sym so ∙ loop_is p.number p.left ∙ ap (λ (r : Result (B × Place) TextFault). r >>= λ x. led (lead x.0) x.1) e ∙ ap (λ (t : Step S A). led t q) to

  -- it leads on
  pub loop_goes : (p q : Place) (x : B) (t : S) (all : Result (A × Place) TextFault) → taken read p ≡ Ok (x, q) → lead x ≡ goes_on t → up_to_last form s p.number p.left ≡ all → up_to_last form t q.number q.left ≡ all
  loop_goes p q x t all e to so = sym (loop_is p.number p.left ∙ ap (λ (r : Result (B × Place) TextFault). r >>= λ x. led (lead x.0) x.1) e ∙ ap (λ (t : Step S A). led t q) to) ∙ so

  -- it is refused, or missing
  pub loop_refused : {X : Type 0} (view : X → A) (p q : Place) (e : TextFault) (all : Result (A × Place) TextFault) → GivesOn {X = B} (λ x. x) (Err e) q (taken read p) → up_to_last form s p.number p.left ≡ all → GivesOn view (Err e) q all
  loop_refused view p q NoMemory all given so = tt
  loop_refused view p q (At line kind) all given so = (sym so ∙ loop_is p.number p.left ∙ ap (λ (r : Result (B × Place) TextFault). r >>= λ x. led (lead x.0) x.1) given.0, given.1)
