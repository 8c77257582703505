-- A reader that takes line after line up to the one that stops it is local.
use Rattle.std.proofs.Common.{◌≡◌, inl, inr, ℕ, ◌+◌, List, [], ◌∷◌, ◌++◌, Result, Ok, Err, refl, sym, ap, ◌∙◌, arith}
use Rattle.krieg_text.proofs.Common.{TextFault, At, NoMemory, TextKind, Syntax, ◌>>=◌, Place, place, LineReader, on, Step, goes_on, stops, up_to_last}
use Rattle.krieg_text.proofs.Locality.{ReadFrom, FaultAt, IsLocal, ok_is}

abbrev pub loop : {S A : Type 0} → (S → List ℕ → Result (Step S A) TextKind) → S → LineReader A
loop form s p = up_to_last form s p.number p.left

-- what one line leads to
abbrev pub next : {S A : Type 0} → (S → List ℕ → Result (Step S A) TextKind) → ℕ → List (List ℕ) → Result (Step S A) TextKind → Result (A × Place) TextFault
next form n ls f = on n f >>= λ step. elim step [ stops x ↦ Ok (x, place (n + 1) ls) | goes_on s ↦ up_to_last form s (n + 1) ls ]

goes_by : {S A : Type 0} (form : S → List ℕ → Result (Step S A) TextKind) (l : List ℕ) (ls : List (List ℕ)) (s : S) (n : ℕ) (x : A) (q : Place) (f : Result (Step S A) TextKind) →
    ((t : S) → loop form t (place (n + 1) ls) ≡ Ok (x, q) → ReadFrom (loop form t) (n + 1) ls x q) →
    form s l ≡ f → next form n ls f ≡ Ok (x, q) → ReadFrom (loop form s) n (l ∷ ls) x q
goes_by form l ls s n x q (Err kind) more is h = absurd cc
goes_by {A = A} form l ls s n x q (Ok (stops y)) more is h =
    let same = ok_is {A = A × Place} (y, place (n + 1) ls) (x, q) h in
    let m : n + 1 ≡ q.number = ap (λ (t : A × Place). t.1.number) same in
    record {
      used = l ∷ [];
      is = ap (λ (t : A × Place). l ∷ t.1.left) same;
      number = omega arith;
      again = λ other. ap (next form n other) is ∙ ap (λ (t : A × Place). Ok (t.0, place t.1.number other)) same;
    }
goes_by form l ls s n x q (Ok (goes_on t)) more is h =
    let a = more t h in
    record {
      used = l ∷ a.used;
      is = ap (λ (k : List (List ℕ)). l ∷ k) a.is;
      number = omega (arith, a.number);
      again = λ other. ap (next form n (a.used ++ other)) is ∙ a.again other;
    }

loop_goes : {S A : Type 0} (form : S → List ℕ → Result (Step S A) TextKind) (ls : List (List ℕ)) (s : S) (n : ℕ) (x : A) (q : Place) →
    loop form s (place n ls) ≡ Ok (x, q) → ReadFrom (loop form s) n ls x q
loop_goes form [] s n x q e = absurd cc
loop_goes form (l ∷ ls) s n x q e = goes_by form l ls s n x q (form s l) (λ t. loop_goes form ls t (n + 1) x q) refl e

-- a fault of the lines after the first one
later : {S A : Type 0} (form : S → List ℕ → Result (Step S A) TextKind) (l : List ℕ) (ls : List (List ℕ)) (s t : S) (n : ℕ) (e : TextFault) →
    ((ms : List (List ℕ)) → loop form s (place n (l ∷ ms)) ≡ loop form t (place (n + 1) ms)) → FaultAt (loop form t) (n + 1) ls e → FaultAt (loop form s) n (l ∷ ls) e
later form l ls s t n NoMemory same h = h
later form l ls s t n (At line kind) same (inl past) = inl (omega (arith, past.0), past.1)
later form l ls s t n (At line kind) same (inr b) = inr (record {
  used = l ∷ b.used;
  bad = b.bad;
  rest = b.rest;
  is = ap (λ (k : List (List ℕ)). l ∷ k) b.is;
  number = omega (arith, b.number);
  again = λ other. same (b.used ++ b.bad ∷ other) ∙ b.again other;
  short = same b.used ∙ b.short;
})

here : {S A : Type 0} (form : S → List ℕ → Result (Step S A) TextKind) (l : List ℕ) (ls : List (List ℕ)) (s : S) (n : ℕ) (kind : TextKind) (e : TextFault) →
    form s l ≡ Err kind → At n kind ≡ e → FaultAt (loop form s) n (l ∷ ls) e
here form l ls s n kind NoMemory is same = absurd cc
here form l ls s n kind (At line k) is same =
    let m : n ≡ line = cc in
    inr (record { used = []; bad = l; rest = ls; is = refl; number = omega arith; again = λ other. ap (next form n other) is ∙ ap Err same; short = ap (λ (t : ℕ). Err (At t Syntax)) m })

stays_by : {S A : Type 0} (form : S → List ℕ → Result (Step S A) TextKind) (l : List ℕ) (ls : List (List ℕ)) (s : S) (n : ℕ) (e : TextFault) (f : Result (Step S A) TextKind) →
    ((t : S) → loop form t (place (n + 1) ls) ≡ Err e → FaultAt (loop form t) (n + 1) ls e) →
    form s l ≡ f → next form n ls f ≡ Err e → FaultAt (loop form s) n (l ∷ ls) e
stays_by form l ls s n e (Err kind) more is h = here form l ls s n kind e is cc
stays_by form l ls s n e (Ok (stops y)) more is h = absurd cc
stays_by form l ls s n e (Ok (goes_on t)) more is h = later form l ls s t n e (λ ms. ap (next form n ms) is) (more t h)

loop_end : {S A : Type 0} (form : S → List ℕ → Result (Step S A) TextKind) (s : S) (n : ℕ) (e : TextFault) → At n Syntax ≡ e → FaultAt (loop form s) n [] e
loop_end form s n NoMemory same = absurd cc
loop_end form s n (At line kind) same =
    let m : n ≡ line = cc in
    let k : Syntax ≡ kind = cc in
    inl (omega arith, sym k)

loop_stays : {S A : Type 0} (form : S → List ℕ → Result (Step S A) TextKind) (ls : List (List ℕ)) (s : S) (n : ℕ) (e : TextFault) →
    loop form s (place n ls) ≡ Err e → FaultAt (loop form s) n ls e
loop_stays form [] s n e h = loop_end form s n e cc
loop_stays form (l ∷ ls) s n e h = stays_by form l ls s n e (form s l) (λ t. loop_stays form ls t (n + 1) e) refl h

pub local_loop : {S A : Type 0} (form : S → List ℕ → Result (Step S A) TextKind) (s : S) → IsLocal (loop form s)
local_loop form s = record { goes = λ n ls x q e. loop_goes form ls s n x q e; stays = λ n ls e h. loop_stays form ls s n e h }
