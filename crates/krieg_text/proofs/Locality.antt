-- Readers of lines that are made of local ones are local, and the law of the first bad line.
use Rattle.std.proofs.Common.{◌≡◌, inl, inr, ℕ, ◌+◌, Bool, true, false, cond, List, [], ◌∷◌, ◌++◌, length, Result, Ok, Err, refl, sym, ap, subst, ◌∙◌, append_assoc, arith, length-append}
use Rattle.std.specs.Prelude.{◌⊎◌}
use Rattle.krieg_text.proofs.Common.{TextFault, At, NoMemory, TextKind, Syntax, ◌>>=◌, Place, place, LineReader, taken, on}

-- a value came from the lines used alone, whatever follows them
pub record ReadFrom {A : Type 0} (r : LineReader A) (n : ℕ) (ls : List (List ℕ)) (x : A) (q : Place) : Type 0 where
  pub used : List (List ℕ)
  pub is : ls ≡ used ++ q.left
  pub number : q.number ≡ n + length used
  pub again : (other : List (List ℕ)) → r (place n (used ++ other)) ≡ Ok (x, place q.number other)

-- the fault stands at the line bad, whatever follows that line, and the lines before it are not complete
pub record BadLine {A : Type 0} (r : LineReader A) (n : ℕ) (ls : List (List ℕ)) (line : ℕ) (kind : TextKind) : Type 0 where
  pub used : List (List ℕ)
  pub bad : List ℕ
  pub rest : List (List ℕ)
  pub is : ls ≡ used ++ bad ∷ rest
  pub number : line ≡ n + length used
  pub again : (other : List (List ℕ)) → r (place n (used ++ bad ∷ other)) ≡ Err (At line kind)
  pub short : r (place n used) ≡ Err (At line Syntax)

-- after the last line, or at a bad line
abbrev pub FaultAt : {A : Type 0} → LineReader A → ℕ → List (List ℕ) → TextFault → Type 0
FaultAt r n ls NoMemory = ⊥
FaultAt r n ls (At line kind) = ((line ≡ n + length ls) × (kind ≡ Syntax)) ⊎ BadLine r n ls line kind

-- what the reader answers rests on the lines that it took alone
pub record IsLocal {A : Type 0} (r : LineReader A) : Type 0 where
  pub goes : (n : ℕ) (ls : List (List ℕ)) (x : A) (q : Place) → r (place n ls) ≡ Ok (x, q) → ReadFrom r n ls x q
  pub stays : (n : ℕ) (ls : List (List ℕ)) (e : TextFault) → r (place n ls) ≡ Err e → FaultAt r n ls e

pub ok_is : {A : Type 0} (x y : A) → ◌≡◌ {A = Result A TextFault} (Ok x) (Ok y) → x ≡ y
ok_is x y e = cc

-- a reader that takes no line
pub local_pure : {A : Type 0} (x : A) → IsLocal (λ p. Ok (x, p))
local_pure {A = A} x = record {
  goes = λ n ls y q e.
      let same = ok_is {A = A × Place} (x, place n ls) (y, q) e in
      let v : x ≡ y = ap (λ (t : A × Place). t.0) same in
      let m : n ≡ q.number = ap (λ (t : A × Place). t.1.number) same in
      record { used = []; is = ap (λ (t : A × Place). t.1.left) same; number = omega arith; again = λ other. ap (λ (t : A). Ok (t, place n other)) v ∙ ap (λ (t : ℕ). Ok (y, place t other)) m };
  stays = λ n ls e h. absurd cc;
}

abbrev after : {A : Type 0} → ℕ → List (List ℕ) → Result A TextKind → Result (A × Place) TextFault
after {A = A} n ls f = ◌>>=◌ {B = A × Place} (on n f) (λ v. Ok (v, place (n + 1) ls))

taken_goes : {A : Type 0} (form : List ℕ → Result A TextKind) (n : ℕ) (l : List ℕ) (ls : List (List ℕ)) (f : Result A TextKind) → form l ≡ f →
    (x : A) (q : Place) → after n ls f ≡ Ok (x, q) → ReadFrom (taken form) n (l ∷ ls) x q
taken_goes form n l ls (Err kind) is x q e = absurd cc
taken_goes {A = A} form n l ls (Ok v) is x q e =
    let same = ok_is {A = A × Place} (v, place (n + 1) ls) (x, q) e in
    let m : n + 1 ≡ q.number = ap (λ (t : A × Place). t.1.number) same in
    record {
      used = l ∷ [];
      is = ap (λ (t : A × Place). l ∷ t.1.left) same;
      number = omega arith;
      again = λ other. ap (after n other) is ∙ ap (λ (t : A × Place). Ok (t.0, place t.1.number other)) same;
    }

-- where no line is left, the fault stands after the last line
at_end : {A : Type 0} (r : LineReader A) (n : ℕ) (e : TextFault) → At n Syntax ≡ e → FaultAt r n [] e
at_end r n NoMemory same = absurd cc
at_end r n (At line kind) same =
    let m : n ≡ line = cc in
    let k : Syntax ≡ kind = cc in
    inl (omega arith, sym k)

taken_stays : {A : Type 0} (form : List ℕ → Result A TextKind) (n : ℕ) (l : List ℕ) (ls : List (List ℕ)) (f : Result A TextKind) → form l ≡ f →
    (e : TextFault) → after n ls f ≡ Err e → FaultAt (taken form) n (l ∷ ls) e
taken_stays form n l ls (Ok v) is e h = absurd cc
taken_stays form n l ls (Err kind) is NoMemory h = absurd cc
taken_stays form n l ls (Err kind) is (At line k) h =
    let m : n ≡ line = cc in
    let same : At n kind ≡ At line k = cc in
    inr (record { used = []; bad = l; rest = ls; is = refl; number = omega arith; again = λ other. ap (after n other) is ∙ ap Err same; short = ap (λ (t : ℕ). Err (At t Syntax)) m })

-- a reader of one line
pub local_taken : {A : Type 0} (form : List ℕ → Result A TextKind) → IsLocal (taken form)
local_taken form = record {
  goes = λ n ls x q e. go n ls x q e;
  stays = λ n ls e h. stop n ls e h;
}
  where
    go : (n : ℕ) (ls : List (List ℕ)) (x : _) (q : Place) → taken form (place n ls) ≡ Ok (x, q) → ReadFrom (taken form) n ls x q
    go n [] x q e = absurd cc
    go n (l ∷ ls) x q e = taken_goes form n l ls (form l) refl x q e

    stop : (n : ℕ) (ls : List (List ℕ)) (e : TextFault) → taken form (place n ls) ≡ Err e → FaultAt (taken form) n ls e
    stop n [] e h = at_end (taken form) n e cc
    stop n (l ∷ ls) e h = taken_stays form n l ls (form l) refl e h

-- a choice between two readers
pub local_cond : {A : Type 0} (t : Bool) (r s : LineReader A) → IsLocal r → IsLocal s → IsLocal (λ p. cond t (r p) (s p))
local_cond true r s lr ls = lr
local_cond false r s lr ls = ls

-- this holds of whatever the reader gives
abbrev pub Holds : {A : Type 0} → LineReader A → (A → Type 0) → Type 0
Holds {A = A} r K = (n : ℕ) (ls : List (List ℕ)) (x : A) (q : Place) → r (place n ls) ≡ Ok (x, q) → K x

-- one reader, and then another that may rest on what the first gave
abbrev pub followed : {A B : Type 0} → LineReader A → (A → LineReader B) → LineReader B
followed r f p = r p >>= λ x. f x.0 x.1

bind_goes : {A B : Type 0} (r : LineReader A) (f : A → LineReader B) (K : A → Type 0) → IsLocal r → Holds r K → ((x : A) → K x → IsLocal (f x)) →
    (n : ℕ) (ls : List (List ℕ)) (y : B) (q : Place) (res : Result (A × Place) TextFault) → r (place n ls) ≡ res → (res >>= λ x. f x.0 x.1) ≡ Ok (y, q) → ReadFrom (followed r f) n ls y q
bind_goes r f K lr holds lf n ls y q (Err e) is h = absurd cc
bind_goes {A = A} r f K lr holds lf n ls y q (Ok x) is h =
    let a = lr.goes n ls x.0 x.1 is in
    let b = (lf x.0 (holds n ls x.0 x.1 is)).goes x.1.number x.1.left y q h in
    record {
      used = a.used ++ b.used;
      is = a.is ∙ ap (λ (t : List (List ℕ)). a.used ++ t) b.is ∙ sym (append_assoc a.used b.used q.left);
      number = omega (arith, a.number, b.number, length-append a.used b.used);
      again = λ other. ap (λ (t : List (List ℕ)). followed r f (place n t)) (append_assoc a.used b.used other) ∙ ap (λ (t : Result (A × Place) TextFault). t >>= λ x. f x.0 x.1) (a.again (b.used ++ other)) ∙ b.again other;
    }

bind_bad : {A B : Type 0} (r : LineReader A) (f : A → LineReader B) (n : ℕ) (ls : List (List ℕ)) (x : A × Place) (e : TextFault) →
    ReadFrom r n ls x.0 x.1 → FaultAt (f x.0) x.1.number x.1.left e → FaultAt (followed r f) n ls e
bind_bad r f n ls x NoMemory a h = h
bind_bad {A = A} r f n ls x (At line kind) a (inl past) = inl (omega (arith, past.0, a.number, ap length a.is, length-append a.used x.1.left), past.1)
bind_bad {A = A} r f n ls x (At line kind) a (inr b) = inr (record {
  used = a.used ++ b.used;
  bad = b.bad;
  rest = b.rest;
  is = a.is ∙ ap (λ (t : List (List ℕ)). a.used ++ t) b.is ∙ sym (append_assoc a.used b.used (b.bad ∷ b.rest));
  number = omega (arith, a.number, b.number, length-append a.used b.used);
  again = λ other. ap (λ (t : List (List ℕ)). followed r f (place n t)) (append_assoc a.used b.used (b.bad ∷ other)) ∙ ap (λ (t : Result (A × Place) TextFault). t >>= λ x. f x.0 x.1) (a.again (b.used ++ b.bad ∷ other)) ∙ b.again other;
  short = ap (λ (t : Result (A × Place) TextFault). t >>= λ x. f x.0 x.1) (a.again b.used) ∙ b.short;
})

bind_first : {A B : Type 0} (r : LineReader A) (f : A → LineReader B) (n : ℕ) (ls : List (List ℕ)) (e : TextFault) → FaultAt r n ls e → FaultAt (followed r f) n ls e
bind_first r f n ls NoMemory h = h
bind_first r f n ls (At line kind) (inl past) = inl past
bind_first {A = A} r f n ls (At line kind) (inr b) = inr (record {
  used = b.used;
  bad = b.bad;
  rest = b.rest;
  is = b.is;
  number = b.number;
  again = λ other. ap (λ (t : Result (A × Place) TextFault). t >>= λ x. f x.0 x.1) (b.again other);
  short = ap (λ (t : Result (A × Place) TextFault). t >>= λ x. f x.0 x.1) b.short;
})

bind_stays : {A B : Type 0} (r : LineReader A) (f : A → LineReader B) (K : A → Type 0) → IsLocal r → Holds r K → ((x : A) → K x → IsLocal (f x)) →
    (n : ℕ) (ls : List (List ℕ)) (e : TextFault) (res : Result (A × Place) TextFault) → r (place n ls) ≡ res → (res >>= λ x. f x.0 x.1) ≡ Err e → FaultAt (followed r f) n ls e
bind_stays r f K lr holds lf n ls e (Ok x) is h = bind_bad r f n ls x e (lr.goes n ls x.0 x.1 is) ((lf x.0 (holds n ls x.0 x.1 is)).stays x.1.number x.1.left e h)
bind_stays r f K lr holds lf n ls e (Err d) is h = let same : d ≡ e = cc in subst (FaultAt (followed r f) n ls) same (bind_first r f n ls d (lr.stays n ls d is))

-- a sequence, where the second reader is local for what the first one gives
pub local_bind_if : {A B : Type 0} (r : LineReader A) (f : A → LineReader B) (K : A → Type 0) → IsLocal r → Holds r K → ((x : A) → K x → IsLocal (f x)) → IsLocal (followed r f)
local_bind_if r f K lr holds lf = record {
  goes = λ n ls y q e. bind_goes r f K lr holds lf n ls y q (r (place n ls)) refl e;
  stays = λ n ls e h. bind_stays r f K lr holds lf n ls e (r (place n ls)) refl h;
}

-- a sequence
pub local_bind : {A B : Type 0} (r : LineReader A) (f : A → LineReader B) → IsLocal r → ((x : A) → IsLocal (f x)) → IsLocal (followed r f)
local_bind r f lr lf = local_bind_if r f (λ x. Unit {0}) lr (λ n ls x q e. tt) (λ x h. lf x)
