-- The law of the first bad line: what a reader that goes by a grammar refuses.
use Rattle.std.proofs.Common.{◌≡◌, ◌≢◌, inl, inr, ℕ, ◌+◌, Bool, true, false, List, [], ◌∷◌, ◌++◌, length, Result, Ok, Err, refl, sym, ap, subst, ◌∙◌, append_assoc, arith}
use Rattle.std.specs.Prelude.{◌⊎◌, IfErr}
use Rattle.std.proofs.lemmas.List.{append-nil}
use Rattle.krieg_text.proofs.Common.{TextFault, At, NoMemory, TextKind, Syntax, ◌>>=◌, Place, place, LineReader, ended, whole, Gives, Language, Begins, is_beyond_form, IsGoodTo, GoesOn, FirstBad}
use Rattle.krieg_text.proofs.Locality.{ReadFrom, FaultAt}
use Rattle.krieg_text.proofs.Grammars.{Judged, untold}
use Rattle.krieg_text.proofs.Goings.{GoesBy}

abbrev from : {A : Type 0} → LineReader A → ℕ → List (List ℕ) → Result (A × Place) TextFault
from r n ls = r (place n ls)

-- ---- a reader in the midst of a text

goes_on : {A : Type 0} (r : LineReader A) (K : A → Type 0) (G : Language) → GoesBy r K untold (λ u. G) → (n : ℕ) (ls : List (List ℕ)) → r (place n ls) ≡ Err (At (n + length ls) Syntax) → GoesOn (from r n) G n ls
goes_on r K G keeps n ls e = let g = keeps.goes n ls e in record { more = g.more; whole = g.whole; good = g.good }

-- a line that is refused by its form begins no text of the grammar
no_text : {A : Type 0} (r : LineReader A) (K : A → Type 0) (G : Language) → GoesBy r K untold (λ u. G) → (n : ℕ) (used : List (List ℕ)) (bad : List ℕ) (line : ℕ) (kind : TextKind) → is_beyond_form kind ≡ false →
    ((other : List (List ℕ)) → r (place n (used ++ bad ∷ other)) ≡ Err (At line kind)) → Begins G (used ++ bad ∷ []) → ⊥
no_text {A = A} r K G keeps n used bad line kind formed again text = go (keeps.judges.judged n ((used ++ bad ∷ []) ++ text.more) [] tt text.whole)
  where
    all : ((used ++ bad ∷ []) ++ text.more) ++ [] ≡ used ++ bad ∷ text.more
    all = append-nil ((used ++ bad ∷ []) ++ text.more) ∙ append_assoc used (bad ∷ []) text.more

    refused : r (place n (((used ++ bad ∷ []) ++ text.more) ++ [])) ≡ Err (At line kind)
    refused = ap (λ (t : List (List ℕ)). r (place n t)) all ∙ again text.more

    go : Judged r untold n ((used ++ bad ∷ []) ++ text.more) [] tt → ⊥
    go (inl a) = let both = sym a.is ∙ refused in absurd cc
    go (inr a) = let both = sym a.is ∙ refused in let same : a.kind ≡ kind = cc in let other : is_beyond_form kind ≡ true = ap is_beyond_form (sym same) ∙ a.beyond in absurd cc

stops : {A : Type 0} (r : LineReader A) (K : A → Type 0) (G : Language) → GoesBy r K untold (λ u. G) → (n : ℕ) (used : List (List ℕ)) (bad : List ℕ) (line : ℕ) (kind : TextKind) →
    ((other : List (List ℕ)) → r (place n (used ++ bad ∷ other)) ≡ Err (At line kind)) → (Begins G (used ++ bad ∷ []) → ⊥) ⊎ (is_beyond_form kind ≡ true)
stops r K G keeps n used bad line kind again = go (is_beyond_form kind) refl
  where
    go : (t : Bool) → is_beyond_form kind ≡ t → (Begins G (used ++ bad ∷ []) → ⊥) ⊎ (is_beyond_form kind ≡ true)
    go true is = inr is
    go false is = inl (no_text r K G keeps n used bad line kind is again)

first_by : {A : Type 0} (r : LineReader A) (K : A → Type 0) (G : Language) → GoesBy r K untold (λ u. G) → (n : ℕ) (ls : List (List ℕ)) (e : TextFault) → r (place n ls) ≡ Err e → FaultAt r n ls e → FirstBad (from r n) G n ls e
first_by r K G keeps n ls NoMemory h f = f
first_by r K G keeps n ls (At line kind) h (inl past) = inr (record {
  number = past.0;
  is_syntax = past.1;
  goes_on = goes_on r K G keeps n ls (h ∙ ap (λ (k : ℕ). Err (At k kind)) past.0 ∙ ap (λ (k : TextKind). Err (At (n + length ls) k)) past.1);
  refused = h;
})
first_by r K G keeps n ls (At line kind) h (inr b) = inl (record {
  before = b.used;
  bad = b.bad;
  rest = b.rest;
  is = b.is;
  number = b.number;
  goes_on = goes_on r K G keeps n b.used (b.short ∙ ap (λ (k : ℕ). Err (At k Syntax)) b.number);
  stops = stops r K G keeps n b.used b.bad line kind b.again;
  refused = b.again;
})

-- the fault of a reader is the first bad line of the text from where it stands
pub first_bad : {A : Type 0} (r : LineReader A) (K : A → Type 0) (G : Language) → GoesBy r K untold (λ u. G) → (n : ℕ) (ls : List (List ℕ)) (e : TextFault) → r (place n ls) ≡ Err e → FirstBad (λ t. r (place n t)) G n ls e
first_bad r K G keeps n ls e h = first_by r K G keeps n ls e h (keeps.judges.local.stays n ls e h)

-- ---- a whole text

abbrev close : {A : Type 0} → Result (A × Place) TextFault → Result A TextFault
close t = t >>= λ x. ended x.0 x.1.number x.1.left

-- a text of the grammar that is good to a line is so as a whole
good_whole : {A : Type 0} (r : LineReader A) (K : A → Type 0) (G : Language) → GoesBy r K untold (λ u. G) → (m : ℕ) (ls : List (List ℕ)) → G ls → IsGoodTo m (r (place 1 ls)) → IsGoodTo m (whole r ls)
good_whole {A = A} r K G keeps m ls text good = go (keeps.judges.judged 1 ls [] tt text)
  where
    go : Judged r untold 1 ls [] tt → IsGoodTo m (whole r ls)
    go (inl a) =
        let is : r (place 1 ls) ≡ Ok (a.value, place (1 + length ls) []) = ap (λ (t : List (List ℕ)). r (place 1 t)) (sym (append-nil ls)) ∙ a.is in
        subst (IsGoodTo m) (sym (ap (λ (t : Result (A × Place) TextFault). close t) is)) tt
    go (inr a) =
        let is : r (place 1 ls) ≡ Err (At a.line a.kind) = ap (λ (t : List (List ℕ)). r (place 1 t)) (sym (append-nil ls)) ∙ a.is in
        subst (IsGoodTo m) (sym (ap (λ (t : Result (A × Place) TextFault). close t) is)) (subst (IsGoodTo m) is good)

whole_goes_on : {A : Type 0} (r : LineReader A) (K : A → Type 0) (G : Language) → GoesBy r K untold (λ u. G) → (ls : List (List ℕ)) → r (place 1 ls) ≡ Err (At (1 + length ls) Syntax) → GoesOn (whole r) G 1 ls
whole_goes_on r K G keeps ls e = let g = keeps.goes 1 ls e in record { more = g.more; whole = g.whole; good = good_whole r K G keeps (1 + length ls) (ls ++ g.more) g.whole g.good }

-- a fault of the reader is one of the whole
inside : {A : Type 0} (r : LineReader A) (K : A → Type 0) (G : Language) → GoesBy r K untold (λ u. G) → (ls : List (List ℕ)) (e : TextFault) → r (place 1 ls) ≡ Err e → FaultAt r 1 ls e → FirstBad (whole r) G 1 ls e
inside r K G keeps ls NoMemory h f = f
inside {A = A} r K G keeps ls (At line kind) h (inl past) = inr (record {
  number = past.0;
  is_syntax = past.1;
  goes_on = whole_goes_on r K G keeps ls (h ∙ ap (λ (k : ℕ). Err (At k kind)) past.0 ∙ ap (λ (k : TextKind). Err (At (1 + length ls) k)) past.1);
  refused = ap (λ (t : Result (A × Place) TextFault). close t) h;
})
inside {A = A} r K G keeps ls (At line kind) h (inr b) = inl (record {
  before = b.used;
  bad = b.bad;
  rest = b.rest;
  is = b.is;
  number = b.number;
  goes_on = whole_goes_on r K G keeps b.used (b.short ∙ ap (λ (k : ℕ). Err (At k Syntax)) b.number);
  stops = stops r K G keeps 1 b.used b.bad line kind b.again;
  refused = λ other. ap (λ (t : Result (A × Place) TextFault). close t) (b.again other);
})

-- no text of the grammar goes on where one is read to its end
no_more : {A : Type 0} (r : LineReader A) (K : A → Type 0) (G : Language) → GoesBy r K untold (λ u. G) → (used : List (List ℕ)) (l : List ℕ) (x : A) (n : ℕ) →
    ((other : List (List ℕ)) → r (place 1 (used ++ other)) ≡ Ok (x, place n other)) → Begins G (used ++ l ∷ []) → ⊥
no_more {A = A} r K G keeps used l x n again text = go (keeps.judges.judged 1 ((used ++ l ∷ []) ++ text.more) [] tt text.whole)
  where
    all : ((used ++ l ∷ []) ++ text.more) ++ [] ≡ used ++ l ∷ text.more
    all = append-nil ((used ++ l ∷ []) ++ text.more) ∙ append_assoc used (l ∷ []) text.more

    read : r (place 1 (((used ++ l ∷ []) ++ text.more) ++ [])) ≡ Ok (x, place n (l ∷ text.more))
    read = ap (λ (t : List (List ℕ)). r (place 1 t)) all ∙ again (l ∷ text.more)

    left_of : {E : Type 0} → Result (A × Place) E → List (List ℕ)
    left_of (Ok y) = y.1.left
    left_of (Err e) = []

    go : Judged r untold 1 ((used ++ l ∷ []) ++ text.more) [] tt → ⊥
    go (inl a) = let both : [] ≡ l ∷ text.more = ap left_of (sym a.is ∙ read) in absurd cc
    go (inr a) = let both = sym a.is ∙ read in absurd cc

-- a line after the last one
behind_last : {A : Type 0} (r : LineReader A) (K : A → Type 0) (G : Language) → GoesBy r K untold (λ u. G) → (ls : List (List ℕ)) (x : A) (n : ℕ) (left : List (List ℕ)) (e : TextFault) → ReadFrom r 1 ls x (place n left) → ended x n left ≡ Err e → FirstBad (whole r) G 1 ls e
behind_last r K G keeps ls x n [] e a h = absurd cc
behind_last r K G keeps ls x n (l ∷ left) NoMemory a h = absurd cc
behind_last {A = A} r K G keeps ls x n (l ∷ left) (At line kind) a h =
    let m : n ≡ line = cc in
    let same : At n Syntax ≡ At line kind = cc in
    let s = keeps.judges.said 1 a.used x (place n []) (ap (λ (t : List (List ℕ)). r (place 1 t)) (sym (append-nil a.used)) ∙ a.again []) in
    inl (record {
      before = a.used;
      bad = l;
      rest = left;
      is = a.is;
      number = omega (arith, a.number);
      goes_on = record {
        more = [];
        whole = subst G (sym (append-nil s.used) ∙ sym s.is ∙ sym (append-nil a.used)) s.says;
        good = subst (IsGoodTo (1 + length a.used)) (sym (ap (λ (t : Result (A × Place) TextFault). close t) (a.again []))) tt;
      };
      stops = inl (no_more r K G keeps a.used l x n a.again);
      refused = λ other. ap (λ (t : Result (A × Place) TextFault). close t) (a.again (l ∷ other)) ∙ ap Err same;
    })

whole_by : {A : Type 0} (r : LineReader A) (K : A → Type 0) (G : Language) → GoesBy r K untold (λ u. G) → (ls : List (List ℕ)) (e : TextFault) (res : Result (A × Place) TextFault) → r (place 1 ls) ≡ res → close res ≡ Err e → FirstBad (whole r) G 1 ls e
whole_by r K G keeps ls e (Ok x) is h = behind_last r K G keeps ls x.0 x.1.number x.1.left e (keeps.judges.local.goes 1 ls x.0 x.1 is) h
whole_by r K G keeps ls e (Err d) is h = let same : d ≡ e = cc in subst (FirstBad (whole r) G 1 ls) same (inside r K G keeps ls d is (keeps.judges.local.stays 1 ls d is))

-- the fault of a whole text is its first bad line
pub whole_first_bad : {A : Type 0} (r : LineReader A) (K : A → Type 0) (G : Language) → GoesBy r K untold (λ u. G) → (ls : List (List ℕ)) (e : TextFault) → whole r ls ≡ Err e → FirstBad (whole r) G 1 ls e
whole_first_bad r K G keeps ls e h = whole_by r K G keeps ls e (r (place 1 ls)) refl h

-- the same of what the code answered
pub code_first_bad : {X A : Type 0} (view : X → A) (answer : Result X TextFault) (r : LineReader A) (K : A → Type 0) (G : Language) → GoesBy r K untold (λ u. G) → (ls : List (List ℕ)) →
    Gives view answer (whole r ls) → IfErr answer (λ e. e ≢ NoMemory → FirstBad (whole r) G 1 ls e)
code_first_bad view (Ok x) r K G keeps ls given = tt
code_first_bad view (Err NoMemory) r K G keeps ls given = λ other. absurd (other refl)
code_first_bad view (Err (At line kind)) r K G keeps ls given = λ other. whole_first_bad r K G keeps ls (At line kind) given
