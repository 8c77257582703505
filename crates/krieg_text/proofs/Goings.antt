-- Readers whose text, where no line is refused, can be gone on with: to the end, or to a line that is refused by what is beyond
-- its form. They are made of such readers, and a reader that keeps to a grammar is one.
use Rattle.std.proofs.Common.{◌≡◌, inl, inr, ℕ, ◌+◌, ◌≤◌, true, List, [], ◌∷◌, ◌++◌, length, Result, Ok, Err, refl, sym, ap, subst, ◌∙◌, append_assoc, arith, length-append}
use Rattle.std.specs.Prelude.{◌⊎◌}
use Rattle.std.proofs.lemmas.List.{append-nil}
use Rattle.krieg_text.proofs.Common.{TextFault, At, NoMemory, TextKind, Syntax, Always, ◌>>=◌, Place, place, LineReader, on, taken, Language, One, Any, ◌⨾◌, is_beyond_form, IsGoodTo}
use Rattle.krieg_text.proofs.Grammars.{IsRead, IsBeyond, Judged, Finished, untold, KeepsTo, Judges, judges, IsJudgedForm, line_judges, bind_judges, same_judges, made_judges, unmade}
use Rattle.krieg_text.proofs.Locality.{BadLine, FaultAt, ReadFrom, followed}

-- with more lines it is a text of the grammar, and nothing before these is refused
pub record Gone {A B : Type 0} (r : LineReader A) (G : B → Language) (n : ℕ) (ls : List (List ℕ)) : Type 0 where
  pub more : List (List ℕ)
  pub told : B
  pub whole : G told (ls ++ more)
  pub good : IsGoodTo (n + length ls) (r (place n (ls ++ more)))

-- The reader goes by the grammar G: K holds of what it reads, and info tells of a value what the lines after it rest on.
pub record GoesBy {A B : Type 0} (r : LineReader A) (K : A → Type 0) (info : A → B) (G : B → Language) : Type 0 where
  pub judges : Judges r K info G
  -- what is not refused can be gone on with
  pub goes : (n : ℕ) (ls : List (List ℕ)) → r (place n ls) ≡ Err (At (n + length ls) Syntax) → Gone r G n ls
  -- and so can no line
  pub begun : (n : ℕ) → Gone r G n []
  -- what the grammar tells is told of some value
  pub real : (b : B) (used : List (List ℕ)) → G b used → (x : A) × K x × (info x ≡ b)

good_from : {A : Type 0} (m n : ℕ) (r : Result A TextFault) → n ≤ m → IsGoodTo m r → IsGoodTo n r
good_from m n (Ok x) le good = tt
good_from m n (Err (At line kind)) le good = (omega (arith, le, good.0), good.1)
good_from m n (Err NoMemory) le good = good

-- ---- a reader that keeps to a grammar

gone_of : {A B : Type 0} (r : LineReader A) (K : A → Type 0) (info : A → B) (G : B → Language) → KeepsTo r K info G → (n : ℕ) (ls : List (List ℕ)) → Finished r n ls → Gone r G n ls
gone_of r K info G keeps n ls f =
    let s = keeps.said n (ls ++ f.more) f.value (place (n + length (ls ++ f.more)) []) f.is in
    record {
      more = f.more;
      told = info f.value;
      whole = subst (G (info f.value)) (sym (append-nil s.used) ∙ sym s.is) s.says;
      good = subst (IsGoodTo (n + length ls)) (sym f.is) tt;
    }

goes_if : {A B : Type 0} (r : LineReader A) (K : A → Type 0) (info : A → B) (G : B → Language) → ((b : B) (used : List (List ℕ)) → G b used → (x : A) × K x × (info x ≡ b)) → KeepsTo r K info G → GoesBy r K info G
goes_if r K info G real keeps = record {
  judges = judges r K info G keeps;
  goes = λ n ls e. gone_of r K info G keeps n ls (keeps.finished n ls e);
  begun = λ n. gone_of r K info G keeps n [] (keeps.begun n);
  real = real;
}

pub goes_by : {A : Type 0} (r : LineReader A) (K : A → Type 0) (G : Language) → KeepsTo r K untold (λ u. G) → GoesBy r K untold (λ u. G)
goes_by r K G keeps =
    let f = keeps.begun 0 in
    goes_if r K untold (λ u. G) (λ b used s. (f.value, keeps.holds 0 ([] ++ f.more) f.value (place (0 + length ([] ++ f.more)) []) f.is, refl)) keeps

-- the same where all of the value is told
pub goes_whole : {A : Type 0} (r : LineReader A) (G : A → Language) → KeepsTo r Always (λ x. x) G → GoesBy r Always (λ x. x) G
goes_whole r G keeps = goes_if r Always (λ x. x) G (λ b used s. (b, tt, refl)) keeps

-- ---- a line

abbrev taken_by : {A : Type 0} → ℕ → List (List ℕ) → Result A TextKind → Result (A × Place) TextFault
taken_by {A = A} n ls f = ◌>>=◌ {B = A × Place} (on n f) (λ v. Ok (v, place (n + 1) ls))

pub line_missing : {A : Type 0} (form : List ℕ → Result A TextKind) (n : ℕ) (ls : List (List ℕ)) → taken form (place n ls) ≡ Err (At (n + length ls) Syntax) → ls ≡ []
line_missing form n [] e = refl
line_missing {A = A} form n (l ∷ ls) e = go (form l) e
  where
    go : (f : Result A TextKind) → taken_by n ls f ≡ Err (At (n + length (l ∷ ls)) Syntax) → l ∷ ls ≡ []
    go (Ok v) k = absurd cc
    go (Err kind) k = let m : n ≡ n + length (l ∷ ls) = cc in absurd (omega (arith, m))

-- a line of the form, which may be one that is always refused by what is beyond its form
pub line_goes : {A B : Type 0} (form : List ℕ → Result A TextKind) (K : A → Type 0) (info : A → B) (F : B → List ℕ → Type 0) → IsJudgedForm form K info F → (l : List ℕ) (b : B) → F b l →
    ((b : B) (l : List ℕ) → F b l → (x : A) × K x × (info x ≡ b)) → GoesBy (taken form) K info (λ b. One (F b))
line_goes {A = A} {B = B} form K info F is l b has real = record {
  judges = line_judges form K info F is;
  goes = λ n ls e. subst (λ t. Gone (taken form) (λ b. One (F b)) n t) (sym (line_missing form n ls e)) (begin n);
  begun = begin;
  real = λ b used s. real b s.line s.says;
}
  where
    good : (n : ℕ) → ((x : A) × (info x ≡ b) × (form l ≡ Ok x)) ⊎ ((kind : TextKind) × (is_beyond_form kind ≡ true) × (form l ≡ Err kind)) → IsGoodTo (n + 0) (taken form (place n (l ∷ [])))
    good n (inl h) = subst (IsGoodTo (n + 0)) (sym (ap (taken_by n []) h.2)) tt
    good n (inr h) = subst (IsGoodTo (n + 0)) (sym (ap (taken_by n []) h.2)) (omega arith, h.1)

    begin : (n : ℕ) → Gone (taken form) (λ b. One (F b)) n []
    begin n = record { more = l ∷ []; told = b; whole = record { line = l; is = refl; says = has }; good = good n (is.judged l b has) }

-- ---- one reader and then another

module _ {A B C D : Type 0} (r : LineReader A) (f : A → LineReader C) (K : A → Type 0) (info : A → B) (G : B → Language) (L : C → Type 0) (tell : C → D) (H : B → D → Language)
    (kr : GoesBy r K info G) (kf : (x : A) → K x → GoesBy (f x) L tell (H (info x))) where
  abbrev after : Result (A × Place) TextFault → Result (C × Place) TextFault
  after t = t >>= λ x. f x.0 x.1

  -- the first lines are read, and those after them go on
  then_gone : (n : ℕ) (ls : List (List ℕ)) (x : A) (q : Place) → ReadFrom r n ls x q → Gone (f x) (H (info x)) q.number q.left → Gone (followed r f) (λ d. Any (λ b. G b ⨾ H b d)) n ls
  then_gone n ls x q a b =
      let all : ls ++ b.more ≡ a.used ++ (q.left ++ b.more) = ap (λ (t : List (List ℕ)). t ++ b.more) a.is ∙ append_assoc a.used q.left b.more in
      let is : r (place n (ls ++ b.more)) ≡ Ok (x, place q.number (q.left ++ b.more)) = ap (λ (t : List (List ℕ)). r (place n t)) all ∙ a.again (q.left ++ b.more) in
      let s = kr.judges.said n (ls ++ b.more) x (place q.number (q.left ++ b.more)) is in
      let number : q.number + length q.left ≡ n + length ls = omega (arith, a.number, ap length a.is, length-append a.used q.left) in
      record {
        more = b.more;
        told = b.told;
        whole = (info x, record { front = s.used; back = q.left ++ b.more; is = s.is; first = s.says; second = b.whole });
        good = subst (IsGoodTo (n + length ls)) (sym (ap after is)) (subst (λ k. IsGoodTo k (f x (place q.number (q.left ++ b.more)))) number b.good);
      }

  -- all the first lines are read
  read_gone : (n : ℕ) (ls : List (List ℕ)) (a : Gone r G n ls) → IsRead r info n (ls ++ a.more) [] a.told → Gone (followed r f) (λ d. Any (λ b. G b ⨾ H b d)) n ls
  read_gone n ls a v =
      let m : ℕ = n + length (ls ++ a.more) in
      let b = (kf v.value (kr.judges.holds n ((ls ++ a.more) ++ []) v.value (place m []) v.is)).begun m in
      let g = kr.judges.local.goes n ((ls ++ a.more) ++ []) v.value (place m []) v.is in
      let used : ls ++ a.more ≡ g.used = sym (append-nil (ls ++ a.more)) ∙ g.is ∙ append-nil g.used in
      let all : ls ++ (a.more ++ b.more) ≡ (ls ++ a.more) ++ b.more = sym (append_assoc ls a.more b.more) in
      let is : r (place n (ls ++ (a.more ++ b.more))) ≡ Ok (v.value, place m b.more) = ap (λ (t : List (List ℕ)). r (place n t)) (all ∙ ap (λ (t : List (List ℕ)). t ++ b.more) used) ∙ g.again b.more in
      let past : n + length ls ≤ m + 0 = omega (arith, length-append ls a.more) in
      record {
        more = a.more ++ b.more;
        told = b.told;
        whole = (a.told, record { front = ls ++ a.more; back = b.more; is = all; first = a.whole; second = subst (λ t. H t b.told b.more) v.told b.whole });
        good = subst (IsGoodTo (n + length ls)) (sym (ap after is)) (good_from (m + 0) (n + length ls) (f v.value (place m b.more)) past b.good);
      }

  -- one of them is refused, and any lines may stand after it
  refused_gone : (n : ℕ) (ls : List (List ℕ)) (a : Gone r G n ls) → IsBeyond r n ((ls ++ a.more) ++ []) → Gone (followed r f) (λ d. Any (λ b. G b ⨾ H b d)) n ls
  refused_gone n ls a e = by_fault (kr.judges.local.stays n (ls ++ a.more) (At e.line e.kind) here)
    where
      here : r (place n (ls ++ a.more)) ≡ Err (At e.line e.kind)
      here = ap (λ (t : List (List ℕ)). r (place n t)) (sym (append-nil (ls ++ a.more))) ∙ e.is

      late : (n + length ls ≤ e.line) × (is_beyond_form e.kind ≡ true)
      late = subst (IsGoodTo (n + length ls)) here a.good

      by_bad : (w : List (List ℕ)) → BadLine r n (ls ++ a.more) e.line e.kind → r (place n (ls ++ (a.more ++ w))) ≡ Err (At e.line e.kind)
      by_bad w b =
          ap (λ (t : List (List ℕ)). r (place n t)) (sym (append_assoc ls a.more w) ∙ ap (λ (t : List (List ℕ)). t ++ w) b.is ∙ append_assoc b.used (b.bad ∷ b.rest) w) ∙ b.again (b.rest ++ w)

      by_fault : FaultAt r n (ls ++ a.more) (At e.line e.kind) → Gone (followed r f) (λ d. Any (λ b. G b ⨾ H b d)) n ls
      by_fault (inl past) = let no : is_beyond_form Syntax ≡ true = ap is_beyond_form (sym past.1) ∙ e.beyond in absurd cc
      by_fault (inr b) =
          let x = kr.real a.told (ls ++ a.more) a.whole in
          let y = (kf x.0 x.1).begun 0 in
          record {
            more = a.more ++ y.more;
            told = y.told;
            whole = (a.told, record { front = ls ++ a.more; back = y.more; is = sym (append_assoc ls a.more y.more); first = a.whole; second = subst (λ t. H t y.told y.more) x.2 y.whole });
            good = subst (IsGoodTo (n + length ls)) (sym (ap after (by_bad y.more b))) late;
          }

  first_gone : (n : ℕ) (ls : List (List ℕ)) → Gone r G n ls → Gone (followed r f) (λ d. Any (λ b. G b ⨾ H b d)) n ls
  first_gone n ls a = go (kr.judges.judged n (ls ++ a.more) [] a.told a.whole)
    where
      go : Judged r info n (ls ++ a.more) [] a.told → Gone (followed r f) (λ d. Any (λ b. G b ⨾ H b d)) n ls
      go (inl v) = read_gone n ls a v
      go (inr e) = refused_gone n ls a e

  bind_gone : (n : ℕ) (ls : List (List ℕ)) (res : Result (A × Place) TextFault) → r (place n ls) ≡ res → after res ≡ Err (At (n + length ls) Syntax) → Gone (followed r f) (λ d. Any (λ b. G b ⨾ H b d)) n ls
  bind_gone n ls (Err e) is h = let same : e ≡ At (n + length ls) Syntax = cc in first_gone n ls (kr.goes n ls (is ∙ ap Err same))
  bind_gone n ls (Ok x) is h =
      let a = kr.judges.local.goes n ls x.0 x.1 is in
      let number : n + length ls ≡ x.1.number + length x.1.left = omega (arith, a.number, ap length a.is, length-append a.used x.1.left) in
      then_gone n ls x.0 x.1 a ((kf x.0 (kr.judges.holds n ls x.0 x.1 is)).goes x.1.number x.1.left (h ∙ ap (λ (k : ℕ). Err (At k Syntax)) number))

pub bind_goes : {A B C D : Type 0} (r : LineReader A) (f : A → LineReader C) (K : A → Type 0) (info : A → B) (G : B → Language) (L : C → Type 0) (tell : C → D) (H : B → D → Language) → GoesBy r K info G → ((x : A) → K x → GoesBy (f x) L tell (H (info x))) →
    GoesBy (followed r f) L tell (λ d. Any (λ b. G b ⨾ H b d))
bind_goes r f K info G L tell H kr kf = record {
  judges = bind_judges r f K info G L tell H kr.judges (λ x h. (kf x h).judges);
  goes = λ n ls e. bind_gone r f K info G L tell H kr kf n ls (r (place n ls)) refl e;
  begun = λ n. first_gone r f K info G L tell H kr kf n [] (kr.begun n);
  real = λ d used s.
      let x = kr.real s.0 s.1.front s.1.first in
      (kf x.0 x.1).real d s.1.back (subst (λ b. H b d s.1.back) (sym x.2) s.1.second);
}

-- the same reader, with its grammar in other words
pub same_goes : {A B D : Type 0} (r : LineReader A) (K : A → Type 0) (info : A → B) (G : B → Language) (tell : A → D) (H : D → Language) → ((x : A) (ls : List (List ℕ)) → G (info x) ls → H (tell x) ls) →
    ((d : D) (ls : List (List ℕ)) → H d ls → (b : B) × G b ls × ((x : A) → info x ≡ b → tell x ≡ d)) → GoesBy r K info G → GoesBy r K tell H
same_goes {A = A} {B = B} {D = D} r K info G tell H to from k = record {
  judges = same_judges r K info G tell H to from k.judges;
  goes = λ n ls e. again n ls (k.goes n ls e);
  begun = λ n. again n [] (k.begun n);
  real = λ d used s. let g = from d used s in let x = k.real g.0 used g.1 in (x.0, x.1, g.2 x.0 x.2);
}
  where
    again : (n : ℕ) (ls : List (List ℕ)) → Gone r G n ls → Gone r H n ls
    again n ls a =
        let x = k.real a.told (ls ++ a.more) a.whole in
        record { more = a.more; told = tell x.0; whole = to x.0 (ls ++ a.more) (subst (λ b. G b (ls ++ a.more)) (sym x.2) a.whole); good = a.good }

-- one reader and then another, where the lines after rest on nothing that was read
pub then_goes : {A C D : Type 0} (r : LineReader A) (f : A → LineReader C) (K : A → Type 0) (G : Language) (L : C → Type 0) (tell : C → D) (H : D → Language) → GoesBy r K untold (λ u. G) → ((x : A) → K x → GoesBy (f x) L tell H) →
    GoesBy (followed r f) L tell (λ d. G ⨾ H d)
then_goes r f K G L tell H kr kf =
    same_goes (followed r f) L tell (λ d. Any {B = Unit {0}} (λ u. G ⨾ H d)) tell (λ d. G ⨾ H d) (λ x ls s. s.1) (λ d ls s. (d, (tt, s), λ x e. e))
    (bind_goes r f K untold (λ u. G) L tell (λ u. H) kr kf)

-- a reader whose value is made into another one
pub made_goes : {A B C : Type 0} (r : LineReader A) (make : A → C) (K : A → Type 0) (info : A → B) (G : B → Language) (L : C → Type 0) (tell : C → B) → ((x : A) → K x → L (make x)) → ((x : A) → tell (make x) ≡ info x) → GoesBy r K info G →
    GoesBy (followed r (λ x p. Ok (make x, p))) L tell G
made_goes {A = A} {B = B} {C = C} r make K info G L tell holds same k = record {
  judges = made_judges r make K info G L tell holds same k.judges;
  goes = λ n ls e. again n ls (k.goes n ls (unmade make (r (place n ls)) (At (n + length ls) Syntax) e));
  begun = λ n. again n [] (k.begun n);
  real = λ b used s. let x = k.real b used s in (make x.0, holds x.0 x.1, same x.0 ∙ x.2);
}
  where
    good_made : (m : ℕ) (t : Result (A × Place) TextFault) → IsGoodTo m t → IsGoodTo m (◌>>=◌ {B = C × Place} t (λ x. Ok (make x.0, x.1)))
    good_made m (Ok x) g = tt
    good_made m (Err (At line kind)) g = g
    good_made m (Err NoMemory) g = g

    again : (n : ℕ) (ls : List (List ℕ)) → Gone r G n ls → Gone (followed r (λ x p. Ok (make x, p))) G n ls
    again n ls a = record { more = a.more; told = a.told; whole = a.whole; good = good_made (n + length ls) (r (place n (ls ++ a.more))) a.good }
