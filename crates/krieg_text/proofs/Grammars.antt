-- Readers that keep to a grammar are made of such readers.
use Rattle.std.proofs.Common.{◌≡◌, inl, inr, ℕ, ◌+◌, true, List, [], ◌∷◌, ◌++◌, length, Result, Ok, Err, refl, sym, ap, subst, ◌∙◌, append_assoc, arith, length-append}
use Rattle.std.specs.Prelude.{◌⊎◌}
use Rattle.std.proofs.lemmas.List.{append-nil}
use Rattle.krieg_text.proofs.Common.{TextFault, At, TextKind, Syntax, ◌>>=◌, Place, place, LineReader, on, taken, Language, One, Nothing, Any, ◌⨾◌, is_beyond_form}
use Rattle.krieg_text.proofs.Locality.{IsLocal, ReadFrom, ok_is, local_pure, local_taken, Holds, followed, local_bind_if}
use Rattle.krieg_text.proofs.Takings.{steps, taken_at}

-- the lines that were taken, of which the grammar holds
pub record Said {A B : Type 0} (info : A → B) (G : B → Language) (ls : List (List ℕ)) (x : A) (q : Place) : Type 0 where
  pub used : List (List ℕ)
  pub is : ls ≡ used ++ q.left
  pub says : G (info x) used

-- the lines are read, as what the grammar tells of them
pub record IsRead {A B : Type 0} (r : LineReader A) (info : A → B) (n : ℕ) (used rest : List (List ℕ)) (b : B) : Type 0 where
  pub value : A
  pub told : info value ≡ b
  pub is : r (place n (used ++ rest)) ≡ Ok (value, place (n + length used) rest)

-- a line is refused, by what is beyond its form
pub record IsBeyond {A : Type 0} (r : LineReader A) (n : ℕ) (ls : List (List ℕ)) : Type 0 where
  pub line : ℕ
  pub kind : TextKind
  pub beyond : is_beyond_form kind ≡ true
  pub is : r (place n ls) ≡ Err (At line kind)

abbrev pub Judged : {A B : Type 0} → LineReader A → (A → B) → ℕ → List (List ℕ) → List (List ℕ) → B → Type 0
Judged r info n used rest b = IsRead r info n used rest b ⊎ IsBeyond r n (used ++ rest)

-- with more lines it is read to the end
pub record Finished {A : Type 0} (r : LineReader A) (n : ℕ) (ls : List (List ℕ)) : Type 0 where
  pub more : List (List ℕ)
  pub value : A
  pub is : r (place n (ls ++ more)) ≡ Ok (value, place (n + length (ls ++ more)) [])

-- where the lines after a value rest on nothing of it
abbrev pub untold : {A : Type 0} → A → Unit {0}
untold x = tt

-- The reader keeps to the grammar G: K holds of what it reads, and info tells of a value what the lines after it rest on.
pub record KeepsTo {A B : Type 0} (r : LineReader A) (K : A → Type 0) (info : A → B) (G : B → Language) : Type 0 where
  pub local : IsLocal r
  pub holds : Holds r K
  -- what is read is of the grammar
  pub said : (n : ℕ) (ls : List (List ℕ)) (x : A) (q : Place) → r (place n ls) ≡ Ok (x, q) → Said info G ls x q
  -- what is of the grammar is read, or refused by what is beyond the form of a line
  pub judged : (n : ℕ) (used rest : List (List ℕ)) (b : B) → G b used → Judged r info n used rest b
  -- what is not refused can be gone on with
  pub finished : (n : ℕ) (ls : List (List ℕ)) → r (place n ls) ≡ Err (At (n + length ls) Syntax) → Finished r n ls
  -- and so can no line
  pub begun : (n : ℕ) → Finished r n []

-- What it reads is of the grammar, and what is of the grammar is judged.
pub record Judges {A B : Type 0} (r : LineReader A) (K : A → Type 0) (info : A → B) (G : B → Language) : Type 0 where
  pub local : IsLocal r
  pub holds : Holds r K
  pub said : (n : ℕ) (ls : List (List ℕ)) (x : A) (q : Place) → r (place n ls) ≡ Ok (x, q) → Said info G ls x q
  pub judged : (n : ℕ) (used rest : List (List ℕ)) (b : B) → G b used → Judged r info n used rest b

pub judges : {A B : Type 0} (r : LineReader A) (K : A → Type 0) (info : A → B) (G : B → Language) → KeepsTo r K info G → Judges r K info G
judges r K info G k = record { local = k.local; holds = k.holds; said = k.said; judged = k.judged }

-- ---- a line

-- The form F is that of the lines that the reader's form takes or refuses by what is beyond it, and there is such a line.
pub record HasForm {A B : Type 0} (form : List ℕ → Result A TextKind) (K : A → Type 0) (info : A → B) (F : B → List ℕ → Type 0) : Type 0 where
  pub holds : (l : List ℕ) (x : A) → form l ≡ Ok x → K x
  pub said : (l : List ℕ) (x : A) → form l ≡ Ok x → F (info x) l
  pub judged : (l : List ℕ) (b : B) → F b l → ((x : A) × (info x ≡ b) × (form l ≡ Ok x)) ⊎ ((kind : TextKind) × (is_beyond_form kind ≡ true) × (form l ≡ Err kind))
  pub some : (l : List ℕ) × (x : A) × (form l ≡ Ok x)

-- the same without such a line
pub record IsJudgedForm {A B : Type 0} (form : List ℕ → Result A TextKind) (K : A → Type 0) (info : A → B) (F : B → List ℕ → Type 0) : Type 0 where
  pub holds : (l : List ℕ) (x : A) → form l ≡ Ok x → K x
  pub said : (l : List ℕ) (x : A) → form l ≡ Ok x → F (info x) l
  pub judged : (l : List ℕ) (b : B) → F b l → ((x : A) × (info x ≡ b) × (form l ≡ Ok x)) ⊎ ((kind : TextKind) × (is_beyond_form kind ≡ true) × (form l ≡ Err kind))

abbrev after : {A : Type 0} → ℕ → List (List ℕ) → Result A TextKind → Result (A × Place) TextFault
after {A = A} n ls f = ◌>>=◌ {B = A × Place} (on n f) (λ v. Ok (v, place (n + 1) ls))

line_said : {A B : Type 0} (form : List ℕ → Result A TextKind) (K : A → Type 0) (info : A → B) (F : B → List ℕ → Type 0) → IsJudgedForm form K info F →
    (n : ℕ) (ls : List (List ℕ)) (x : A) (q : Place) → taken form (place n ls) ≡ Ok (x, q) → Said info (λ b. One (F b)) ls x q
line_said form K info F is n [] x q e = absurd cc
line_said {A = A} form K info F is n (l ∷ ls) x q e = go (form l) refl e
  where
    go : (f : Result A TextKind) → form l ≡ f → after n ls f ≡ Ok (x, q) → Said info (λ b. One (F b)) (l ∷ ls) x q
    go (Err kind) h k = absurd cc
    go (Ok v) h k =
        let same = ok_is {A = A × Place} (v, place (n + 1) ls) (x, q) k in
        record {
          used = l ∷ [];
          is = ap (λ (t : A × Place). l ∷ t.1.left) same;
          says = record { line = l; is = refl; says = is.said l x (h ∙ ap (λ (t : A × Place). Ok t.0) same) };
        }

line_judged : {A B : Type 0} (form : List ℕ → Result A TextKind) (K : A → Type 0) (info : A → B) (F : B → List ℕ → Type 0) → IsJudgedForm form K info F →
    (n : ℕ) (used rest : List (List ℕ)) (b : B) → One (F b) used → Judged (taken form) info n used rest b
line_judged {A = A} {B = B} form K info F is n used rest b s = subst (λ t. Judged (taken form) info n t rest b) (sym s.is) (go (is.judged s.line b s.says))
  where
    go : ((x : A) × (info x ≡ b) × (form s.line ≡ Ok x)) ⊎ ((kind : TextKind) × (is_beyond_form kind ≡ true) × (form s.line ≡ Err kind)) → Judged (taken form) info n (s.line ∷ []) rest b
    go (inl h) = inl (record { value = h.0; told = h.1; is = ap (after n rest) h.2 })
    go (inr h) = inr (record { line = n; kind = h.0; beyond = h.1; is = ap (after n rest) h.2 })

pub line_judges : {A B : Type 0} (form : List ℕ → Result A TextKind) (K : A → Type 0) (info : A → B) (F : B → List ℕ → Type 0) → IsJudgedForm form K info F → Judges (taken form) K info (λ b. One (F b))
line_judges form K info F is = record {
  local = local_taken form;
  holds = λ n ls x q e. let t = taken_at form (place n ls) q x e in is.holds t.text x t.is;
  said = line_said form K info F is;
  judged = line_judged form K info F is;
}

line_finished : {A : Type 0} (form : List ℕ → Result A TextKind) (n : ℕ) (ls : List (List ℕ)) → Finished (taken form) n [] → taken form (place n ls) ≡ Err (At (n + length ls) Syntax) → Finished (taken form) n ls
line_finished form n [] begun e = begun
line_finished {A = A} form n (l ∷ ls) begun e = go (form l) e
  where
    go : (f : Result A TextKind) → after n ls f ≡ Err (At (n + length (l ∷ ls)) Syntax) → Finished (taken form) n (l ∷ ls)
    go (Ok v) k = absurd cc
    go (Err kind) k = let m : n ≡ n + length (l ∷ ls) = cc in absurd (omega (arith, m))

line_begun : {A B : Type 0} (form : List ℕ → Result A TextKind) (K : A → Type 0) (info : A → B) (F : B → List ℕ → Type 0) → HasForm form K info F → (n : ℕ) → Finished (taken form) n []
line_begun form K info F is n = record { more = is.some.0 ∷ []; value = is.some.1; is = ap (after n []) is.some.2 }

pub line_keeps : {A B : Type 0} (form : List ℕ → Result A TextKind) (K : A → Type 0) (info : A → B) (F : B → List ℕ → Type 0) → HasForm form K info F → KeepsTo (taken form) K info (λ b. One (F b))
line_keeps form K info F is =
    let j = line_judges form K info F (record { holds = is.holds; said = is.said; judged = is.judged }) in
    record {
      local = j.local;
      holds = j.holds;
      said = j.said;
      judged = j.judged;
      finished = λ n ls e. line_finished form n ls (line_begun form K info F is n) e;
      begun = line_begun form K info F is;
    }

-- ---- no line

pub pure_keeps : {A B : Type 0} (x : A) (K : A → Type 0) (info : A → B) → K x → KeepsTo (λ p. Ok (x, p)) K info (λ b ls. (info x ≡ b) × Nothing ls)
pure_keeps {A = A} x K info holds = record {
  local = local_pure x;
  holds = λ n ls y q e. subst K (ap (λ (t : A × Place). t.0) (ok_is {A = A × Place} (x, place n ls) (y, q) e)) holds;
  said = λ n ls y q e.
      let same = ok_is {A = A × Place} (x, place n ls) (y, q) e in
      record { used = []; is = ap (λ (t : A × Place). t.1.left) same; says = (ap (λ (t : A × Place). info t.0) same, refl) };
  judged = λ n used rest b s.
      let number : n ≡ n + 0 = omega arith in
      inl (record {
        value = x;
        told = s.0;
        is = ap (λ (t : List (List ℕ)). Ok (x, place n (t ++ rest))) s.1 ∙ ap (λ (k : ℕ). Ok (x, place k rest)) number ∙ ap (λ (t : List (List ℕ)). Ok (x, place (n + length t) rest)) (sym s.1);
      });
  finished = λ n ls e. absurd cc;
  begun = λ n. let number : n ≡ n + 0 = omega arith in record { more = []; value = x; is = ap (λ (k : ℕ). Ok (x, place k [])) number };
}

-- ---- one reader and then another

then_finished : {A C : Type 0} (r : LineReader A) (f : A → LineReader C) → (n : ℕ) (ls more : List (List ℕ)) (x : A) (q : Place) →
    ReadFrom r n ls x q → Finished (f x) q.number (q.left ++ more) → Finished (followed r f) n (ls ++ more)
then_finished {A = A} {C = C} r f n ls more x q a b = record {
  more = b.more;
  value = b.value;
  is = ap (λ (t : List (List ℕ)). followed r f (place n t)) all
      ∙ ap (λ (t : Result (A × Place) TextFault). t >>= λ x. f x.0 x.1) (a.again ((q.left ++ more) ++ b.more))
      ∙ b.is
      ∙ ap (λ (k : ℕ). Ok (b.value, place k [])) number;
}
  where
    all : (ls ++ more) ++ b.more ≡ a.used ++ ((q.left ++ more) ++ b.more)
    all = ap (λ (t : List (List ℕ)). (t ++ more) ++ b.more) a.is ∙ ap (λ (t : List (List ℕ)). t ++ b.more) (append_assoc a.used q.left more) ∙ append_assoc a.used (q.left ++ more) b.more

    number : q.number + length ((q.left ++ more) ++ b.more) ≡ n + length ((ls ++ more) ++ b.more)
    number = omega (arith, a.number, ap length all, length-append a.used ((q.left ++ more) ++ b.more))

-- the same where the first lines are all that there is
then_begun : {A B C D : Type 0} (r : LineReader A) (f : A → LineReader C) (K : A → Type 0) (info : A → B) (G : B → Language) (L : C → Type 0) (tell : C → D) (H : B → D → Language) → KeepsTo r K info G → ((x : A) → K x → KeepsTo (f x) L tell (H (info x))) →
    (n : ℕ) (ls : List (List ℕ)) → Finished r n ls → Finished (followed r f) n ls
then_begun {A = A} {C = C} r f K info G L tell H kr kf n ls a =
    let holds = kr.holds n (ls ++ a.more) a.value (place (n + length (ls ++ a.more)) []) a.is in
    let b = (kf a.value holds).begun (n + length (ls ++ a.more)) in
    let from = kr.local.goes n (ls ++ a.more) a.value (place (n + length (ls ++ a.more)) []) a.is in
    let c = then_finished r f n (ls ++ a.more) [] a.value (place (n + length (ls ++ a.more)) []) from b in
    let all : ls ++ (a.more ++ c.more) ≡ ((ls ++ a.more) ++ []) ++ c.more = sym (append_assoc ls a.more c.more) ∙ ap (λ (t : List (List ℕ)). t ++ c.more) (sym (append-nil (ls ++ a.more))) in
    record {
      more = a.more ++ c.more;
      value = c.value;
      is = ap (λ (t : List (List ℕ)). followed r f (place n t)) all ∙ c.is ∙ ap (λ (t : List (List ℕ)). Ok (c.value, place (n + length t) [])) (sym all);
    }

then_said : {A B C D : Type 0} (r : LineReader A) (f : A → LineReader C) (K : A → Type 0) (info : A → B) (G : B → Language) (L : C → Type 0) (tell : C → D) (H : B → D → Language) → Judges r K info G → ((x : A) → K x → Judges (f x) L tell (H (info x))) →
    (n : ℕ) (ls : List (List ℕ)) (y : C) (q : Place) → followed r f (place n ls) ≡ Ok (y, q) → Said tell (λ d. Any (λ b. G b ⨾ H b d)) ls y q
then_said r f K info G L tell H kr kf n ls y q e =
    let s = steps (r (place n ls)) (λ x. f x.0 x.1) (y, q) e in
    let a = kr.said n ls s.mid.0 s.mid.1 s.first in
    let b = (kf s.mid.0 (kr.holds n ls s.mid.0 s.mid.1 s.first)).said s.mid.1.number s.mid.1.left y q s.second in
    record {
      used = a.used ++ b.used;
      is = a.is ∙ ap (λ (t : List (List ℕ)). a.used ++ t) b.is ∙ sym (append_assoc a.used b.used q.left);
      says = (info s.mid.0, record { front = a.used; back = b.used; is = refl; first = a.says; second = b.says });
    }

then_judged : {A B C D : Type 0} (r : LineReader A) (f : A → LineReader C) (K : A → Type 0) (info : A → B) (G : B → Language) (L : C → Type 0) (tell : C → D) (H : B → D → Language) → Judges r K info G → ((x : A) → K x → Judges (f x) L tell (H (info x))) →
    (n : ℕ) (used rest : List (List ℕ)) (d : D) → Any (λ b. G b ⨾ H b d) used → Judged (followed r f) tell n used rest d
then_judged {A = A} {B = B} {C = C} {D = D} r f K info G L tell H kr kf n used rest d s = first (kr.judged n s.1.front (s.1.back ++ rest) s.0 s.1.first)
  where
    one : used ++ rest ≡ s.1.front ++ (s.1.back ++ rest)
    one = ap (λ (t : List (List ℕ)). t ++ rest) s.1.is ∙ append_assoc s.1.front s.1.back rest

    second : (a : IsRead r info n s.1.front (s.1.back ++ rest) s.0) → Judged (f a.value) tell (n + length s.1.front) s.1.back rest d → Judged (followed r f) tell n used rest d
    second a (inl b) =
        let number : n + length s.1.front + length s.1.back ≡ n + length used = omega (arith, ap length s.1.is, length-append s.1.front s.1.back) in
        inl (record {
          value = b.value;
          told = b.told;
          is = ap (λ (t : List (List ℕ)). followed r f (place n t)) one ∙ ap (λ (t : Result (A × Place) TextFault). t >>= λ x. f x.0 x.1) a.is ∙ b.is ∙ ap (λ (k : ℕ). Ok (b.value, place k rest)) number;
        })
    second a (inr b) = inr (record {
      line = b.line;
      kind = b.kind;
      beyond = b.beyond;
      is = ap (λ (t : List (List ℕ)). followed r f (place n t)) one ∙ ap (λ (t : Result (A × Place) TextFault). t >>= λ x. f x.0 x.1) a.is ∙ b.is;
    })

    first : Judged r info n s.1.front (s.1.back ++ rest) s.0 → Judged (followed r f) tell n used rest d
    first (inl a) = second a ((kf a.value (kr.holds n (s.1.front ++ (s.1.back ++ rest)) a.value (place (n + length s.1.front) (s.1.back ++ rest)) a.is)).judged (n + length s.1.front) s.1.back rest d (subst (λ b. H b d s.1.back) (sym a.told) s.1.second))
    first (inr a) = inr (record { line = a.line; kind = a.kind; beyond = a.beyond; is = ap (λ (t : List (List ℕ)). followed r f (place n t)) one ∙ ap (λ (t : Result (A × Place) TextFault). t >>= λ x. f x.0 x.1) a.is })

then_goes : {A B C D : Type 0} (r : LineReader A) (f : A → LineReader C) (K : A → Type 0) (info : A → B) (G : B → Language) (L : C → Type 0) (tell : C → D) (H : B → D → Language) → KeepsTo r K info G → ((x : A) → K x → KeepsTo (f x) L tell (H (info x))) →
    (n : ℕ) (ls : List (List ℕ)) (res : Result (A × Place) TextFault) → r (place n ls) ≡ res → (res >>= λ x. f x.0 x.1) ≡ Err (At (n + length ls) Syntax) → Finished (followed r f) n ls
then_goes {A = A} {C = C} r f K info G L tell H kr kf n ls (Err e) is h =
    let same : e ≡ At (n + length ls) Syntax = cc in
    then_begun r f K info G L tell H kr kf n ls (kr.finished n ls (is ∙ ap Err same))
then_goes {A = A} {C = C} r f K info G L tell H kr kf n ls (Ok x) is h =
    let a = kr.local.goes n ls x.0 x.1 is in
    let number : n + length ls ≡ x.1.number + length x.1.left = omega (arith, a.number, ap length a.is, length-append a.used x.1.left) in
    let b = (kf x.0 (kr.holds n ls x.0 x.1 is)).finished x.1.number x.1.left (h ∙ ap (λ (k : ℕ). Err (At k Syntax)) number) in
    let some : Finished (f x.0) x.1.number (x.1.left ++ []) = subst (Finished (f x.0) x.1.number) (sym (append-nil x.1.left)) b in
    subst (Finished (followed r f) n) (append-nil ls) (then_finished r f n ls [] x.0 x.1 a some)

pub bind_judges : {A B C D : Type 0} (r : LineReader A) (f : A → LineReader C) (K : A → Type 0) (info : A → B) (G : B → Language) (L : C → Type 0) (tell : C → D) (H : B → D → Language) → Judges r K info G → ((x : A) → K x → Judges (f x) L tell (H (info x))) →
    Judges (followed r f) L tell (λ d. Any (λ b. G b ⨾ H b d))
bind_judges r f K info G L tell H kr kf = record {
  local = local_bind_if r f K kr.local kr.holds (λ x h. (kf x h).local);
  holds = λ n ls y q e. let s = steps (r (place n ls)) (λ x. f x.0 x.1) (y, q) e in (kf s.mid.0 (kr.holds n ls s.mid.0 s.mid.1 s.first)).holds s.mid.1.number s.mid.1.left y q s.second;
  said = then_said r f K info G L tell H kr kf;
  judged = then_judged r f K info G L tell H kr kf;
}

pub bind_keeps : {A B C D : Type 0} (r : LineReader A) (f : A → LineReader C) (K : A → Type 0) (info : A → B) (G : B → Language) (L : C → Type 0) (tell : C → D) (H : B → D → Language) → KeepsTo r K info G → ((x : A) → K x → KeepsTo (f x) L tell (H (info x))) →
    KeepsTo (followed r f) L tell (λ d. Any (λ b. G b ⨾ H b d))
bind_keeps r f K info G L tell H kr kf =
    let j = bind_judges r f K info G L tell H (judges r K info G kr) (λ x h. judges (f x) L tell (H (info x)) (kf x h)) in
    record {
      local = j.local;
      holds = j.holds;
      said = j.said;
      judged = j.judged;
      finished = λ n ls e. then_goes r f K info G L tell H kr kf n ls (r (place n ls)) refl e;
      begun = λ n. then_begun r f K info G L tell H kr kf n [] (kr.begun n);
    }

-- the same reader, with its grammar in other words
pub same_judges : {A B D : Type 0} (r : LineReader A) (K : A → Type 0) (info : A → B) (G : B → Language) (tell : A → D) (H : D → Language) → ((x : A) (ls : List (List ℕ)) → G (info x) ls → H (tell x) ls) →
    ((d : D) (ls : List (List ℕ)) → H d ls → (b : B) × G b ls × ((x : A) → info x ≡ b → tell x ≡ d)) → Judges r K info G → Judges r K tell H
same_judges {A = A} {B = B} {D = D} r K info G tell H to from k = record {
  local = k.local;
  holds = k.holds;
  said = λ n ls x q e. let s = k.said n ls x q e in record { used = s.used; is = s.is; says = to x s.used s.says };
  judged = λ n used rest d s. let g = from d used s in go n used rest d g.0 g.2 (k.judged n used rest g.0 g.1);
}
  where
    go : (n : ℕ) (used rest : List (List ℕ)) (d : D) (b : B) → ((x : A) → info x ≡ b → tell x ≡ d) → Judged r info n used rest b → Judged r tell n used rest d
    go n used rest d b so (inl a) = inl (record { value = a.value; told = so a.value a.told; is = a.is })
    go n used rest d b so (inr a) = inr a

pub same_keeps : {A B D : Type 0} (r : LineReader A) (K : A → Type 0) (info : A → B) (G : B → Language) (tell : A → D) (H : D → Language) → ((x : A) (ls : List (List ℕ)) → G (info x) ls → H (tell x) ls) →
    ((d : D) (ls : List (List ℕ)) → H d ls → (b : B) × G b ls × ((x : A) → info x ≡ b → tell x ≡ d)) → KeepsTo r K info G → KeepsTo r K tell H
same_keeps r K info G tell H to from k =
    let j = same_judges r K info G tell H to from (judges r K info G k) in
    record { local = j.local; holds = j.holds; said = j.said; judged = j.judged; finished = k.finished; begun = k.begun }

-- ---- shorter ways to say it

-- one reader and then another, where the lines after rest on nothing that was read
pub then_keeps : {A C D : Type 0} (r : LineReader A) (f : A → LineReader C) (K : A → Type 0) (G : Language) (L : C → Type 0) (tell : C → D) (H : D → Language) → KeepsTo r K untold (λ u. G) → ((x : A) → K x → KeepsTo (f x) L tell H) →
    KeepsTo (followed r f) L tell (λ d. G ⨾ H d)
then_keeps r f K G L tell H kr kf =
    same_keeps (followed r f) L tell (λ d. Any {B = Unit {0}} (λ u. G ⨾ H d)) tell (λ d. G ⨾ H d) (λ x ls s. s.1) (λ d ls s. (d, (tt, s), λ x e. e))
    (bind_keeps r f K untold (λ u. G) L tell (λ u. H) kr kf)

made_finished : {A C : Type 0} (r : LineReader A) (make : A → C) (n : ℕ) (ls : List (List ℕ)) → Finished r n ls → Finished (followed r (λ x p. Ok (make x, p))) n ls
made_finished {A = A} {C = C} r make n ls a = record { more = a.more; value = make a.value; is = ap (λ (t : Result (A × Place) TextFault). ◌>>=◌ {B = C × Place} t (λ x. Ok (make x.0, x.1))) a.is }

-- a reader whose value is made into another one
pub made_judges : {A B C : Type 0} (r : LineReader A) (make : A → C) (K : A → Type 0) (info : A → B) (G : B → Language) (L : C → Type 0) (tell : C → B) → ((x : A) → K x → L (make x)) → ((x : A) → tell (make x) ≡ info x) → Judges r K info G →
    Judges (followed r (λ x p. Ok (make x, p))) L tell G
made_judges {A = A} {B = B} {C = C} r make K info G L tell holds same k = record {
  local = local_bind_if r (λ x p. Ok (make x, p)) K k.local k.holds (λ x h. local_pure (make x));
  holds = λ n ls y q e.
      let s = steps (r (place n ls)) (λ x. Ok (make x.0, x.1)) (y, q) e in
      subst L (ap (λ (t : C × Place). t.0) (ok_is {A = C × Place} (make s.mid.0, s.mid.1) (y, q) s.second)) (holds s.mid.0 (k.holds n ls s.mid.0 s.mid.1 s.first));
  said = λ n ls y q e.
      let s = steps (r (place n ls)) (λ x. Ok (make x.0, x.1)) (y, q) e in
      let is = ok_is {A = C × Place} (make s.mid.0, s.mid.1) (y, q) s.second in
      let a = k.said n ls s.mid.0 s.mid.1 s.first in
      record {
        used = a.used;
        is = a.is ∙ ap (λ (t : C × Place). a.used ++ t.1.left) is;
        says = subst (λ b. G b a.used) (sym (same s.mid.0) ∙ ap (λ (t : C × Place). tell t.0) is) a.says;
      };
  judged = λ n used rest b s. go n used rest b (k.judged n used rest b s);
}
  where
    go : (n : ℕ) (used rest : List (List ℕ)) (b : B) → Judged r info n used rest b → Judged (followed r (λ x p. Ok (make x, p))) tell n used rest b
    go n used rest b (inl a) = inl (record { value = make a.value; told = same a.value ∙ a.told; is = ap (λ (t : Result (A × Place) TextFault). ◌>>=◌ {B = C × Place} t (λ x. Ok (make x.0, x.1))) a.is })
    go n used rest b (inr a) = inr (record { line = a.line; kind = a.kind; beyond = a.beyond; is = ap (λ (t : Result (A × Place) TextFault). ◌>>=◌ {B = C × Place} t (λ x. Ok (make x.0, x.1))) a.is })

pub unmade : {A C : Type 0} (make : A → C) (t : Result (A × Place) TextFault) (e : TextFault) → ◌>>=◌ {B = C × Place} t (λ x. Ok (make x.0, x.1)) ≡ Err e → t ≡ Err e
unmade make (Ok x) e h = absurd cc
unmade make (Err d) e h = let is : d ≡ e = cc in ap Err is

pub made_keeps : {A B C : Type 0} (r : LineReader A) (make : A → C) (K : A → Type 0) (info : A → B) (G : B → Language) (L : C → Type 0) (tell : C → B) → ((x : A) → K x → L (make x)) → ((x : A) → tell (make x) ≡ info x) → KeepsTo r K info G →
    KeepsTo (followed r (λ x p. Ok (make x, p))) L tell G
made_keeps r make K info G L tell holds same k =
    let j = made_judges r make K info G L tell holds same (judges r K info G k) in
    record {
      local = j.local;
      holds = j.holds;
      said = j.said;
      judged = j.judged;
      finished = λ n ls e. made_finished r make n ls (k.finished n ls (unmade make (r (place n ls)) (At (n + length ls) Syntax) e));
      begun = λ n. made_finished r make n [] (k.begun n);
    }
