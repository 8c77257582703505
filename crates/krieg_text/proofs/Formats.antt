-- Formats are made of formats: what is read is what the lines say.
use Rattle.std.proofs.Common.{◌≡◌, inl, ℕ, ◌+◌, Bool, true, false, cond, List, [], ◌∷◌, ◌++◌, length, Option, Some, None, Result, Ok, Err, refl, sym, subst, ap, ◌∙◌, append_assoc, arith, length-append}
use Rattle.std.specs.Prelude.{IfOk}
use Rattle.std.specs.Str.{bytes_eq}
use Rattle.std.proofs.lemmas.List.{append-nil}
use Rattle.std.proofs.lemmas.Slice.Eq.{bytes_eq-Decides}
use Rattle.krieg_text.proofs.Common.{TextFault, TextKind, behind, ◌>>=◌, Place, place, LineReader, on, taken, whole, Step, goes_on, stops, up_to_last, Gives, Language, Then, One, UpToLast, Behind, behind_or, named, one_of, Always, IsReading}
use Rattle.krieg_text.proofs.Locality.{IsLocal, ok_is, local_pure, local_taken, Holds, followed, local_bind, local_bind_if}
use Rattle.krieg_text.proofs.Loops.{loop, local_loop}
use Rattle.krieg_text.proofs.FirstBadLine.{code_first_bad}
use Rattle.krieg_text.proofs.Goings.{GoesBy, goes_by}
use Rattle.krieg_text.proofs.Grammars.{Said, untold, KeepsTo}
use Rattle.krieg_text.proofs.NameLemmas.{behind_again, behind_spells}
use Rattle.krieg_text.proofs.Takings.{steps, taken_at, taken_again, Read, whole_read, read_whole}

-- ---- forms

-- a form gives a value exactly for the lines that say it
pub record IsForm {A : Type 0} (form : List ℕ → Result A TextKind) (F : List ℕ → A → Type 0) : Type 0 where
  pub found : (l : List ℕ) (x : A) → form l ≡ Ok x → F l x
  pub only : (l : List ℕ) (x : A) → F l x → form l ≡ Ok x

named_by : {A : Type 0} (name : List ℕ) (form : List ℕ → Result A TextKind) (F : List ℕ → A → Type 0) → IsForm form F → (l : List ℕ) (x : A) (o : Option (List ℕ)) → behind name l ≡ o → behind_or form o ≡ Ok x → Behind name (λ t. F t x) l
named_by name form F is l x None b e = absurd cc
named_by name form F is l x (Some t) b e = record { text = t; is = behind_spells name l t b; says = is.found t x e }

pub named_form : {A : Type 0} (name : List ℕ) (form : List ℕ → Result A TextKind) (F : List ℕ → A → Type 0) → IsForm form F → IsForm (named name form) (λ l x. Behind name (λ t. F t x) l)
named_form name form F is = record {
  found = λ l x e. named_by name form F is l x (behind name l) refl e;
  only = λ l x b. ap (named name form) b.is ∙ ap (behind_or form) (behind_again name b.text) ∙ is.only b.text x b.says;
}

-- each word of a table is the text of what it means
abbrev pub AreWords : {A : Type 0} → (A → List ℕ) → List (List ℕ × A) → Type 0
AreWords text [] = Unit {0}
AreWords text (w ∷ ws) = (w.0 ≡ text w.1) × AreWords text ws

pub word_is : {A : Type 0} (text : A → List ℕ) (table : List (List ℕ × A)) (l : List ℕ) (x : A) → AreWords text table → one_of table l ≡ Some x → l ≡ text x
word_is text [] l x are e = absurd cc
word_is text (w ∷ ws) l x are e = go (word_is text ws l x are.1) (bytes_eq l w.0) (bytes_eq-Decides l w.0).0 e
  where
    go : (one_of ws l ≡ Some x → l ≡ text x) → (t : Bool) → (t ≡ true → l ≡ w.0) → cond t (Some w.1) (one_of ws l) ≡ Some x → l ≡ text x
    go later true is h = let same : w.1 ≡ x = cc in is refl ∙ are.0 ∙ ap text same
    go later false is h = later h

-- ---- readers

-- The reader reads a value of which K holds exactly from the lines that say it.
pub record IsFormatIf {A : Type 0} (r : LineReader A) (K : A → Type 0) (S : A → Language) : Type 0 where
  pub local : IsLocal r
  pub holds : Holds r K
  pub found : (n : ℕ) (ls : List (List ℕ)) (x : A) (q : Place) → r (place n ls) ≡ Ok (x, q) → Said (λ y. y) S ls x q
  pub only : (n : ℕ) (used rest : List (List ℕ)) (x : A) → K x → S x used → r (place n (used ++ rest)) ≡ Ok (x, place (n + length used) rest)

abbrev pub IsFormat : {A : Type 0} → LineReader A → (A → Language) → Type 0
IsFormat r S = IsFormatIf r Always S

-- a reader that is local and reads what is said: the numbers of the lines follow
pub format_of : {A : Type 0} (r : LineReader A) (K : A → Type 0) (S : A → Language) → IsLocal r → Holds r K →
    ((n : ℕ) (ls : List (List ℕ)) (x : A) (q : Place) → r (place n ls) ≡ Ok (x, q) → Said (λ y. y) S ls x q) →
    ((n : ℕ) (used rest : List (List ℕ)) (x : A) → K x → S x used → Read (r (place n (used ++ rest))) x rest) → IsFormatIf r K S
format_of r K S local holds taken reads = record {
  local = local;
  holds = holds;
  found = taken;
  only = λ n used rest x k s.
      let a = reads n used rest x k s in
      let g = local.goes n (used ++ rest) x (place a.number rest) a.is in
      let number : a.number ≡ n + length used = omega (arith, g.number, ap length g.is, length-append g.used rest, length-append used rest) in
      a.is ∙ ap (λ (m : ℕ). Ok (x, place m rest)) number;
}

-- a line
pub line_format : {A : Type 0} (form : List ℕ → Result A TextKind) (F : List ℕ → A → Type 0) → IsForm form F → IsFormat (taken form) (λ x. One (λ l. F l x))
line_format {A = A} form F is = record {
  local = local_taken form;
  holds = λ n ls x q e. tt;
  found = λ n ls x q e.
      let t = taken_at form (place n ls) q x e in
      record { used = t.text ∷ []; is = t.left; says = record { line = t.text; is = refl; says = is.found t.text x t.is } };
  only = λ n used rest x k s. ap (λ (t : List (List ℕ)). taken form (place n (t ++ rest))) s.is ∙ taken_again form n s.line rest x (is.only s.line x s.says) ∙ ap (λ (t : List (List ℕ)). Ok (x, place (n + length t) rest)) (sym s.is);
}

-- The last part: it gives the value by make, and of that value it is the part take.
pub last_part : {A B : Type 0} (r : LineReader A) (J : A → Type 0) (S : A → Language) (make : A → B) (take : B → A) (K : B → Type 0) →
    ((x : A) → J x → K (make x)) → ((y : B) → K y → J (take y)) → ((x : A) → take (make x) ≡ x) → ((y : B) → K y → make (take y) ≡ y) →
    IsFormatIf r J S → IsFormatIf (followed r (λ x p. Ok (make x, p))) K (λ y. S (take y))
last_part {A = A} {B = B} r J S make take K to from back forth is = record {
  local = local_bind r (λ x p. Ok (make x, p)) is.local (λ x. local_pure (make x));
  holds = λ n ls y q e.
      let s = steps (r (place n ls)) (λ x. Ok (make x.0, x.1)) (y, q) e in
      subst K (ap (λ (t : B × Place). t.0) (ok_is {A = B × Place} (make s.mid.0, s.mid.1) (y, q) s.second)) (to s.mid.0 (is.holds n ls s.mid.0 s.mid.1 s.first));
  found = λ n ls y q e.
      let s = steps (r (place n ls)) (λ x. Ok (make x.0, x.1)) (y, q) e in
      let same = ok_is {A = B × Place} (make s.mid.0, s.mid.1) (y, q) s.second in
      let f = is.found n ls s.mid.0 s.mid.1 s.first in
      let part : s.mid.0 ≡ take y = sym (back s.mid.0) ∙ ap (λ (t : B × Place). take t.0) same in
      record { used = f.used; is = f.is ∙ ap (λ (t : B × Place). f.used ++ t.1.left) same; says = subst (λ x. S x f.used) part f.says };
  only = λ n used rest y k s.
      ap (λ (t : Result (A × Place) TextFault). t >>= λ x. Ok (make x.0, x.1)) (is.only n used rest (take y) (from y k) s)
      ∙ ap (λ (z : B). Ok (z, place (n + length used) rest)) (forth y k);
}

-- A part of the value, and after it the other parts.
pub part_then : {A B : Type 0} (r : LineReader A) (f : A → LineReader B) (J : A → Type 0) (S : A → Language) (T : B → Language) (take : B → A) (K : B → Type 0) →
    IsFormatIf r J S → ((x : A) → J x → IsFormatIf (f x) (λ y. (take y ≡ x) × K y) T) → ((y : B) → K y → J (take y)) → IsFormatIf (followed r f) K (λ y. Then (S (take y)) (T y))
part_then {A = A} {B = B} r f J S T take K is more has = record {
  local = local_bind_if r f J is.local is.holds (λ x j. (more x j).local);
  holds = λ n ls y q e.
      let s = steps (r (place n ls)) (λ x. f x.0 x.1) (y, q) e in
      ((more s.mid.0 (is.holds n ls s.mid.0 s.mid.1 s.first)).holds s.mid.1.number s.mid.1.left y q s.second).1;
  found = λ n ls y q e.
      let s = steps (r (place n ls)) (λ x. f x.0 x.1) (y, q) e in
      let m = more s.mid.0 (is.holds n ls s.mid.0 s.mid.1 s.first) in
      let a = is.found n ls s.mid.0 s.mid.1 s.first in
      let b = m.found s.mid.1.number s.mid.1.left y q s.second in
      let part = (m.holds s.mid.1.number s.mid.1.left y q s.second).0 in
      record {
        used = a.used ++ b.used;
        is = a.is ∙ ap (λ (t : List (List ℕ)). a.used ++ t) b.is ∙ sym (append_assoc a.used b.used q.left);
        says = record { front = a.used; back = b.used; is = refl; first = subst (λ x. S x a.used) (sym part) a.says; second = b.says };
      };
  only = λ n used rest y k s.
      let one : used ++ rest ≡ s.front ++ (s.back ++ rest) = ap (λ (t : List (List ℕ)). t ++ rest) s.is ∙ append_assoc s.front s.back rest in
      let number : n + length s.front + length s.back ≡ n + length used = omega (arith, ap length s.is, length-append s.front s.back) in
      ap (λ (t : List (List ℕ)). followed r f (place n t)) one
      ∙ ap (λ (t : Result (A × Place) TextFault). t >>= λ x. f x.0 x.1) (is.only n s.front (s.back ++ rest) (take y) (has y k) s.first)
      ∙ (more (take y) (has y k)).only (n + length s.front) s.back rest y (refl, k) s.second
      ∙ ap (λ (k : ℕ). Ok (y, place k rest)) number;
}

-- ---- items up to the last line

abbrev pub ItemForm : Type 0 → Type 0 → Type 0
ItemForm A B = List A → List ℕ → Result (Step (List A) (List A × B)) TextKind

abbrev pub IsStep : {A B : Type 0} → (List A → List ℕ → A → Type 0) → (List A → List ℕ → B → Type 0) → List A → List ℕ → Step (List A) (List A × B) → Type 0
IsStep F L es l (goes_on more) = (x : _) × (more ≡ es ++ x ∷ []) × F es l x
IsStep F L es l (stops all) = (all.0 ≡ es) × L es l all.1

pub record IsItemForm {A B : Type 0} (form : ItemForm A B) (F : List A → List ℕ → A → Type 0) (L : List A → List ℕ → B → Type 0) : Type 0 where
  pub found : (es : List A) (l : List ℕ) (step : Step (List A) (List A × B)) → form es l ≡ Ok step → IsStep F L es l step
  pub one : (es : List A) (l : List ℕ) (x : A) → F es l x → form es l ≡ Ok (goes_on (es ++ x ∷ []))
  pub last : (es : List A) (l : List ℕ) (x : B) → L es l x → form es l ≡ Ok (stops (es, x))

-- the lines that were taken
record Items {A B : Type 0} (F : List A → List ℕ → A → Type 0) (L : List A → List ℕ → B → Type 0) (es : List A) (ls : List (List ℕ)) (x : List A × B) (q : Place) : Type 0 where
  more : List A
  all : x.0 ≡ es ++ more
  used : List (List ℕ)
  is : ls ≡ used ++ q.left
  says : UpToLast F L es more x.1 used

abbrev led : {A B : Type 0} → ItemForm A B → ℕ → List (List ℕ) → Result (Step (List A) (List A × B)) TextKind → Result ((List A × B) × Place) TextFault
led form n ls f = on n f >>= λ step. elim step [ stops x ↦ Ok (x, place (n + 1) ls) | goes_on s ↦ up_to_last form s (n + 1) ls ]

items_by : {A B : Type 0} (form : ItemForm A B) (F : List A → List ℕ → A → Type 0) (L : List A → List ℕ → B → Type 0) → IsItemForm form F L →
    (es : List A) (n : ℕ) (l : List ℕ) (ls : List (List ℕ)) (x : List A × B) (q : Place) (f : Result (Step (List A) (List A × B)) TextKind) → form es l ≡ f →
    ((s : List A) → up_to_last form s (n + 1) ls ≡ Ok (x, q) → Items F L s ls x q) → led form n ls f ≡ Ok (x, q) → Items F L es (l ∷ ls) x q
items_by form F L is es n l ls x q (Err kind) e later h = absurd cc
items_by {A = A} {B = B} form F L is es n l ls x q (Ok (stops y)) e later h =
    let s = is.found es l (stops y) e in
    let same = ok_is {A = (List A × B) × Place} (y, place (n + 1) ls) (x, q) h in
    record {
      more = [];
      all = sym (ap (λ (t : (List A × B) × Place). t.0.0) same) ∙ s.0 ∙ sym (append-nil es);
      used = l ∷ [];
      is = ap (λ (t : (List A × B) × Place). l ∷ t.1.left) same;
      says = (subst (λ (t : (List A × B) × Place). L es l t.0.1) same s.1, refl);
    }
items_by form F L is es n l ls x q (Ok (goes_on more)) e later h =
    let s = is.found es l (goes_on more) e in
    let r = subst (λ t. Items F L t ls x q) s.1 (later more h) in
    record {
      more = s.0 ∷ r.more;
      all = r.all ∙ append_assoc es (s.0 ∷ []) r.more;
      used = l ∷ r.used;
      is = ap (λ (t : List (List ℕ)). l ∷ t) r.is;
      says = (s.2, r.says);
    }

items_found : {A B : Type 0} (form : ItemForm A B) (F : List A → List ℕ → A → Type 0) (L : List A → List ℕ → B → Type 0) → IsItemForm form F L →
    (es : List A) (n : ℕ) (ls : List (List ℕ)) (x : List A × B) (q : Place) → up_to_last form es n ls ≡ Ok (x, q) → Items F L es ls x q
items_found form F L is es n [] x q h = absurd cc
items_found form F L is es n (l ∷ ls) x q h = items_by form F L is es n l ls x q (form es l) refl (λ s. items_found form F L is s (n + 1) ls x q) h

items_only : {A B : Type 0} (form : ItemForm A B) (F : List A → List ℕ → A → Type 0) (L : List A → List ℕ → B → Type 0) → IsItemForm form F L →
    (es xs : List A) (last : B) (n : ℕ) (used rest : List (List ℕ)) → UpToLast F L es xs last used → up_to_last form es n (used ++ rest) ≡ Ok ((es ++ xs, last), place (n + length used) rest)
items_only form F L is es [] last n [] rest s = absurd s
items_only form F L is es [] last n (l ∷ ls) rest s =
    ap (led form n (ls ++ rest)) (is.last es l last s.0)
    ∙ ap (λ (t : List (List ℕ)). Ok ((es, last), place (n + 1) (t ++ rest))) s.1
    ∙ ap (λ (t : List _). Ok ((t, last), place (n + 1) rest)) (sym (append-nil es))
    ∙ ap (λ (t : List (List ℕ)). Ok ((es ++ [], last), place (n + length (l ∷ t)) rest)) (sym s.1)
items_only form F L is es (x ∷ xs) last n [] rest s = absurd s
items_only form F L is es (x ∷ xs) last n (l ∷ ls) rest s =
    let number : n + 1 + length ls ≡ n + length (l ∷ ls) = omega arith in
    ap (led form n (ls ++ rest)) (is.one es l x s.0)
    ∙ items_only form F L is (es ++ x ∷ []) xs last (n + 1) ls rest s.1
    ∙ ap (λ (t : List _). Ok ((t, last), place (n + 1 + length ls) rest)) (append_assoc es (x ∷ []) xs)
    ∙ ap (λ (k : ℕ). Ok ((es ++ x ∷ xs, last), place k rest)) number

pub items_format : {A B : Type 0} (form : ItemForm A B) (F : List A → List ℕ → A → Type 0) (L : List A → List ℕ → B → Type 0) → IsItemForm form F L → IsFormat (loop form []) (λ x. UpToLast F L [] x.0 x.1)
items_format form F L is = record {
  local = local_loop form [];
  holds = λ n ls x q e. tt;
  found = λ n ls x q e.
      let r = items_found form F L is [] n ls x q e in
      record { used = r.used; is = r.is; says = subst (λ t. UpToLast F L [] t x.1 r.used) (sym r.all) r.says };
  only = λ n used rest x k s. items_only form F L is [] x.0 x.1 n used rest s;
}

-- ---- whole texts

pub whole_found : {A : Type 0} (r : LineReader A) (K : A → Type 0) (S : A → Language) → IsFormatIf r K S → (ls : List (List ℕ)) (x : A) → whole r ls ≡ Ok x → K x × S x ls
whole_found r K S is ls x e =
    let w = whole_read r ls x e in
    let f = is.found 1 ls x (place w.number []) w.is in
    (is.holds 1 ls x (place w.number []) w.is, subst (S x) (sym (append-nil f.used) ∙ sym f.is) f.says)

pub whole_only : {A : Type 0} (r : LineReader A) (K : A → Type 0) (S : A → Language) → IsFormatIf r K S → (ls : List (List ℕ)) (x : A) → K x → S x ls → whole r ls ≡ Ok x
whole_only r K S is ls x k s = read_whole r ls x (record { number = 1 + length ls; is = ap (λ (t : List (List ℕ)). r (place 1 t)) (sym (append-nil ls)) ∙ is.only 1 ls [] x k s })

-- what a reader of whole texts promises, where it answers what its definition gives
pub reading_as : {X A : Type 0} (view : X → A) (answer : Result X TextFault) (r : LineReader A) (K : A → Type 0) (S : A → Language) (J : A → Type 0) (Grammar : Language) →
    ((ls : List (List ℕ)) (x : A) → whole r ls ≡ Ok x → S x ls) → ((ls : List (List ℕ)) (x : A) → K x → S x ls → whole r ls ≡ Ok x) → GoesBy r J untold (λ u. Grammar) → (ls : List (List ℕ)) →
    Gives view answer (whole r ls) → IsReading view r K S Grammar ls answer
reading_as {X = X} {A = A} view answer r K S J Grammar found only keeps ls given = record {
  exact = given;
  first_bad = code_first_bad view answer r J Grammar keeps ls given;
  found = go answer given;
  only = λ x k s. subst (Gives view answer) (only ls x k s) given;
}
  where
    go : (a : Result X TextFault) → Gives view a (whole r ls) → IfOk a (λ x. S (view x) ls)
    go (Ok x) h = found ls (view x) h
    go (Err e) h = tt

-- the same of a reader that keeps to its grammar
pub reading_by : {X A : Type 0} (view : X → A) (answer : Result X TextFault) (r : LineReader A) (K : A → Type 0) (S : A → Language) (J : A → Type 0) (Grammar : Language) →
    ((ls : List (List ℕ)) (x : A) → whole r ls ≡ Ok x → S x ls) → ((ls : List (List ℕ)) (x : A) → K x → S x ls → whole r ls ≡ Ok x) → KeepsTo r J untold (λ u. Grammar) → (ls : List (List ℕ)) →
    Gives view answer (whole r ls) → IsReading view r K S Grammar ls answer
reading_by view answer r K S J Grammar found only keeps ls given = reading_as view answer r K S J Grammar found only (goes_by r J Grammar keeps) ls given

-- the same of a format
pub reading : {X A : Type 0} (view : X → A) (answer : Result X TextFault) (r : LineReader A) (K : A → Type 0) (S : A → Language) (J : A → Type 0) (Grammar : Language) → IsFormatIf r K S → KeepsTo r J untold (λ u. Grammar) → (ls : List (List ℕ)) →
    Gives view answer (whole r ls) → IsReading view r K S Grammar ls answer
reading view answer r K S J Grammar is keeps ls given = reading_by view answer r K S J Grammar (λ ls x e. (whole_found r K S is ls x e).1) (whole_only r K S is) keeps ls given

-- a format whose lines are told by their form alone is its own grammar, where the reader can be gone on with
pub format_keeps : {A B : Type 0} (r : LineReader A) (S : A → Language) (K : A → Type 0) (info : A → B) (G : B → Language) → IsFormat r S → KeepsTo r K info G → KeepsTo r Always (λ x. x) S
format_keeps r S K info G is keeps = record {
  local = is.local;
  holds = is.holds;
  said = is.found;
  judged = λ n used rest b s. inl (record { value = b; told = refl; is = is.only n used rest b tt s });
  finished = keeps.finished;
  begun = keeps.begun;
}
