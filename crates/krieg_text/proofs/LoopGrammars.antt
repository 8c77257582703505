-- A reader that takes line after line up to the last one keeps to a grammar: any number of lines of one form, and the last line.
use Rattle.std.proofs.Common.{◌≡◌, inl, inr, ℕ, ◌+◌, true, List, [], ◌∷◌, ◌++◌, length, Result, Ok, Err, refl, sym, ap, subst, ◌∙◌, append_assoc, arith}
use Rattle.std.specs.Prelude.{◌⊎◌}
use Rattle.std.specs.List.{All}
use Rattle.std.proofs.lemmas.List.Elements.{All-nil, All-cons, All-head, All-tail}
use Rattle.krieg_text.proofs.Common.{At, TextKind, Syntax, Place, place, Step, goes_on, stops, One, Many, ◌⨾◌, is_beyond_form}
use Rattle.krieg_text.proofs.Locality.{ok_is}
use Rattle.krieg_text.proofs.Loops.{loop, next, local_loop}
use Rattle.krieg_text.proofs.Grammars.{IsRead, IsBeyond, Judged, Finished, untold, KeepsTo}

-- a line is of that form and is taken, or is refused by what is beyond it
abbrev pub Goes : {S A : Type 0} → Result (Step S A) TextKind → Type 0
Goes {S = S} r = ((t : S) × (r ≡ Ok (goes_on t))) ⊎ ((kind : TextKind) × (is_beyond_form kind ≡ true) × (r ≡ Err kind))

-- In each state of which I holds, the lines that go on have the form F, the one that stops has the form L, and there is such a one.
pub record HasLoopForm {S A : Type 0} (form : S → List ℕ → Result (Step S A) TextKind) (I : S → Type 0) (K : A → Type 0) (F L : List ℕ → Type 0) : Type 0 where
  pub keeps : (s t : S) (l : List ℕ) → I s → form s l ≡ Ok (goes_on t) → I t × F l
  pub ends : (s : S) (x : A) (l : List ℕ) → I s → form s l ≡ Ok (stops x) → K x × L l
  pub item : (s : S) (l : List ℕ) → I s → F l → Goes (form s l)
  pub last : (s : S) (l : List ℕ) → I s → L l → (x : A) × (form s l ≡ Ok (stops x))
  pub some : (l : List ℕ) × L l

-- the lines up to the last one
record Run {A : Type 0} (K : A → Type 0) (F L : List ℕ → Type 0) (ls : List (List ℕ)) (x : A) (q : Place) : Type 0 where
  holds : K x
  items : List (List ℕ)
  line : List ℕ
  is : ls ≡ items ++ line ∷ q.left
  are : All F items
  ends : L line

run_by : {S A : Type 0} (form : S → List ℕ → Result (Step S A) TextKind) (I : S → Type 0) (K : A → Type 0) (F L : List ℕ → Type 0) → HasLoopForm form I K F L → (s : S) (n : ℕ) (l : List ℕ) (ls : List (List ℕ)) (x : A) (q : Place) → I s →
    (f : Result (Step S A) TextKind) → form s l ≡ f → ((t : S) → I t → loop form t (place (n + 1) ls) ≡ Ok (x, q) → Run K F L ls x q) → next form n ls f ≡ Ok (x, q) → Run K F L (l ∷ ls) x q
run_by form I K F L has s n l ls x q i (Err kind) is more h = absurd cc
run_by {A = A} form I K F L has s n l ls x q i (Ok (stops y)) is more h =
    let same = ok_is {A = A × Place} (y, place (n + 1) ls) (x, q) h in
    let e = has.ends s y l i is in
    record {
      holds = subst K (ap (λ (t : A × Place). t.0) same) e.0;
      items = [];
      line = l;
      is = ap (λ (t : A × Place). l ∷ t.1.left) same;
      are = All-nil F;
      ends = e.1;
    }
run_by form I K F L has s n l ls x q i (Ok (goes_on t)) is more h =
    let k = has.keeps s t l i is in
    let r = more t k.0 h in
    record {
      holds = r.holds;
      items = l ∷ r.items;
      line = r.line;
      is = ap (λ (t : List (List ℕ)). l ∷ t) r.is;
      are = All-cons F l r.items k.1 r.are;
      ends = r.ends;
    }

run_of : {S A : Type 0} (form : S → List ℕ → Result (Step S A) TextKind) (I : S → Type 0) (K : A → Type 0) (F L : List ℕ → Type 0) → HasLoopForm form I K F L → (ls : List (List ℕ)) (s : S) (n : ℕ) (x : A) (q : Place) → I s →
    loop form s (place n ls) ≡ Ok (x, q) → Run K F L ls x q
run_of form I K F L has [] s n x q i e = absurd cc
run_of form I K F L has (l ∷ ls) s n x q i e = run_by form I K F L has s n l ls x q i (form s l) refl (λ t j. run_of form I K F L has ls t (n + 1) x q j) e

loop_judged : {S A : Type 0} (form : S → List ℕ → Result (Step S A) TextKind) (I : S → Type 0) (K : A → Type 0) (F L : List ℕ → Type 0) → HasLoopForm form I K F L → (items : List (List ℕ)) (s : S) (n : ℕ) (line : List ℕ) (rest : List (List ℕ)) → I s → All F items → L line →
    IsRead (loop form s) untold n (items ++ line ∷ []) rest tt ⊎ IsBeyond (loop form s) n ((items ++ line ∷ []) ++ rest)
loop_judged form I K F L has [] s n line rest i are ends =
    let e = has.last s line i ends in
    inl (record { value = e.0; told = refl; is = ap (next form n rest) e.1 })
loop_judged {S = S} {A = A} form I K F L has (l ∷ items) s n line rest i are ends = go (has.item s l i (All-head F l items are)) (λ t j. loop_judged form I K F L has items t (n + 1) line rest j (All-tail F l items are) ends)
  where
    after : (t : S) → form s l ≡ Ok (goes_on t) → IsRead (loop form t) untold (n + 1) (items ++ line ∷ []) rest tt ⊎ IsBeyond (loop form t) (n + 1) ((items ++ line ∷ []) ++ rest) →
        IsRead (loop form s) untold n ((l ∷ items) ++ line ∷ []) rest tt ⊎ IsBeyond (loop form s) n (((l ∷ items) ++ line ∷ []) ++ rest)
    after t is (inl r) =
        let number : n + 1 + length (items ++ line ∷ []) ≡ n + length (l ∷ (items ++ line ∷ [])) = omega arith in
        inl (record { value = r.value; told = refl; is = ap (next form n ((items ++ line ∷ []) ++ rest)) is ∙ r.is ∙ ap (λ (k : ℕ). Ok (r.value, place k rest)) number })
    after t is (inr r) = inr (record { line = r.line; kind = r.kind; beyond = r.beyond; is = ap (next form n ((items ++ line ∷ []) ++ rest)) is ∙ r.is })

    go : Goes (form s l) → ((t : S) → I t → IsRead (loop form t) untold (n + 1) (items ++ line ∷ []) rest tt ⊎ IsBeyond (loop form t) (n + 1) ((items ++ line ∷ []) ++ rest)) →
        IsRead (loop form s) untold n ((l ∷ items) ++ line ∷ []) rest tt ⊎ IsBeyond (loop form s) n (((l ∷ items) ++ line ∷ []) ++ rest)
    go (inl t) more = after t.0 t.1 (more t.0 (has.keeps s t.0 l i t.1).0)
    go (inr k) more = inr (record { line = n; kind = k.0; beyond = k.1; is = ap (next form n ((items ++ line ∷ []) ++ rest)) k.2 })

loop_begun : {S A : Type 0} (form : S → List ℕ → Result (Step S A) TextKind) (I : S → Type 0) (K : A → Type 0) (F L : List ℕ → Type 0) → HasLoopForm form I K F L → (s : S) (n : ℕ) → I s → Finished (loop form s) n []
loop_begun form I K F L has s n i =
    let e = has.last s has.some.0 i has.some.1 in
    record { more = has.some.0 ∷ []; value = e.0; is = ap (next form n []) e.1 }

finished_by : {S A : Type 0} (form : S → List ℕ → Result (Step S A) TextKind) (I : S → Type 0) (K : A → Type 0) (F L : List ℕ → Type 0) → HasLoopForm form I K F L → (s : S) (n : ℕ) (l : List ℕ) (ls : List (List ℕ)) → I s →
    (f : Result (Step S A) TextKind) → form s l ≡ f → ((t : S) → I t → loop form t (place (n + 1) ls) ≡ Err (At (n + 1 + length ls) Syntax) → Finished (loop form t) (n + 1) ls) →
    next form n ls f ≡ Err (At (n + length (l ∷ ls)) Syntax) → Finished (loop form s) n (l ∷ ls)
finished_by form I K F L has s n l ls i (Err kind) is more h = let m : n ≡ n + length (l ∷ ls) = cc in absurd (omega (arith, m))
finished_by form I K F L has s n l ls i (Ok (stops y)) is more h = absurd cc
finished_by form I K F L has s n l ls i (Ok (goes_on t)) is more h =
    let number : n + length (l ∷ ls) ≡ n + 1 + length ls = omega arith in
    let r = more t (has.keeps s t l i is).0 (h ∙ ap (λ (k : ℕ). Err (At k Syntax)) number) in
    let past : n + 1 + length (ls ++ r.more) ≡ n + length ((l ∷ ls) ++ r.more) = omega arith in
    record { more = r.more; value = r.value; is = ap (next form n (ls ++ r.more)) is ∙ r.is ∙ ap (λ (k : ℕ). Ok (r.value, place k [])) past }

loop_finished : {S A : Type 0} (form : S → List ℕ → Result (Step S A) TextKind) (I : S → Type 0) (K : A → Type 0) (F L : List ℕ → Type 0) → HasLoopForm form I K F L → (ls : List (List ℕ)) (s : S) (n : ℕ) → I s →
    loop form s (place n ls) ≡ Err (At (n + length ls) Syntax) → Finished (loop form s) n ls
loop_finished form I K F L has [] s n i e = loop_begun form I K F L has s n i
loop_finished form I K F L has (l ∷ ls) s n i e = finished_by form I K F L has s n l ls i (form s l) refl (λ t j. loop_finished form I K F L has ls t (n + 1) j) e

pub loop_keeps : {S A : Type 0} (form : S → List ℕ → Result (Step S A) TextKind) (I : S → Type 0) (K : A → Type 0) (F L : List ℕ → Type 0) → HasLoopForm form I K F L → (s : S) → I s →
    KeepsTo (loop form s) K untold (λ u. Many F ⨾ One L)
loop_keeps form I K F L has s i = record {
  local = local_loop form s;
  holds = λ n ls x q e. (run_of form I K F L has ls s n x q i e).holds;
  said = λ n ls x q e.
      let r = run_of form I K F L has ls s n x q i e in
      record {
        used = r.items ++ r.line ∷ [];
        is = r.is ∙ sym (append_assoc r.items (r.line ∷ []) q.left);
        says = record { front = r.items; back = r.line ∷ []; is = refl; first = r.are; second = record { line = r.line; is = refl; says = r.ends } };
      };
  judged = λ n used rest b t.
      let all : used ≡ t.front ++ t.second.line ∷ [] = t.is ∙ ap (λ (k : List (List ℕ)). t.front ++ k) t.second.is in
      subst (λ k. Judged (loop form s) untold n k rest b) (sym all) (loop_judged form I K F L has t.front s n t.second.line rest i t.first t.second.says);
  finished = λ n ls e. loop_finished form I K F L has ls s n i e;
  begun = λ n. loop_begun form I K F L has s n i;
}
