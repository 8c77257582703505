-- A text that is cut at its last separator.
use Rattle.std.proofs.Common.{◌≡◌, ◌≢◌, ℕ, suc, ◌+◌, ◌<◌, ◌≤◌, Bool, true, false, not, eqb, eqb-true, eq-eqb, List, [], ◌∷◌, ◌++◌, length, get_or, take, drop, Option, Some, None, refl, sym, ap, subst, ◌∙◌, arith, length-drop, take-append-drop}
use Rattle.std.specs.Prelude.{◌==◌}
use Rattle.std.specs.List.{list_all}
use Rattle.std.proofs.lemmas.Bool.{and_parts, and_from, ne_eqb, not-true}
use Rattle.std.proofs.lemmas.List.{drop_more, get_or-drop}
use Rattle.krieg_text.proofs.Common.{onto_front, cut_last}

-- no byte of the text is the mark
abbrev pub Free : ℕ → List ℕ → Type 0
Free mark text = list_all (λ b. not (eqb b mark)) text ≡ true

-- what is cut, put together again
pub last_spells : (c : ℕ) (text : List ℕ) (x : List ℕ × List ℕ) → cut_last c text ≡ Some x → text ≡ x.0 ++ (c ∷ x.1)
unfolding cut_last
last_spells c [] x e = absurd cc
last_spells c (b ∷ text) x e = go (λ y m. last_spells c text y m) (cut_last c text) (b == c) refl refl e
  where
    go : ((y : List ℕ × List ℕ) → cut_last c text ≡ Some y → text ≡ y.0 ++ (c ∷ y.1)) → (o : Option (List ℕ × List ℕ)) (t : Bool) → cut_last c text ≡ o → (b == c) ≡ t → onto_front b o text t ≡ Some x → b ∷ text ≡ x.0 ++ (c ∷ x.1)
    go less (Some y) t more here h =
        let same : (b ∷ y.0, y.1) ≡ x = cc in
        subst (λ (z : List ℕ × List ℕ). b ∷ text ≡ z.0 ++ (c ∷ z.1)) same (ap (λ (k : List ℕ). b ∷ k) (less y more))
    go less None true more here h =
        let same : ([], text) ≡ x = cc in
        let is : b ≡ c = eqb-true b c here in
        subst (λ (z : List ℕ × List ℕ). b ∷ text ≡ z.0 ++ (c ∷ z.1)) same (ap (λ (k : ℕ). k ∷ text) is)
    go less None false more here h = absurd cc

-- a text without the separator is not cut
pub last_none : (c : ℕ) (text : List ℕ) → Free c text → cut_last c text ≡ None
unfolding cut_last
last_none c [] free = refl
last_none c (b ∷ text) free =
    let p = and_parts (not (eqb b c)) (list_all (λ b. not (eqb b c)) text) free in
    let here : eqb b c ≡ false = not-true (eqb b c) p.0 in
    ap (λ (o : Option (List ℕ × List ℕ)). onto_front b o text (eqb b c)) (last_none c text p.1) ∙ ap (onto_front b None text) here

-- no separator stands behind the last one
pub last_again : (c : ℕ) (front back : List ℕ) → Free c back → cut_last c (front ++ (c ∷ back)) ≡ Some (front, back)
unfolding cut_last
last_again c [] back free =
    ap (λ (o : Option (List ℕ × List ℕ)). onto_front c o back (eqb c c)) (last_none c back free) ∙ ap (onto_front c None back) (eq-eqb c c refl)
last_again c (b ∷ front) back free = ap (λ (o : Option (List ℕ × List ℕ)). onto_front b o (front ++ (c ∷ back)) (eqb b c)) (last_again c front back free)

-- ---- by places

free_reads : (c : ℕ) (text : List ℕ) → ((k : ℕ) → k < length text → get_or text k 0 ≢ c) → Free c text
free_reads c [] none = refl
free_reads c (b ∷ text) none =
    and_from (not (eqb b c)) (list_all (λ b. not (eqb b c)) text) (ap not (ne_eqb b c (none 0 (omega arith)))) (free_reads c text (λ k lt. none (suc k) (omega arith)))

pub none_at : (c : ℕ) (text : List ℕ) → ((k : ℕ) → k < length text → get_or text k 0 ≢ c) → cut_last c text ≡ None
none_at c text none = last_none c text (free_reads c text none)

below : (i k : ℕ) (text : List ℕ) → k < length (drop (i + 1) text) → i + 1 + k < length text
below i k text lt = let n = length-drop (i + 1) text in omega (arith, lt, n)

pub last_at : (c : ℕ) (text : List ℕ) (i : ℕ) → i < length text → get_or text i 0 ≡ c → ((k : ℕ) → i + 1 ≤ k → k < length text → get_or text k 0 ≢ c) → cut_last c text ≡ Some (take i text, drop (i + 1) text)
last_at c text i inside here after =
    let whole : text ≡ take i text ++ (c ∷ drop (i + 1) text) =
    sym (take-append-drop i text) ∙ ap (λ (l : List ℕ). take i text ++ l) (drop_more text i 0 inside ∙ ap (λ (b : ℕ). b ∷ drop (i + 1) text) here) in
    let back : Free c (drop (i + 1) text) =
    free_reads c (drop (i + 1) text) (λ k lt e. after (i + 1 + k) (omega arith) (below i k text lt) (sym (get_or-drop (i + 1) text k 0) ∙ e)) in
    ap (cut_last c) whole ∙ last_again c (take i text) (drop (i + 1) text) back
