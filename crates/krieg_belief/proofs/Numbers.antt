-- The games that begin, numbered from 0.
use Rattle.std.proofs.Common.{◌≡◌, ℕ, zero, suc, ◌+◌, ◌<◌, ◌≤◌, Bool, true, false, cond, List, [], ◌∷◌, ◌++◌, map, length, get_or, Some, inl, inr, refl, sym, ap, subst, ◌∙◌, arith, take}
use Rattle.std.specs.Prelude.{is_some}
use Rattle.std.specs.Map.{lookup}
use Rattle.std.proofs.lemmas.Bool.{both_ways, false_from_ne_true}
use Rattle.std.proofs.lemmas.List.{append_assoc, length_push, take_more, take_all}
use Rattle.std.proofs.lemmas.List.Elements.{All-cons, All-nil}
use Rattle.indexmap.specs.IndexMap.{insert_entry}
use Rattle.krieg_belief.proofs.Common.{Pos, position_eq, position_lt, IsAscending, In, Tale, begun, standing, equal_position, Entries, nowhere, tale_of, tales_of, Numbered, AreKept}
use Rattle.krieg_belief.proofs.Facts.{position_itself}
use Rattle.krieg_belief.proofs.Adding.{insert_new}

-- the starts, numbered from n
abbrev pub numbers : ℕ → List Pos → Entries
numbers n [] = []
numbers n (p ∷ ps) = (p, n) ∷ numbers (suc n) ps

lt_apart : (p k : Pos) → position_lt p k ≡ true → position_eq k p ≡ false
lt_apart p k h = false_from_ne_true (position_eq k p) (λ e. both_ways (position_lt p p) (ap Rattle.std.specs.Ordering.is_lt (position_itself p)) (subst (λ (x : Pos). position_lt p x ≡ true) (equal_position k p e) h))

at_in : (ps : List Pos) (i : ℕ) (k : Pos) → i < length ps → k ≡ get_or ps i k → In k ps
at_in [] i k h at = absurd (let z : i < 0 = h in omega (arith, z))
at_in (p ∷ ps) zero k h at = inl (sym at)
at_in (p ∷ ps) (suc i) k h at = inr (at_in ps i k (omega (arith, h)) at)

not_before : (n : ℕ) (ps : List Pos) (i : ℕ) (k : Pos) → IsAscending ps → i < length ps → k ≡ get_or ps i k → is_some (lookup (position_eq k) (numbers n (take i ps))) ≡ false
not_before n [] i k up h at = absurd (let z : i < 0 = h in omega (arith, z))
not_before n (p ∷ ps) zero k up h at = refl
not_before n (p ∷ ps) (suc i) k up h at =
    let lt : i < length ps = omega (arith, h) in
    ap (λ (b : Bool). is_some (cond b (Some n) (lookup (position_eq k) (numbers (suc n) (take i ps))))) (lt_apart p k (up.0 k (at_in ps i k lt at))) ∙ not_before (suc n) ps i k up.1 lt at

numbers_push : (n : ℕ) (ps : List Pos) (k : Pos) (m : ℕ) → m ≡ n + length ps → numbers n (ps ++ k ∷ []) ≡ numbers n ps ++ (k, m) ∷ []
numbers_push n [] k m e = ap (λ (x : ℕ). (k, x) ∷ []) (let z : n ≡ m = omega (arith, e) in z)
numbers_push n (p ∷ ps) k m e = ap (λ (t : Entries). (p, n) ∷ t) (numbers_push (suc n) ps k m (omega (arith, e)))

pub begin_more : (ps : List Pos) (i : ℕ) (k : Pos) (es es' : Entries) → IsAscending ps → i < length ps → k ≡ get_or ps i k → es ≡ numbers 0 (take i ps) → es' ≡ insert_entry position_eq es k i → es' ≡ numbers 0 (take (i + 1) ps)
begin_more ps i k es es' up h at is put =
    let n = Rattle.std.proofs.lemmas.List.length-take-le i ps (omega (arith, h)) in
    put ∙ (ap (λ (x : Entries). insert_entry position_eq x k i) is ∙ (insert_new (numbers 0 (take i ps)) k i (not_before 0 ps i k up h at)
    ∙ (sym (numbers_push 0 (take i ps) k i (omega (arith, n))) ∙ ap (numbers 0) (ap (λ (x : Pos). take i ps ++ x ∷ []) at ∙ sym (take_more ps i k h)))))

numbers_below : (n m : ℕ) (ps : List Pos) → n + length ps ≤ m → Numbered m (numbers n ps)
numbers_below n m [] h = All-nil (λ (e : Pos × ℕ). e.1 < m)
numbers_below n m (p ∷ ps) h = All-cons (λ (e : Pos × ℕ). e.1 < m) (p, n) (numbers (suc n) ps) (omega (arith, h)) (numbers_below (suc n) m ps (omega (arith, h)))

numbers_tales : (gs : List Tale) (ps : List Pos) (n : ℕ) → length gs ≡ n → map (tale_of (gs ++ map begun ps)) (numbers n ps) ≡ map begun ps
numbers_tales gs [] n h = refl
numbers_tales gs (p ∷ ps) n h =
    let l = length_push gs (begun p) in
    ap (λ (t : Tale). standing t p ∷ map (tale_of (gs ++ begun p ∷ map begun ps)) (numbers (suc n) ps)) (Rattle.std.proofs.lemmas.List.get_or_at gs (begun p) (map begun ps) nowhere n h)
    ∙ ap (λ (t : List Tale). begun p ∷ t) (ap (λ (x : List Tale). map (tale_of x) (numbers (suc n) ps)) (sym (append_assoc gs (begun p ∷ []) (map begun ps))) ∙ numbers_tales (gs ++ begun p ∷ []) ps (suc n) (omega (arith, h, l)))

pub begin_kept : (ps : List Pos) (es : Entries) (i : ℕ) → length ps ≤ i → es ≡ numbers 0 (take i ps) → AreKept ps [] es
begin_kept ps es i h is = subst (AreKept ps []) (sym (is ∙ ap (numbers 0) (take_all i ps h))) (record { grounded = tt; numbered = numbers_below 0 (length ps + 0) ps (omega arith) })

pub begin_tales : (ps : List Pos) (es : Entries) (i : ℕ) → length ps ≤ i → es ≡ numbers 0 (take i ps) → tales_of ps [] es ≡ map begun ps
begin_tales ps es i h is = ap (λ (x : Entries). tales_of ps [] x) (is ∙ ap (numbers 0) (take_all i ps h)) ∙ numbers_tales [] ps 0 refl
