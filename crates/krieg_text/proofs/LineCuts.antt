-- Where a line is cut off.
use Rattle.std.proofs.Common.{IsTrue, eqb-true, eq-eqb, ◌≡◌, ℕ, zero, suc, ◌+◌, ◌-◌, ◌<◌, ◌≤◌, Bool, true, false, cond, eqb, List, [], ◌∷◌, length, get_or, take, drop, refl, ap, arith, add-one}
use Rattle.std.proofs.lemmas.List.{take_rest}
use Rattle.krieg_text.proofs.Common.{lines, onto_line}

-- the front of a text up to its first line feed
lines_cut_at : (bs : List ℕ) (i : ℕ) → i < length bs → eqb (get_or bs i 0) 10 ≡ true → ((k : ℕ) → k < i → eqb (get_or bs k 0) 10 ≡ false) → lines bs ≡ take i bs ∷ lines (drop (suc i) bs)
lines_cut_at [] i lt at before = absurd (omega arith)
lines_cut_at (b ∷ bs) zero lt at before = rw at refl
lines_cut_at (b ∷ bs) (suc i) lt at before =
    let here : eqb b 10 ≡ false = before 0 (omega arith) in
    rw here (ap (onto_line b) (lines_cut_at bs i (omega arith) at (λ k h. before (suc k) (omega arith))))

pub lines_cut : (bs : List ℕ) (i : ℕ) → i < length bs → eqb (get_or bs i 0) 10 ≡ true → ((k : ℕ) → k < i → eqb (get_or bs k 0) 10 ≡ false) → lines bs ≡ take i bs ∷ lines (take (length bs - (i + 1)) (drop (i + 1) bs))
lines_cut bs i lt at before = rw (take_rest, add-one) (lines_cut_at bs i lt at before)

pub lines_whole : (bs : List ℕ) → 0 < length bs → ((k : ℕ) → k < length bs → eqb (get_or bs k 0) 10 ≡ false) → lines bs ≡ bs ∷ []
lines_whole [] some none = absurd (omega arith)
lines_whole (b ∷ []) some none =
    let here : eqb b 10 ≡ false = none 0 (omega arith) in
    rw here refl
lines_whole (b ∷ c ∷ bs) some none =
    let here : eqb b 10 ≡ false = none 0 (omega arith) in
    rw here (ap (onto_line b) (lines_whole (c ∷ bs) (omega arith) (λ k h. none (suc k) (omega arith))))

pub ruleset cuts = (lines_cut, lines_whole)

length_onto : (b : ℕ) (ls : List (List ℕ)) → length (onto_line b ls) ≤ length ls + 1
length_onto b [] = omega arith
length_onto b (l ∷ ls) = omega arith

pub length_lines_le : (bs : List ℕ) → length (lines bs) ≤ length bs
length_lines_le [] = omega arith
length_lines_le (b ∷ bs) =
    elim (eqb b 10) as (λ t. length (cond t ([] ∷ lines bs) (onto_line b (lines bs))) ≤ length (b ∷ bs)) [
      | true ↦ omega (arith, length_lines_le bs)
      | false ↦ omega (arith, length_lines_le bs, length_onto b (lines bs))
    ]

pub ruleset sizes = (length_lines_le)

onto_some : (b : ℕ) (ls : List (List ℕ)) → onto_line b ls ≡ [] → ⊥
onto_some b [] e = absurd cc
onto_some b (l ∷ ls) e = absurd cc

-- a text of some bytes has some line
some_lines : (bs : List ℕ) → lines bs ≡ [] → length bs ≡ 0
some_lines [] e = refl
some_lines (b ∷ bs) e = go (eqb b 10) e
  where
    go : (t : Bool) → cond t ([] ∷ lines bs) (onto_line b (lines bs)) ≡ [] → length (b ∷ bs) ≡ 0
    go true none = absurd cc
    go false none = absurd (onto_some b (lines bs) none)

no_lines : (bs : List ℕ) → length bs ≡ 0 → lines bs ≡ []
no_lines [] e = refl
no_lines (b ∷ bs) e = absurd (omega arith)

-- a test whether bytes are left is one whether lines are
pub left_lines : (bs : List ℕ) → (IsTrue (eqb (length bs) 0) → lines bs ≡ []) × (lines bs ≡ [] → IsTrue (eqb (length bs) 0))
left_lines bs = (λ t. no_lines bs (eqb-true (length bs) 0 t), λ e. eq-eqb (length bs) 0 (some_lines bs e))

pub ruleset ends = (left_lines)
