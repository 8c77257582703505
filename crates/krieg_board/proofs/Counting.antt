-- How many places of a board pass a test, and where one does.
use Rattle.std.proofs.Common.{◌≡◌, ℕ, suc, ◌+◌, ◌<◌, Bool, true, false, ◌⊎◌, inl, inr, refl, sym, ◌∙◌, ap, arith, cond, [], ◌∷◌, length, set, ◌≢◌}
use Rattle.std.specs.Prelude.{Option, None, count_by}
use Rattle.std.proofs.lemmas.Bool.{cases_eq}
use Rattle.std.proofs.lemmas.List.{get_or-set_other}
use Rattle.std.proofs.lemmas.List.Sums.{sum_by-set, sum_by-cons}
use Rattle.std.proofs.Math.ListN.{length-set}
use Rattle.krieg_board.proofs.Common.{Man, Board, man_at}

-- 1 where the test passes
abbrev pub one : Bool → ℕ
one t = cond t 1 0

pub count_set : (q : Option Man → Bool) (b : Board) (i : ℕ) (v : Option Man) → i < length b → count_by q (set b i v) + one (q (man_at b i)) ≡ count_by q b + one (q v)
count_set q b i v h = sum_by-set (λ x. cond (q x) 1 0) b i v None h

-- where any are counted, one stands somewhere
pub counted : (q : Option Man → Bool) (b : Board) → 0 < count_by q b → (k : ℕ) × (k < length b) × (q (man_at b k) ≡ true)
counted q [] h = absurd (omega arith)
counted q (x ∷ xs) h = by_first (q x) refl (counted q xs)
  where
    by_first : (t : Bool) → q x ≡ t → (0 < count_by q xs → (k : ℕ) × (k < length xs) × (q (man_at xs k) ≡ true)) → (k : ℕ) × (k < suc (length xs)) × (q (man_at (x ∷ xs) k) ≡ true)
    by_first true e rest = (0, omega arith, e)
    by_first false e rest =
        let none : one (q x) ≡ 0 = ap one e in
        let whole : count_by q (x ∷ xs) ≡ one (q x) + count_by q xs = sum_by-cons (λ y. cond (q y) 1 0) x xs in
        let left : 0 < count_by q xs = omega (arith, h, whole, none) in
        let (k, l, p) = rest left in
        (suc k, omega arith, p)

-- where one is counted, two places that pass are one
pub one_place : (q : Option Man → Bool) → q None ≡ false → (b : Board) (i j : ℕ) → count_by q b ≡ 1 → i < length b → j < length b →
    q (man_at b i) ≡ true → q (man_at b j) ≡ true → i ≡ j
one_place q none b i j e hi hj p r = by_place (cases_eq j i)
  where
    by_place : (j ≡ i) ⊎ (j ≢ i) → i ≡ j
    by_place (inl s) = sym s
    by_place (inr s) =
        let first = count_set q b i None hi in
        let there : q (man_at (set b i None) j) ≡ true = ap q (get_or-set_other b i j None None s) ∙ r in
        let second = count_set q (set b i None) j None (rw length-set hj) in
        let e1 : one (q (man_at b i)) ≡ 1 = ap one p in
        let e2 : one (q (man_at (set b i None) j)) ≡ 1 = ap one there in
        let e3 : one (q None) ≡ 0 = ap one none in
        absurd (omega arith)
