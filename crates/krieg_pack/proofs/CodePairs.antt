-- Two codes on one square, by the sets of their bits: whether they differ, and which is smaller.
use Rattle.std.proofs.Common.{◌≡◌, ℕ, ◌+◌, ◌-◌, ◌*◌, ◌<◌, ◌≤◌, Bool, true, false, not, ◌&&◌, ◌||◌, ◌==◌, nat_lt, ◌⊎◌, inl, inr, cond, refl, sym, ap, ◌∙◌, arith, bit_and, bit_or}
use Rattle.std.specs.Prelude.{Option}
use Rattle.std.specs.Int.RustNames.{bit_xor}
use Rattle.std.proofs.lemmas.Bool.{cases_Bool, cases_lt, lt-ltb, le-ltb, eq-eqb, ne_eqb, or_parts, both_ways}
use Rattle.krieg_pack.proofs.Common.{man_at, Pos, has, Man, man_code, Inside}
use Rattle.krieg_board.proofs.SetLemmas.{differ}
use Rattle.krieg_pack.proofs.CodeBits.{code_from_bits, bit_le, or_is, xor_is, without_is}
use Rattle.krieg_pack.proofs.Unpacking.{Coded, Narrow}

differ_none : (a b : Bool) → differ a b ≡ false → a ≡ b
differ_none true true h = refl
differ_none true false h = cc
differ_none false true h = cc
differ_none false false h = refl

differ_same : (a : Bool) → differ a a ≡ false
differ_same true = refl
differ_same false = refl

-- some bit of two codes differs
abbrev some_bit : ℕ → ℕ → Bool
some_bit m n = (differ (has m 0) (has n 0) || differ (has m 1) (has n 1)) || (differ (has m 2) (has n 2) || differ (has m 3) (has n 3))

-- just where the codes do
tell_apart : (x y : Option Man) → some_bit (man_code x) (man_code y) ≡ not (man_code x == man_code y)
tell_apart x y = by_case (cases_Bool (some_bit (man_code x) (man_code y)))
  where
    one : (m n : ℕ) → m ≡ n → some_bit m n ≡ false
    one m n e =
        ap (λ n. some_bit m n) (sym e)
        ∙ (λ i. (differ_same (has m 0) i || differ_same (has m 1) i) || (differ_same (has m 2) i || differ_same (has m 3) i))

    same : some_bit (man_code x) (man_code y) ≡ false → man_code x ≡ man_code y
    same e =
        let halves = or_parts _ _ e in
        let low = or_parts _ _ halves.0 in
        let high = or_parts _ _ halves.1 in
        let e0 = differ_none _ _ low.0 in
        let e1 = differ_none _ _ low.1 in
        let e2 = differ_none _ _ high.0 in
        let e3 = differ_none _ _ high.1 in
        sym (code_from_bits x) ∙ (λ i. cond (e0 i) 1 0 + 2 * cond (e1 i) 1 0 + 4 * cond (e2 i) 1 0 + 8 * cond (e3 i) 1 0) ∙ code_from_bits y

    by_case : (some_bit (man_code x) (man_code y) ≡ true) ⊎ (some_bit (man_code x) (man_code y) ≡ false) → some_bit (man_code x) (man_code y) ≡ not (man_code x == man_code y)
    by_case (inl e) = e ∙ sym (ap not (ne_eqb _ _ (λ s. both_ways _ (one _ _ s) e)))
    by_case (inr e) = e ∙ sym (ap not (eq-eqb _ _ (same e)))

-- the squares on which two positions have different codes
abbrev pub AreApart : ℕ → Pos → Pos → Type 0
AreApart set p q = (k : ℕ) → k < 64 → has set k ≡ not (man_code (man_at p.board k) == man_code (man_at q.board k))

pub fields_apart : (a b : Inside) (p q : Pos) → Coded a p.board → Coded b q.board →
    AreApart (bit_or (bit_or (bit_xor a.ones b.ones) (bit_xor a.twos b.twos)) (bit_or (bit_xor a.fours b.fours) (bit_xor a.eights b.eights))) p q
fields_apart a b p q c d k h =
    or_is _ _ k _ _
    (or_is _ _ k _ _ (xor_is a.ones b.ones k _ _ (c.ones k h) (d.ones k h)) (xor_is a.twos b.twos k _ _ (c.twos k h) (d.twos k h)))
    (or_is _ _ k _ _ (xor_is a.fours b.fours k _ _ (c.fours k h) (d.fours k h)) (xor_is a.eights b.eights k _ _ (c.eights k h) (d.eights k h)))
    ∙ tell_apart (man_at p.board k) (man_at q.board k)

first_bit : (a b : Bool) → (b && not a) ≡ nat_lt (cond a 1 0) (cond b 1 0)
first_bit true true = refl
first_bit true false = refl
first_bit false true = refl
first_bit false false = refl

-- one bit more in front of two numbers
front_bit : (w x y : ℕ) (a b : Bool) → x < w → y < w → cond (differ a b) b (nat_lt x y) ≡ nat_lt (x + w * cond a 1 0) (y + w * cond b 1 0)
front_bit w x y true true h l = same_order (cases_lt x y)
  where
    same_order : (x < y) ⊎ (y ≤ x) → nat_lt x y ≡ nat_lt (x + w * 1) (y + w * 1)
    same_order (inl s) = lt-ltb x y s ∙ sym (lt-ltb (x + w * 1) (y + w * 1) (omega arith))
    same_order (inr s) = le-ltb x y s ∙ sym (le-ltb (x + w * 1) (y + w * 1) (omega arith))
front_bit w x y true false h l = sym (le-ltb (x + w * 1) (y + w * 0) (omega arith))
front_bit w x y false true h l = sym (lt-ltb (x + w * 0) (y + w * 1) (omega arith))
front_bit w x y false false h l = λ i. nat_lt (none x i) (none y i)
  where
    none : (n : ℕ) → n ≡ n + w * 0
    none n = omega arith

-- the highest bit that differs tells which of two codes is smaller
pub fields_smaller : (a b : Inside) (p q : Pos) (k twos fours eights : ℕ) → Coded a p.board → Coded b q.board → Narrow a → k < 64 →
    has twos k ≡ cond (has (bit_xor a.twos b.twos) k) (has b.twos k) (has (bit_and b.ones (18446744073709551615 - a.ones)) k) →
    has fours k ≡ cond (has (bit_xor a.fours b.fours) k) (has b.fours k) (has twos k) →
    has eights k ≡ cond (has (bit_xor a.eights b.eights) k) (has b.eights k) (has fours k) →
    has eights k ≡ nat_lt (man_code (man_at p.board k)) (man_code (man_at q.board k))
fields_smaller a b p q k twos fours eights c d n h e2 e4 e8 =
    let x = man_code (man_at p.board k) in
    let y = man_code (man_at q.board k) in
    let one = λ (m i : ℕ). cond {A = ℕ} (has m i) 1 0 in
    let le = λ (m i : ℕ). bit_le (has m i) in
    let by_one = without_is b.ones a.ones k _ _ n.ones h (d.ones k h) (c.ones k h) ∙ first_bit (has x 0) (has y 0) in
    let by_two =
    e2 ∙ (λ i. cond (xor_is a.twos b.twos k _ _ (c.twos k h) (d.twos k h) i) (d.twos k h i) (by_one i))
    ∙ front_bit 2 (one x 0) (one y 0) (has x 1) (has y 1) (omega (arith, le x 0)) (omega (arith, le y 0)) in
    let by_four =
    e4 ∙ (λ i. cond (xor_is a.fours b.fours k _ _ (c.fours k h) (d.fours k h) i) (d.fours k h i) (by_two i))
    ∙ front_bit 4 (one x 0 + 2 * one x 1) (one y 0 + 2 * one y 1) (has x 2) (has y 2) (omega (arith, le x 0, le x 1)) (omega (arith, le y 0, le y 1)) in
    e8 ∙ (λ i. cond (xor_is a.eights b.eights k _ _ (c.eights k h) (d.eights k h) i) (d.eights k h i) (by_four i))
    ∙ front_bit 8 (one x 0 + 2 * one x 1 + 4 * one x 2) (one y 0 + 2 * one y 1 + 4 * one y 2) (has x 3) (has y 3)
    (omega (arith, le x 0, le x 1, le x 2)) (omega (arith, le y 0, le y 1, le y 2))
    ∙ (λ i. nat_lt (code_from_bits (man_at p.board k) i) (code_from_bits (man_at q.board k) i))
