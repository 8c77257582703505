-- Packed positions compare as positions do, number by number: the first square that differs decides.
use Rattle.std.proofs.Common.{◌≡◌, ◌≢◌, ℕ, zero, suc, ◌^◌, ◌<◌, true, false, not, nat_lt, cond, List, [], ◌∷◌, ◌++◌, length, get_or, refl, sym, ap, ◌∙◌, arith, map, w64}
use Rattle.std.specs.Prelude.{None}
use Rattle.std.specs.Int.{trailing_zeros}
use Rattle.std.specs.Cmp.Lexicographic.{slice_cmp}
use Rattle.std.specs.Ordering.{nat_cmp, ordering_then, is_eq}
use Rattle.std.specs.declared.cmp.Ordering.{Ordering}
use Rattle.std.specs.declared.cmp.Ordering.TheVariants.{Less, Equal, Greater}
use Rattle.std.proofs.lemmas.Bool.{eq-eqb, ne_eqb, eqb-true, not-false}
use Rattle.std.proofs.lemmas.Bool.Decides.{nat_tests}
use Rattle.std.proofs.lemmas.Cmp.{ranked, by_ranked}
use Rattle.std.proofs.lemmas.List.{length-map, get_or-map, ext_get_or}
use Rattle.krieg_pack.proofs.Common.{man_at, Pos, has, IsLowest, numbers, man_code, position_cmp, state, Inside}
use Rattle.krieg_board.proofs.SetLemmas.{has_zero, lowest}
use Rattle.krieg_pack.proofs.Unpacking.{Stand}
use Rattle.krieg_pack.proofs.CodePairs.{AreApart}

pub cmp_less : (x y : ℕ) → x < y → nat_cmp x y ≡ Less
cmp_less x y h = grind (arith, nat_tests)

pub cmp_greater : (x y : ℕ) → y < x → nat_cmp x y ≡ Greater
cmp_greater x y h = grind (arith, nat_tests)

pub cmp_same : (x y : ℕ) → x ≡ y → nat_cmp x y ≡ Equal
cmp_same x y h = grind (arith, nat_tests)

-- two numbers that differ decide, whatever comes behind them
decided : (x y : ℕ) (o : Ordering) → x ≢ y → ordering_then (nat_cmp x y) o ≡ nat_cmp x y
decided x y o n =
    let then = λ (r : Ordering). ordering_then r o in
    by_ranked (x < y) (x ≡ y) (y < x) (nat_cmp x y) (ranked x y (nat_cmp x y) refl)
    (λ is h. ap then is ∙ sym is) (λ is h. absurd (n h)) (λ is h. ap then is ∙ sym is)

untied : (x y : ℕ) → x ≢ y → is_eq (nat_cmp x y) ≡ false
untied x y n =
    by_ranked (x < y) (x ≡ y) (y < x) (nat_cmp x y) (ranked x y (nat_cmp x y) refl)
    (λ is h. ap is_eq is) (λ is h. absurd (n h)) (λ is h. ap is_eq is)

-- lists that are the same before a place and differ there compare as what stands there
first_decides : (t : ℕ) (xs ys us vs : List ℕ) → t < length xs → t < length ys → ((k : ℕ) → k < t → get_or xs k 0 ≡ get_or ys k 0) → get_or xs t 0 ≢ get_or ys t 0 →
    slice_cmp nat_cmp (xs ++ us) (ys ++ vs) ≡ nat_cmp (get_or xs t 0) (get_or ys t 0)
first_decides t [] ys us vs h l e n = absurd (omega arith)
first_decides t (x ∷ xs) [] us vs h l e n = absurd (omega arith)
first_decides zero (x ∷ xs) (y ∷ ys) us vs h l e n = decided x y (slice_cmp nat_cmp (xs ++ us) (ys ++ vs)) n
first_decides (suc t) (x ∷ xs) (y ∷ ys) us vs h l e n =
    ap (λ (o : Ordering). ordering_then o (slice_cmp nat_cmp (xs ++ us) (ys ++ vs))) (cmp_same x y (e 0 (omega arith)))
    ∙ first_decides t xs ys us vs (omega arith) (omega arith) (λ k b. e (suc k) (omega arith)) n

-- the same front of two lists decides nothing
front_same : (xs us vs : List ℕ) → slice_cmp nat_cmp (xs ++ us) (xs ++ vs) ≡ slice_cmp nat_cmp us vs
front_same [] us vs = refl
front_same (x ∷ xs) us vs =
    ap (λ (o : Ordering). ordering_then o (slice_cmp nat_cmp (xs ++ us) (xs ++ vs))) (cmp_same x x refl) ∙ front_same xs us vs

same_there : (set : ℕ) (p q : Pos) (k : ℕ) → AreApart set p q → k < 64 → has set k ≡ false → man_code (man_at p.board k) ≡ man_code (man_at q.board k)
same_there set p q k a h e = eqb-true _ _ (not-false _ (sym (a k h) ∙ e))

other_there : (set : ℕ) (p q : Pos) (k : ℕ) → AreApart set p q → k < 64 → has set k ≡ true → man_code (man_at p.board k) ≢ man_code (man_at q.board k)
other_there set p q k a h e same = true_not (sym e ∙ a k h ∙ ap not (eq-eqb _ _ same))
  where
    true_not : true ≡ false → ⊥
    true_not e = cc

module _ (set : ℕ) (p q : Pos) (a : AreApart set p q) (l : length p.board ≡ 64) (m : length q.board ≡ 64) where
  code_p : (k : ℕ) → k < 64 → get_or (map man_code p.board) k 0 ≡ man_code (man_at p.board k)
  code_p k h = get_or-map man_code p.board k None 0 (omega arith)

  code_q : (k : ℕ) → k < 64 → get_or (map man_code q.board) k 0 ≡ man_code (man_at q.board k)
  code_q k h = get_or-map man_code q.board k None 0 (omega arith)

  -- the lowest of them decides
  lowest_decides : (s : ℕ) → IsLowest set s → nat_cmp (man_code (man_at p.board s)) (man_code (man_at q.board s)) ≡ position_cmp p q
  unfolding numbers
  lowest_decides s low =
      let below : s < 64 = low.below in
      sym (first_decides s (map man_code p.board) (map man_code q.board) _ _
      (omega (arith, length-map p.board man_code)) (omega (arith, length-map q.board man_code))
      (λ k h. code_p k (omega arith) ∙ same_there set p q k a (omega arith) (low.first k h) ∙ sym (code_q k (omega arith)))
      (λ e. other_there set p q s a below low.member (sym (code_p s below) ∙ e ∙ code_q s below))
      ∙ (λ i. nat_cmp (code_p s below i) (code_q s below i)))

  -- by which of its codes is smaller
  pub smaller_decides : (s : ℕ) → IsLowest set s → cond (nat_lt (man_code (man_at p.board s)) (man_code (man_at q.board s))) Less Greater ≡ position_cmp p q
  smaller_decides s low =
      let n = ne_eqb _ _ (other_there set p q s a low.below low.member) in
      sym (ap (λ t. cond (nat_lt (man_code (man_at p.board s)) (man_code (man_at q.board s))) Less (cond t Equal Greater)) n) ∙ lowest_decides s low

  -- so where there are any, the positions do not tie
  pub some_decide : 0 < set → set < 2 ^ 64 → is_eq (position_cmp p q) ≡ false
  some_decide any small =
      let low = lowest set any small in
      let s = trailing_zeros w64 set in
      sym (ap is_eq (lowest_decides s low)) ∙ untied _ _ (other_there set p q s a low.below low.member)

  -- where there are none, the rest decides
  pub state_decides : set ≡ 0 → slice_cmp nat_cmp (state p) (state q) ≡ position_cmp p q
  unfolding numbers
  state_decides none =
      let size_p = length-map p.board man_code in
      let size_q = length-map q.board man_code in
      let codes : map man_code p.board ≡ map man_code q.board =
      ext_get_or 0 (map man_code p.board) (map man_code q.board) (size_p ∙ l ∙ sym m ∙ sym size_q)
      (λ k h. let below : k < 64 = omega (arith, size_p) in
      code_p k below ∙ same_there set p q k a below (ap (λ n. has n k) none ∙ has_zero k) ∙ sym (code_q k below)) in
      sym (ap (λ xs. slice_cmp nat_cmp (map man_code p.board ++ state p) (xs ++ state q)) (sym codes) ∙ front_same (map man_code p.board) (state p) (state q))

then_Equal : (o : Ordering) → o ≡ ordering_then o Equal
then_Equal Less = refl
then_Equal Equal = refl
then_Equal Greater = refl

-- the three bytes compare as what they stand for
pub state_cmp : (a b : Inside) (p q : Pos) → Stand a p → Stand b q →
    ordering_then (nat_cmp a.rights b.rights) (ordering_then (nat_cmp a.mark b.mark) (nat_cmp a.side b.side)) ≡ slice_cmp nat_cmp (state p) (state q)
state_cmp a b p q s t =
    ap (λ (o : Ordering). ordering_then (nat_cmp a.rights b.rights) (ordering_then (nat_cmp a.mark b.mark) o)) (then_Equal (nat_cmp a.side b.side))
    ∙ (λ i. slice_cmp nat_cmp (s.rights i ∷ s.mark i ∷ s.side i ∷ []) (t.rights i ∷ t.mark i ∷ t.side i ∷ []))
