-- The same men of a side on two boards, by sets: the same squares, and on them the same kinds.
use Rattle.std.proofs.Common.{◌≡◌, ℕ, ◌^◌, ◌<◌, Bool, true, false, not, ◌&&◌, ◌||◌, ◌==◌, refl, sym, ◌∙◌, ap, arith, cond, bit_and, bit_or}
use Rattle.std.specs.Prelude.{Option, Some, None}
use Rattle.std.specs.Int.RustNames.{bit_xor}
use Rattle.std.proofs.lemmas.Bool.{and_parts, and_from, eqb-true, eq-eqb, both_ways, false_from_ne_true}
use Rattle.std.proofs.lemmas.Nat.{and_le_l}
use Rattle.krieg_board.proofs.Common.{Side, White, Black, Kind, Pawn, King, Man, Sets, is_same_side, is_same_kind, every_square, Board, man_at, is_of, has, is_kind, Show, is_alike, is_same_of, has_same_men}
use Rattle.krieg_board.specs.declared.men.Kind.TheVariants.{Knight, Bishop, Rook, Queen}
use Rattle.krieg_board.proofs.SetLemmas.{differ, has_and, has_or, has_xor, has_zero, same_sets}
use Rattle.krieg_board.proofs.SameTests.{same_tests}
use Rattle.krieg_board.proofs.SquareTests.{every_square_all, every_square_at}

-- a kind that stands on one of the squares alone
abbrev differ_by : Kind → Option Man → Option Man → Bool
differ_by which x y = differ (is_kind which x) (is_kind which y)

abbrev some_differ : Option Man → Option Man → Bool
some_differ x y =
    ((((differ_by Pawn x y || differ_by Knight x y) || differ_by Bishop x y) || differ_by Rook x y) || differ_by Queen x y) || differ_by King x y

differ_alike : (x y : Option Man) → some_differ x y ≡ not (is_alike x y)
differ_alike None None = refl
differ_alike None (Some b) = by_kind b.kind
  where
    by_kind : (k : Kind) → (((((is_same_kind k Pawn || is_same_kind k Knight) || is_same_kind k Bishop) || is_same_kind k Rook) || is_same_kind k Queen) || is_same_kind k King) ≡ true
    by_kind Pawn = refl
    by_kind Knight = refl
    by_kind Bishop = refl
    by_kind Rook = refl
    by_kind Queen = refl
    by_kind King = refl
differ_alike (Some a) None = by_kind a.kind
  where
    by_kind : (k : Kind) → some_differ (Some (record { side = a.side; kind = k })) None ≡ true
    by_kind Pawn = refl
    by_kind Knight = refl
    by_kind Bishop = refl
    by_kind Rook = refl
    by_kind Queen = refl
    by_kind King = refl
differ_alike (Some a) (Some b) = by_kinds a.kind b.kind
  where
    by_kinds : (k l : Kind) → some_differ (Some (record { side = a.side; kind = k })) (Some (record { side = b.side; kind = l })) ≡ not (is_same_kind k l)
    by_kinds Pawn Pawn = refl
    by_kinds Pawn Knight = refl
    by_kinds Pawn Bishop = refl
    by_kinds Pawn Rook = refl
    by_kinds Pawn Queen = refl
    by_kinds Pawn King = refl
    by_kinds Knight Pawn = refl
    by_kinds Knight Knight = refl
    by_kinds Knight Bishop = refl
    by_kinds Knight Rook = refl
    by_kinds Knight Queen = refl
    by_kinds Knight King = refl
    by_kinds Bishop Pawn = refl
    by_kinds Bishop Knight = refl
    by_kinds Bishop Bishop = refl
    by_kinds Bishop Rook = refl
    by_kinds Bishop Queen = refl
    by_kinds Bishop King = refl
    by_kinds Rook Pawn = refl
    by_kinds Rook Knight = refl
    by_kinds Rook Bishop = refl
    by_kinds Rook Rook = refl
    by_kinds Rook Queen = refl
    by_kinds Rook King = refl
    by_kinds Queen Pawn = refl
    by_kinds Queen Knight = refl
    by_kinds Queen Bishop = refl
    by_kinds Queen Rook = refl
    by_kinds Queen Queen = refl
    by_kinds Queen King = refl
    by_kinds King Pawn = refl
    by_kinds King Knight = refl
    by_kinds King Bishop = refl
    by_kinds King Rook = refl
    by_kinds King Queen = refl
    by_kinds King King = refl

pub differing_has : (a b : Board) (s t : Sets) → Show s a → Show t b → (k : ℕ) → k < 64 →
    has (bit_or (bit_or (bit_or (bit_or (bit_or (bit_xor s.pawns t.pawns) (bit_xor s.knights t.knights)) (bit_xor s.bishops t.bishops)) (bit_xor s.rooks t.rooks)) (bit_xor s.queens t.queens)) (bit_xor s.kings t.kings)) k
    ≡ not (is_alike (man_at a k) (man_at b k))
differing_has a b s t ha hb k h =
    simp (has_or, has_xor)
    ((λ i. ((((differ (ha.pawns k h i) (hb.pawns k h i) || differ (ha.knights k h i) (hb.knights k h i)) || differ (ha.bishops k h i) (hb.bishops k h i))
    || differ (ha.rooks k h i) (hb.rooks k h i)) || differ (ha.queens k h i) (hb.queens k h i)) || differ (ha.kings k h i) (hb.kings k h i))
    ∙ differ_alike (man_at a k) (man_at b k))

same_from : (who : Side) (x y : Option Man) → is_of who x ≡ is_of who y → (not (is_alike x y) && is_of who x) ≡ false → is_same_of who x y ≡ true
same_from who None None e h = refl
same_from who None (Some b) e h = ap not (sym e)
same_from who (Some a) None e h = by_side (is_same_side a.side who) e
  where
    by_side : (t : Bool) → t ≡ false → cond t false true ≡ true
    by_side true e = cc
    by_side false e = refl
same_from who (Some a) (Some b) e h = by_sides who a.side b.side (is_same_kind a.kind b.kind) e h
  where
    by_sides : (who s t : Side) (k : Bool) → is_same_side s who ≡ is_same_side t who → (not k && is_same_side s who) ≡ false →
        cond (is_same_side s who) (is_same_side s t && k) (not (is_same_side t who)) ≡ true
    by_sides White White White true e h = refl
    by_sides White White White false e h = cc
    by_sides White White Black k e h = cc
    by_sides White Black White k e h = cc
    by_sides White Black Black k e h = refl
    by_sides Black White White k e h = refl
    by_sides Black White Black k e h = cc
    by_sides Black Black White k e h = cc
    by_sides Black Black Black true e h = refl
    by_sides Black Black Black false e h = cc

same_tells : (who : Side) (x y : Option Man) → is_same_of who x y ≡ true → (is_of who x ≡ is_of who y) × ((not (is_alike x y) && is_of who x) ≡ false)
same_tells who None None h = (refl, refl)
same_tells who None (Some b) h = by_side (is_same_side b.side who) h
  where
    by_side : (t : Bool) → not t ≡ true → (false ≡ t) × (false ≡ false)
    by_side true h = cc
    by_side false h = (refl, refl)
same_tells who (Some a) None h = by_side (is_same_side a.side who) h
  where
    by_side : (t : Bool) → cond t false true ≡ true → (t ≡ false) × ((true && t) ≡ false)
    by_side true h = cc
    by_side false h = (refl, refl)
same_tells who (Some a) (Some b) h = by_sides who a.side b.side (is_same_kind a.kind b.kind) h
  where
    by_sides : (who s t : Side) (k : Bool) → cond (is_same_side s who) (is_same_side s t && k) (not (is_same_side t who)) ≡ true →
        (is_same_side s who ≡ is_same_side t who) × ((not k && is_same_side s who) ≡ false)
    by_sides White White White true h = (refl, refl)
    by_sides White White White false h = cc
    by_sides White White Black k h = cc
    by_sides White Black White k h = cc
    by_sides White Black Black true h = (refl, refl)
    by_sides White Black Black false h = (refl, refl)
    by_sides Black White White true h = (refl, refl)
    by_sides Black White White false h = (refl, refl)
    by_sides Black White Black k h = cc
    by_sides Black Black White k h = cc
    by_sides Black Black Black true h = (refl, refl)
    by_sides Black Black Black false h = cc

-- m and n are the squares of the side's men on the two boards, d those that are not alike
pub same_men : (who : Side) (a b : Board) (m n d : ℕ) → m < 2 ^ 64 → n < 2 ^ 64 → d < 2 ^ 64 →
    ((k : ℕ) → k < 64 → has m k ≡ is_of who (man_at a k)) → ((k : ℕ) → k < 64 → has n k ≡ is_of who (man_at b k)) →
    ((k : ℕ) → k < 64 → has d k ≡ not (is_alike (man_at a k) (man_at b k))) → (m == n && bit_and d m == 0) ≡ has_same_men who a b
unfolding has_same_men
same_men who a b m n d hm hn hd em en ed =
    same_tests (m == n && bit_and d m == 0) (every_square (λ k. is_same_of who (man_at a k) (man_at b k)))
    (λ h. let r = and_parts (m == n) (bit_and d m == 0) h in
    let same : m ≡ n = eqb-true m n r.0 in
    let none : bit_and d m ≡ 0 = eqb-true (bit_and d m) 0 r.1 in
    every_square_all (λ k. is_same_of who (man_at a k) (man_at b k)) (λ k l.
    same_from who (man_at a k) (man_at b k) (sym (em k l) ∙ ap (λ x. has x k) same ∙ en k l)
    ((λ i. sym (ed k l) i && sym (em k l) i) ∙ sym (has_and d m k) ∙ ap (λ x. has x k) none ∙ has_zero k)))
    (λ h. and_from (m == n) (bit_and d m == 0)
    (eq-eqb m n (same_sets m n hm hn (λ k l. em k l ∙ (same_tells who (man_at a k) (man_at b k) (every_square_at (λ k. is_same_of who (man_at a k) (man_at b k)) h k l)).0 ∙ sym (en k l))))
    (eq-eqb (bit_and d m) 0 (same_sets (bit_and d m) 0 (omega (arith, and_le_l d m)) (omega arith) (λ k l.
    has_and d m k ∙ (λ i. ed k l i && em k l i)
    ∙ (same_tells who (man_at a k) (man_at b k) (every_square_at (λ k. is_same_of who (man_at a k) (man_at b k)) h k l)).1 ∙ sym (has_zero k)))))

pub same_men_not : (who : Side) (a b : Board) (m n : ℕ) → m < 2 ^ 64 → n < 2 ^ 64 →
    ((k : ℕ) → k < 64 → has m k ≡ is_of who (man_at a k)) → ((k : ℕ) → k < 64 → has n k ≡ is_of who (man_at b k)) → (m == n) ≡ false → false ≡ has_same_men who a b
unfolding has_same_men
same_men_not who a b m n hm hn em en e =
    sym (false_from_ne_true (every_square (λ k. is_same_of who (man_at a k) (man_at b k))) (λ h.
    both_ways (m == n) e (eq-eqb m n (same_sets m n hm hn (λ k l.
    em k l ∙ (same_tells who (man_at a k) (man_at b k) (every_square_at (λ k. is_same_of who (man_at a k) (man_at b k)) h k l)).0 ∙ sym (en k l))))))
