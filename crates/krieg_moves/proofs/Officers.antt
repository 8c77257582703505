-- The moves of knights, bishops, rooks and queens who are not pinned, kind by kind.
use Rattle.std.proofs.Common.{◌≡◌, ℕ, zero, suc, ◌+◌, ◌-◌, ◌^◌, ◌<◌, Bool, true, false, not, ◌&&◌, ◌||◌, cond, List, [], length, refl, sym, ◌∙◌, ap, arith, bit_and, bit_or, length-append}
use Rattle.std.specs.Prelude.{Option, Some, None}
use Rattle.std.specs.List.{filter}
use Rattle.std.proofs.lemmas.Bool.{and_parts, both_ways, false_from_ne_true}
use Rattle.std.proofs.lemmas.Nat.{or_lt}
use Rattle.std.proofs.Math.Bool.{and-false}
use Rattle.krieg_moves.proofs.Common.{Side, Kind, Pawn, King, Man, Move, Sets, is_same_side, is_same_kind, Pos, gathered, man_at, is_of, is_man, is_kind, Show, has, is_legal, moves_from, moves_of, is_officer, is_officer_of, is_free_officer}
use Rattle.krieg_board.specs.declared.men.Kind.TheVariants.{Knight, Bishop, Rook, Queen}
use Rattle.krieg_board.proofs.MenLemmas.{same_side_eq, same_kind_eq}
use Rattle.krieg_board.proofs.SetLemmas.{has_and, has_or, has_not}
use Rattle.krieg_moves.proofs.Counting.{counted_apart}
use Rattle.krieg_moves.proofs.Going.{no_pawn}
use Rattle.krieg_moves.proofs.Movers.{is_of_man}

-- an officer is of one of four kinds
pub officer_kinds : (side : Side) (x : Option Man) →
    (((is_kind Knight x || is_kind Bishop x) || (is_kind Rook x || is_kind Queen x)) && is_of side x) ≡ is_officer_of side x
officer_kinds side None = refl
officer_kinds side (Some m) = of_kind m.kind (is_same_side m.side side)
  where
    of_kind : (which : Kind) (o : Bool) →
        (((is_same_kind which Knight || is_same_kind which Bishop) || (is_same_kind which Rook || is_same_kind which Queen)) && o) ≡ (o && is_officer which)
    of_kind Pawn true = refl
    of_kind Knight true = refl
    of_kind Bishop true = refl
    of_kind Rook true = refl
    of_kind Queen true = refl
    of_kind King true = refl
    of_kind Pawn false = refl
    of_kind Knight false = refl
    of_kind Bishop false = refl
    of_kind Rook false = refl
    of_kind Queen false = refl
    of_kind King false = refl

-- an officer of that kind and side is that man
pub officer_is : (side side' : Side) (which : Kind) (x : Option Man) → side' ≡ side → is_officer_of side x ≡ true → is_kind which x ≡ true → x ≡ Some (record { side = side'; kind = which })
officer_is side side' which None e o k = cc
officer_is side side' which (Some m) e o k =
    let s = same_side_eq m.side side (and_parts (is_same_side m.side side) (is_officer m.kind) o).0 in
    λ i. Some (record { side = (s ∙ sym e) i; kind = same_kind_eq m.kind which k i })

-- what is known of a free officer among those of one kind
pub free_of_kind : (p : Pos) (side : Side) (which : Kind) (men n k : ℕ) → side ≡ p.side → has men k ≡ is_free_officer p k → has n k ≡ is_kind which (man_at p.board k) →
    has (bit_and men n) k ≡ true → (man_at p.board k ≡ Some (record { side = side; kind = which })) × (is_free_officer p k ≡ true)
free_of_kind p side which men n k e em en here =
    let both = and_parts (has men k) (has n k) (sym (has_and men n k) ∙ here) in
    let free = sym em ∙ both.0 in
    (officer_is p.side side which (man_at p.board k) e (and_parts (is_officer_of p.side (man_at p.board k)) _ free).0 (sym en ∙ both.1), free)

abbrev some_of : {A : Type 0} → (ℕ → List A) → ℕ → ℕ → List A
some_of g n k = cond (has n k) (g k) []

-- the lists of the squares of a set that four sets part
parted_below : {A : Type 0} (g : ℕ → List A) (whole a b c d n : ℕ) →
    ((k : ℕ) → k < n → length (some_of g whole k) ≡ length (some_of g a k) + length (some_of g b k) + length (some_of g c k) + length (some_of g d k)) →
    length (gathered (some_of g whole) n) ≡ length (gathered (some_of g a) n) + length (gathered (some_of g b) n) + length (gathered (some_of g c) n) + length (gathered (some_of g d) n)
parted_below g whole a b c d zero e = refl
parted_below g whole a b c d (suc n) e =
    omega (
      arith,
      parted_below g whole a b c d n (λ k h. e k (omega arith)),
      e n (omega arith),
      length-append (gathered (some_of g whole) n) (some_of g whole n),
      length-append (gathered (some_of g a) n) (some_of g a n),
      length-append (gathered (some_of g b) n) (some_of g b n),
      length-append (gathered (some_of g c) n) (some_of g c n),
      length-append (gathered (some_of g d) n) (some_of g d n),
    )

-- the moves of officers are those of the four kinds
pub counted_by_kind : (p : Pos) (men : ℕ) (s : Sets) → Show s p.board → ((k : ℕ) → k < 64 → has men k ≡ is_free_officer p k) →
    length (moves_of p men)
    ≡ length (moves_of p (bit_and men s.knights)) + length (moves_of p (bit_and men s.bishops)) + length (moves_of p (bit_and men s.rooks)) + length (moves_of p (bit_and men s.queens))
unfolding moves_of
counted_by_kind p men s show e =
    parted_below g men (bit_and men s.knights) (bit_and men s.bishops) (bit_and men s.rooks) (bit_and men s.queens) 64 (λ k h.
    one_of (has men k) (man_at p.board k) (g k) (λ here. (and_parts (is_officer_of p.side (man_at p.board k)) _ (sym (e k h) ∙ here)).0)
    ∙ sym (λ i. length (cond ((has_and men s.knights k ∙ ap (λ x. has men k && x) (show.knights k h)) i) (g k) [])
    + length (cond ((has_and men s.bishops k ∙ ap (λ x. has men k && x) (show.bishops k h)) i) (g k) [])
    + length (cond ((has_and men s.rooks k ∙ ap (λ x. has men k && x) (show.rooks k h)) i) (g k) [])
    + length (cond ((has_and men s.queens k ∙ ap (λ x. has men k && x) (show.queens k h)) i) (g k) [])))
  where
    g : ℕ → List Move
    g k = filter (is_legal p) (moves_from k)

    of_kind : {A : Type 0} (which : Kind) (o : Bool) (xs : List A) → (o && is_officer which) ≡ true →
        length xs
        ≡ length (cond (is_same_kind which Knight) xs []) + length (cond (is_same_kind which Bishop) xs []) + length (cond (is_same_kind which Rook) xs []) + length (cond (is_same_kind which Queen) xs [])
    of_kind Pawn true xs h = cc
    of_kind Knight true xs h = omega arith
    of_kind Bishop true xs h = omega arith
    of_kind Rook true xs h = omega arith
    of_kind Queen true xs h = omega arith
    of_kind King true xs h = cc
    of_kind which false xs h = cc

    one_of : {A : Type 0} (here : Bool) (x : Option Man) (xs : List A) → (here ≡ true → is_officer_of p.side x ≡ true) →
        length (cond here xs [])
        ≡ length (cond (here && is_kind Knight x) xs []) + length (cond (here && is_kind Bishop x) xs []) + length (cond (here && is_kind Rook x) xs []) + length (cond (here && is_kind Queen x) xs [])
    one_of false x xs h = refl
    one_of true None xs h = (let no = h refl in cc)
    one_of true (Some m) xs h = of_kind m.kind (is_same_side m.side p.side) xs (h refl)

officer_of : (side : Side) (x : Option Man) → is_officer_of side x ≡ true → is_of side x ≡ true
officer_of side None h = cc
officer_of side (Some m) h = (and_parts (is_same_side m.side side) (is_officer m.kind) h).0

officer_no_pawn : (side : Side) (x : Option Man) → is_officer_of side x ≡ true → is_man side Pawn x ≡ true → ⊥
officer_no_pawn side None h k = cc
officer_no_pawn side (Some m) h k =
    both_ways (is_same_kind m.kind Pawn) (no_pawn m.kind (and_parts (is_same_side m.side side) (is_officer m.kind) h).1) (and_parts (is_same_side m.side side) (is_same_kind m.kind Pawn) k).1

-- the moves of a side are those of its free pawns, of its free officers and of its other men
pub counted_in_three : (p : Pos) (men free officers : ℕ) → free < 2 ^ 64 → officers < 2 ^ 64 → ((k : ℕ) → k < 64 → has men k ≡ is_of p.side (man_at p.board k)) →
    ((k : ℕ) → k < 64 → has free k ≡ true → is_man p.side Pawn (man_at p.board k) ≡ true) → ((k : ℕ) → k < 64 → has officers k ≡ is_free_officer p k) →
    length (moves_of p men) ≡ length (moves_of p free) + length (moves_of p officers) + length (moves_of p (bit_and men (18446744073709551615 - bit_or free officers)))
counted_in_three p men free officers hf ho own pawn officer =
    omega (
      arith,
      counted_apart p men free free rest (λ k h. of_men k h (has free k) refl) (λ k h. has_rest k h),
      counted_apart p rest officers officers (bit_and men (18446744073709551615 - bit_or free officers)) (λ k h. of_rest k h (has officers k) refl) others,
    )
  where
    rest : ℕ
    rest = bit_and men (18446744073709551615 - free)

    has_rest : (k : ℕ) → k < 64 → has rest k ≡ (has men k && not (has free k))
    has_rest k h = has_and men (18446744073709551615 - free) k ∙ ap (λ x. has men k && x) (has_not free k hf h)

    of_men : (k : ℕ) → k < 64 → (here : Bool) → has free k ≡ here → here ≡ (has men k && here)
    of_men k h true e = sym (ap (λ x. x && true) (own k h ∙ is_of_man p.side Pawn (man_at p.board k) (pawn k h e)))
    of_men k h false e = sym (and-false (has men k))

    stays : (k : ℕ) → k < 64 → is_officer_of p.side (man_at p.board k) ≡ true → has rest k ≡ true
    stays k h is =
        has_rest k h
        ∙ (λ i. (own k h ∙ officer_of p.side (man_at p.board k) is) i
        && not (false_from_ne_true (has free k) (λ e. officer_no_pawn p.side (man_at p.board k) is (pawn k h e)) i))

    of_rest : (k : ℕ) → k < 64 → (here : Bool) → has officers k ≡ here → here ≡ (has rest k && here)
    of_rest k h true e = sym (ap (λ x. x && true) (stays k h (and_parts (is_officer_of p.side (man_at p.board k)) _ (sym (officer k h) ∙ e)).0))
    of_rest k h false e = sym (and-false (has rest k))

    neither : (m f o : Bool) → (m && not (f || o)) ≡ ((m && not f) && not o)
    neither true true o = refl
    neither true false o = refl
    neither false f o = refl

    others : (k : ℕ) → k < 64 → has (bit_and men (18446744073709551615 - bit_or free officers)) k ≡ (has rest k && not (has officers k))
    others k h =
        has_and men (18446744073709551615 - bit_or free officers) k
        ∙ ap (λ x. has men k && x) (has_not (bit_or free officers) k (or_lt 64 free officers hf ho) h ∙ ap not (has_or free officers k))
        ∙ neither (has men k) (has free k) (has officers k)
        ∙ sym (ap (λ x. x && not (has officers k)) (has_rest k h))
