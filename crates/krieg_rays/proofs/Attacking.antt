-- The men that attack a square, from the sets of those that would attack it from there, and where a man attacks.
use Rattle.std.proofs.Common.{◌≡◌, ℕ, ◌<◌, ◌^◌, Bool, true, false, not, ◌&&◌, ◌||◌, ◌==◌, ◌⊎◌, inl, inr, refl, sym, ◌∙◌, ap, subst, arith, length, set, bit_and, bit_or, ◌≢◌, ◌≤◌}
use Rattle.std.proofs.lemmas.Bool.{both_ways, cases_eq, cases_lt, eq-eqb, ne_eqb, false_from_ne_true, not-true}
use Rattle.std.proofs.lemmas.List.{get_or-set_same, get_or-set_other, get_or_past}
use Rattle.std.proofs.Math.ListN.{length-set}
use Rattle.std.specs.Prelude.{Option, Some, None, is_some}
use Rattle.std.proofs.Math.Bool.{and-true, and-false, or-false, and_assoc, and-or_distrib_right}
use Rattle.krieg_rays.proofs.Common.{Side, White, Kind, Pawn, Knight, Bishop, Rook, Queen, King, Man, Sets, Board, man_at, is_of, is_kind, Show, attacks, man_attacks, can_reach, slides, is_clear, is_between, has, some_square, every_square, goes, is_open, reaches}
use Rattle.krieg_board.proofs.MenLemmas.{same_side_eq}
use Rattle.krieg_board.proofs.SetLemmas.{has_and, has_or}
use Rattle.krieg_board.proofs.OneKing.{set_empty}
use Rattle.krieg_board.proofs.SameTests.{every_square_same, same_tests}
use Rattle.krieg_board.proofs.SquareTests.{every_square_at, every_square_all, some_square_at, some_square_tells}
use Rattle.krieg_rays.specs.Snipers as near
use Rattle.krieg_rays.proofs.Sniping.{men_here, of_side}
use Rattle.krieg_rays.proofs.Spans.{is_between_turned}
use Rattle.krieg_rays.proofs.Symmetry.{knight_turned, king_turned, rook_turned, bishop_turned, pawn_turned}

-- the set is that of the squares on which a man stands
abbrev pub IsOccupied : ℕ → Board → Type 0
IsOccupied occupied b = (j : ℕ) → j < 64 → has occupied j ≡ is_some (man_at b j)

-- a man attacks, where a way is open or not
abbrev pub man_over : Bool → Option Man → ℕ → ℕ → Bool
man_over way None f t = false
man_over way (Some m) f t = not (f == t) && (can_reach m.kind m.side f t && (not (slides m.kind) || way))

-- what is open over the occupied squares of a board is clear on it
open_clear : (b : Board) (occupied s k : ℕ) → IsOccupied occupied b → is_open occupied s k ≡ is_clear b s k
unfolding is_open is_clear
open_clear b occupied s k e =
    every_square_same (λ j. not (is_between s k j && has occupied j)) (λ j. not (is_between s k j && is_some (man_at b j)))
    (λ j hj i. not (is_between s k j && e j hj i))

-- so a man attacks over them what he attacks on it
pub reaches_attacks : (b : Board) (occupied : ℕ) (x : Option Man) (f k : ℕ) → IsOccupied occupied b → reaches occupied x f k ≡ man_attacks b x f k
reaches_attacks b occupied None f k o = refl
reaches_attacks b occupied (Some m) f k o = ap (λ w. man_over w (Some m) f k) (open_clear b occupied f k o)

-- a way is open from both ends
open_turned : (occupied s k : ℕ) → s < 64 → k < 64 → is_open occupied s k ≡ is_open occupied k s
unfolding is_open
open_turned occupied s k hs hk =
    every_square_same (λ j. not (is_between s k j && has occupied j)) (λ j. not (is_between k s j && has occupied j))
    (λ j hj i. not (is_between_turned s k j hs hk hj i && has occupied j))

-- and so is a clear way
pub clear_turned : (b : Board) (s k : ℕ) → s < 64 → k < 64 → is_clear b s k ≡ is_clear b k s
unfolding is_clear
clear_turned b s k hs hk =
    every_square_same (λ j. not (is_between s k j && is_some (man_at b j))) (λ j. not (is_between k s j && is_some (man_at b j)))
    (λ j hj i. not (is_between_turned s k j hs hk hj i && is_some (man_at b j)))

-- a pawn, a knight or a king is found by kind
abbrev pub is_near : Bool → Bool → Bool → Option Man → Bool
is_near pawn knight king x = (pawn && is_kind Pawn x) || ((knight && is_kind Knight x) || (king && is_kind King x))

-- a man found by kind: the first five say whether a man of that kind would attack from there
abbrev pub is_found : Bool → Bool → Bool → Bool → Bool → Option Man → Bool
is_found pawn knight king straight diagonal x =
    is_near pawn knight king x
    || ((straight && (is_kind Rook x || is_kind Queen x)) || (diagonal && (is_kind Bishop x || is_kind Queen x)))

-- the same, of a man of that side on k that would attack s, where the way is open or not
abbrev pub is_found_at : Bool → Side → ℕ → ℕ → Option Man → Bool
is_found_at way by s k x =
    is_found (goes Pawn by k s) (goes Knight White k s) (goes King White k s) (goes Rook White k s && way) (goes Bishop White k s && way) x

two_ways : (a x y c : Bool) → (((a && x) && c) || ((a && y) && c)) ≡ (a && ((x || y) && c))
two_ways true true true true = refl
two_ways true true true false = refl
two_ways true true false true = refl
two_ways true true false false = refl
two_ways true false y c = refl
two_ways false x y c = refl

by_kind : (way : Bool) (by : Side) (s k : ℕ) (which : Kind) →
    is_found_at way by s k (Some (record { side = by; kind = which })) ≡ man_over way (Some (record { side = by; kind = which })) k s
unfolding goes
by_kind way by s k Pawn = simp (and-true, and-false, or-false)
by_kind way by s k Knight = simp (and-true, and-false, or-false)
by_kind way by s k Bishop = simp (and-true, and-false, or-false) (and_assoc (not (k == s)) (can_reach Bishop White k s) way)
by_kind way by s k Rook = simp (and-true, and-false, or-false) (and_assoc (not (k == s)) (can_reach Rook White k s) way)
by_kind way by s k Queen = simp (and-true, and-false) (two_ways (not (k == s)) (can_reach Rook White k s) (can_reach Bishop White k s) way)
by_kind way by s k King = simp (and-true, and-false, or-false)

-- those of a side's men that are found attack
found_here : (way : Bool) (by : Side) (s k : ℕ) (x : Option Man) (here : Bool) → (here ≡ true → is_of by x ≡ true) → (is_found_at way by s k x && here) ≡ (here && man_over way x k s)
found_here way by s k x false own = and-false (is_found_at way by s k x)
found_here way by s k x true own = and-true (is_found_at way by s k x) ∙ of_man x (own refl)
  where
    of_man : (x : Option Man) → is_of by x ≡ true → is_found_at way by s k x ≡ man_over way x k s
    of_man None e = cc
    of_man (Some m) e = subst (λ (x : Side). is_found_at way x s k (Some m) ≡ man_over way (Some m) k s) (same_side_eq m.side by e) (by_kind way m.side s k m.kind)

-- the men of a side that are found are those that attack
pub found_attacks : (b : Board) (by : Side) (s k : ℕ) (x : Option Man) → (is_found_at (is_clear b k s) by s k x && is_of by x) ≡ (is_of by x && man_attacks b x k s)
found_attacks b by s k None = and-false (is_found_at (is_clear b k s) by s k None)
found_attacks b by s k (Some m) = found_here (is_clear b k s) by s k (Some m) (is_of by (Some m)) (λ e. e)

-- who is found by kind alone, from both ends
pub near_turned : (b : Board) (by : Side) (s k : ℕ) → s < 64 → k < 64 → near.is_near b by s k ≡ is_near (goes Pawn by k s) (goes Knight White k s) (goes King White k s) (man_at b k)
near_turned b by s k hs hk =
    λ j. (pawn_turned by s k hs hk j && is_kind Pawn (man_at b k))
    || ((knight_turned s k hs hk j && is_kind Knight (man_at b k)) || (king_turned s k hs hk j && is_kind King (man_at b k)))

pub attackers_has : (b : Board) (by : Side) (s k : ℕ) → s < 64 → k < 64 → (sets : Sets) → Show sets b →
    (around straight diagonal men occupied : ℕ) →
    has around k ≡ near.is_near b by s k →
    has straight k ≡ ((goes Rook White s k && is_open occupied s k) && has (bit_and (bit_or sets.rooks sets.queens) men) k) →
    has diagonal k ≡ ((goes Bishop White s k && is_open occupied s k) && has (bit_and (bit_or sets.bishops sets.queens) men) k) →
    (has men k ≡ true → is_of by (man_at b k) ≡ true) →
    has (bit_or (bit_and around men) (bit_or straight diagonal)) k ≡ (has men k && reaches occupied (man_at b k) k s)
attackers_has b by s k hs hk sets show around straight diagonal men occupied hn hr hd own =
    has_or (bit_and around men) (bit_or straight diagonal) k
    ∙ (λ i. (has_and around men k ∙ ap (λ x. x && has men k) (hn ∙ near_turned b by s k hs hk)) i || (has_or straight diagonal k ∙ (λ j. (hr ∙ (λ n. (rook_turned s k hs hk n && open_turned occupied s k hs hk n) && men_here sets.rooks sets.queens men k (show.rooks k hk) (show.queens k hk) refl n)) j
    || (hd ∙ (λ n. (bishop_turned s k hs hk n && open_turned occupied s k hs hk n) && men_here sets.bishops sets.queens men k (show.bishops k hk) (show.queens k hk) refl n)) j)) i)
    ∙ apart (is_near (goes Pawn by k s) (goes Knight White k s) (goes King White k s) (man_at b k))
    (goes Rook White k s && is_open occupied k s) (is_kind Rook (man_at b k) || is_kind Queen (man_at b k))
    (goes Bishop White k s && is_open occupied k s) (is_kind Bishop (man_at b k) || is_kind Queen (man_at b k)) (has men k)
    ∙ found_here (is_open occupied k s) by s k (man_at b k) (has men k) own
    ∙ over (man_at b k)
  where
    apart : (n r x d y o : Bool) → ((n && o) || ((r && (x && o)) || (d && (y && o)))) ≡ ((n || ((r && x) || (d && y))) && o)
    apart n r x d y o = ap (λ z. (n && o) || z) (of_side r x d y o) ∙ sym (and-or_distrib_right n ((r && x) || (d && y)) o)

    over : (x : Option Man) → (has men k && man_over (is_open occupied k s) x k s) ≡ (has men k && reaches occupied x k s)
    over None = refl
    over (Some m) = refl

-- a way is clear where no occupied square is between its ends
pub clear_set : (b : Board) (f t n : ℕ) → n < 2 ^ 64 → ((s : ℕ) → s < 64 → has n s ≡ (is_between f t s && is_some (man_at b s))) → (n == 0) ≡ is_clear b f t
unfolding is_clear
clear_set b f t n small e =
    turned (n == 0) (some_square there) (set_empty n there small e)
    ∙ same_tests (not (some_square there)) (every_square (λ s. not (there s)))
    (λ h. every_square_all (λ s. not (there s)) (λ s l. ap not (false_from_ne_true (there s) (λ k. both_ways (some_square there) (not-true (some_square there) h) (some_square_at there s l k)))))
    (λ h. ap not (false_from_ne_true (some_square there) (λ k. let (s, l, is) = some_square_tells there k in both_ways (there s) (not-true (there s) (every_square_at (λ s. not (there s)) h s l)) is)))
  where
    there : ℕ → Bool
    there s = is_between f t s && is_some (man_at b s)

    turned : (x y : Bool) → y ≡ not x → x ≡ not y
    turned true y e = sym (ap not e)
    turned false y e = sym (ap not e)

-- the men of a side on a board over whose occupied squares they attack
pub attack_there : (b c : Board) (by : Side) (men occupied k s : ℕ) → IsOccupied occupied c → has men k ≡ is_of by (man_at c k) →
    (is_of by (man_at c k) ≡ true → man_at b k ≡ man_at c k) → (has men k && reaches occupied (man_at b k) k s) ≡ (is_of by (man_at c k) && attacks c k s)
unfolding attacks
attack_there b c by men occupied k s o e same = ap (λ t. t && reaches occupied (man_at b k) k s) e ∙ under (is_of by (man_at c k)) same
  where
    under : (t : Bool) → (t ≡ true → man_at b k ≡ man_at c k) → (t && reaches occupied (man_at b k) k s) ≡ (t && man_attacks c (man_at c k) k s)
    under true same = ap (λ x. reaches occupied x k s) (same refl) ∙ reaches_attacks c occupied (man_at c k) k s o
    under false same = refl

-- nobody stands on a square that was emptied
pub emptied : (b : Board) (s : ℕ) → man_at (set b s None) s ≡ None
emptied b s = by_size (cases_lt s (length b))
  where
    by_size : (s < length b) ⊎ (length b ≤ s) → man_at (set b s None) s ≡ None
    by_size (inl l) = get_or-set_same b s None None l
    by_size (inr past) = get_or_past (set b s None) s None (omega (arith, length-set b s None))

-- what passes a test on the board where one square is empty
pub left_out : (q : Option Man → Bool) → q None ≡ false → (b : Board) (n m s : ℕ) → ((k : ℕ) → k < 64 → has n k ≡ q (man_at b k)) →
    ((k : ℕ) → k < 64 → has m k ≡ (has n k && not (k == s))) → (k : ℕ) → k < 64 → has m k ≡ q (man_at (set b s None) k)
left_out q none b n m s was is k hk = is k hk ∙ ap (λ t. t && not (k == s)) (was k hk) ∙ by_place (cases_eq k s)
  where
    by_place : (k ≡ s) ⊎ (k ≢ s) → (q (man_at b k) && not (k == s)) ≡ q (man_at (set b s None) k)
    by_place (inl e) =
        ap (λ t. q (man_at b k) && not t) (eq-eqb k s e) ∙ and-false (q (man_at b k))
        ∙ sym (ap (λ j. q (man_at (set b s None) j)) e ∙ ap q (emptied b s) ∙ none)
    by_place (inr d) =
        ap (λ t. q (man_at b k) && not t) (ne_eqb k s d) ∙ and-true (q (man_at b k))
        ∙ sym (ap q (get_or-set_other b s k None None d))

-- a man of a side on the board where one square is empty stands there before it is
pub stood : (by : Side) (b : Board) (s k : ℕ) → is_of by (man_at (set b s None) k) ≡ true → man_at b k ≡ man_at (set b s None) k
stood by b s k here = by_place (cases_eq k s)
  where
    by_place : (k ≡ s) ⊎ (k ≢ s) → man_at b k ≡ man_at (set b s None) k
    by_place (inl e) =
        absurd (both_ways (is_of by (man_at (set b s None) k)) (ap (λ j. is_of by (man_at (set b s None) j)) e ∙ ap (is_of by) (emptied b s)) here)
    by_place (inr d) = sym (get_or-set_other b s k None None d)

of_kind : (way : Bool) (man : Man) (f k : ℕ) (which : Kind) → man.kind ≡ which → man_over way (Some (record { side = man.side; kind = which })) f k ≡ man_over way (Some man) f k
of_kind way man f k which e = λ i. man_over way (Some (record { side = man.side; kind = sym e i })) f k

pub pawn_over : (way : Bool) (man : Man) (f k : ℕ) → man.kind ≡ Pawn → goes Pawn man.side f k ≡ man_over way (Some man) f k
unfolding goes
pawn_over way man f k e = sym (ap (λ x. not (f == k) && x) (and-true (can_reach Pawn man.side f k))) ∙ of_kind way man f k Pawn e

pub knight_over : (way : Bool) (man : Man) (f k : ℕ) → man.kind ≡ Knight → goes Knight White f k ≡ man_over way (Some man) f k
unfolding goes
knight_over way man f k e = sym (ap (λ x. not (f == k) && x) (and-true (can_reach Knight man.side f k))) ∙ of_kind way man f k Knight e

pub king_over : (way : Bool) (man : Man) (f k : ℕ) → man.kind ≡ King → goes King White f k ≡ man_over way (Some man) f k
unfolding goes
king_over way man f k e = sym (ap (λ x. not (f == k) && x) (and-true (can_reach King man.side f k))) ∙ of_kind way man f k King e

pub pawn_from : (b : Board) (man : Man) (f k : ℕ) → man.kind ≡ Pawn → goes Pawn man.side f k ≡ man_attacks b (Some man) f k
pawn_from b man f k e = pawn_over (is_clear b f k) man f k e

pub king_from : (b : Board) (man : Man) (f k : ℕ) → man.kind ≡ King → goes King White f k ≡ man_attacks b (Some man) f k
king_from b man f k e = king_over (is_clear b f k) man f k e

pub rook_over : (way : Bool) (man : Man) (f k : ℕ) → man.kind ≡ Rook → (goes Rook White f k && way) ≡ man_over way (Some man) f k
unfolding goes
rook_over way man f k e = and_assoc (not (f == k)) (can_reach Rook White f k) way ∙ of_kind way man f k Rook e

pub bishop_over : (way : Bool) (man : Man) (f k : ℕ) → man.kind ≡ Bishop → (goes Bishop White f k && way) ≡ man_over way (Some man) f k
unfolding goes
bishop_over way man f k e = and_assoc (not (f == k)) (can_reach Bishop White f k) way ∙ of_kind way man f k Bishop e

pub queen_over : (way : Bool) (man : Man) (f k straight diagonal : ℕ) → man.kind ≡ Queen → has straight k ≡ (goes Rook White f k && way) → has diagonal k ≡ (goes Bishop White f k && way) →
    has (bit_or straight diagonal) k ≡ man_over way (Some man) f k
unfolding goes
queen_over way man f k straight diagonal e hr hd =
    has_or straight diagonal k ∙ (λ i. hr i || hd i) ∙ two_ways (not (f == k)) (can_reach Rook White f k) (can_reach Bishop White f k) way ∙ of_kind way man f k Queen e
