-- A man is pinned where he alone, of his side, stands between his king and an enemy man that would attack the king along that line.
use Rattle.std.proofs.Common.{◌≡◌, ℕ, ◌<◌, Bool, true, false, not, ◌&&◌, ◌||◌, ◌==◌, ◌⊎◌, inl, inr, refl, sym, ◌∙◌, ap, set, ◌≢◌}
use Rattle.std.specs.Prelude.{Option, Some, None, is_some}
use Rattle.std.proofs.lemmas.Bool.{both_ways, cases_eq, eq-eqb, ne_eqb, not-true}
use Rattle.std.proofs.lemmas.List.{get_or-set_other}
use Rattle.std.proofs.Math.Bool.{and-true, and-false, or-false, and-or_distrib_right}
use Rattle.krieg_rays.proofs.Common.{Side, White, Black, Pawn, Knight, Bishop, Rook, Queen, King, Man, other, squares, every_square, some_square, Board, man_at, is_of, is_man, is_kind, attacks, man_attacks, is_between, is_clear, has, count_kind, goes, is_pinned, is_pinned_by, is_near, is_sniper, is_only}
use Rattle.krieg_board.proofs.SquareTests.{every_square_at, some_square_none}
use Rattle.krieg_board.proofs.SameTests.{every_square_same, some_square_same}
use Rattle.krieg_rays.proofs.Kings.{king_search}
use Rattle.krieg_rays.proofs.Spans.{is_between_turned}
use Rattle.krieg_rays.proofs.Symmetry.{rook_turned, bishop_turned}
use Rattle.krieg_rays.proofs.Attacking.{emptied, found_attacks, near_turned, clear_turned}

-- what is asked of no square in particular may be asked before the search
some_square_and : (u : Bool) (p : ℕ → Bool) → some_square (λ f. u && p f) ≡ (u && some_square p)
some_square_and true p = some_square_same (λ f. true && p f) p (λ k h. refl)
some_square_and false p = some_square_none (λ f. false && p f) (λ k h. refl)

-- with one king of the side, on k, a man is pinned to him
pub pinned_to : (b : Board) (who : Side) (k s : ℕ) → count_kind b who King ≡ 1 → k < 64 → is_man who King (man_at b k) ≡ true →
    is_pinned b who s ≡ (is_of who (man_at b s) && some_square (λ f. is_pinned_by b (other who) f k s))
unfolding is_pinned
pinned_to b who k s one hk is = ap (λ x. is_of who (man_at b s) && x) (king_search b who k one hk is (λ k. some_square (λ f. is_pinned_by b (other who) f k s)))

-- nothing lies between a square and those that a pawn, a knight or a king attacks from there
unfoldable are_next : (ℕ → ℕ → Bool) → Bool
are_next near = every_square (λ f. every_square (λ k. not (near f k) || every_square (λ s. not (is_between f k s))))

white_pawns : are_next (goes Pawn White) ≡ true
unfolding are_next every_square squares goes is_between
white_pawns = refl

black_pawns : are_next (goes Pawn Black) ≡ true
unfolding are_next every_square squares goes is_between
black_pawns = refl

knights : are_next (goes Knight White) ≡ true
unfolding are_next every_square squares goes is_between
knights = refl

kings : are_next (goes King White) ≡ true
unfolding are_next every_square squares goes is_between
kings = refl

not_near : (near : ℕ → ℕ → Bool) → are_next near ≡ true → (f k s : ℕ) → f < 64 → k < 64 → s < 64 → is_between f k s ≡ true → near f k ≡ false
unfolding are_next
not_near near h f k s hf hk hs between =
    by_test (near f k) (every_square (λ s. not (is_between f k s))) (every_square_at (λ k. not (near f k) || every_square (λ s. not (is_between f k s)))
    (every_square_at (λ f. every_square (λ k. not (near f k) || every_square (λ s. not (is_between f k s)))) h f hf) k hk)
    (λ e. both_ways (is_between f k s) (not-true (is_between f k s) (every_square_at (λ s. not (is_between f k s)) e s hs)) between)
  where
    by_test : (a c : Bool) → (not a || c) ≡ true → (c ≡ true → ⊥) → a ≡ false
    by_test true c e none = absurd (none e)
    by_test false c e none = refl

not_near_pawn : (by : Side) (f k s : ℕ) → f < 64 → k < 64 → s < 64 → is_between f k s ≡ true → goes Pawn by f k ≡ false
not_near_pawn White = not_near (goes Pawn White) white_pawns
not_near_pawn Black = not_near (goes Pawn Black) black_pawns

own_end : every_square (λ f. every_square (λ k. not (is_between f k f))) ≡ true
unfolding every_square squares is_between
own_end = refl

-- a square between two is neither of them
apart : (f k s : ℕ) → f < 64 → k < 64 → is_between f k s ≡ true → f ≢ s
apart f k s hf hk between e =
    both_ways (is_between f k s)
    (ap (is_between f k) (sym e) ∙ not-true (is_between f k f) (every_square_at (λ k. not (is_between f k f)) (every_square_at (λ f. every_square (λ k. not (is_between f k f))) own_end f hf) k hk))
    between

-- of the men between the two, only he on s
abbrev pub is_alone : Board → ℕ → ℕ → ℕ → Bool
is_alone b k f s = every_square (λ j. not ((is_between k f j && is_some (man_at b j)) && not (j == s)))

-- a man of that side stands on s, and he alone stands between the two
abbrev pub shields : Board → Side → ℕ → ℕ → ℕ → Bool
shields b who k s f = (is_between k f s && is_of who (man_at b s)) && is_alone b k f s

-- without the man on s the way is clear, where nobody else stands between
clear_without : (b : Board) (k f s : ℕ) → f < 64 → k < 64 → is_clear (set b s None) f k ≡ is_alone b k f s
unfolding is_clear
clear_without b k f s hf hk =
    sym (every_square_same (λ j. not ((is_between k f j && is_some (man_at b j)) && not (j == s))) (λ j. not (is_between f k j && is_some (man_at (set b s None) j))) (λ j hj.
    ap (λ t. not ((t && is_some (man_at b j)) && not (j == s))) (is_between_turned k f j hk hf hj) ∙ ap not (each j (cases_eq j s))))
  where
    each : (j : ℕ) → (j ≡ s) ⊎ (j ≢ s) → ((is_between f k j && is_some (man_at b j)) && not (j == s)) ≡ (is_between f k j && is_some (man_at (set b s None) j))
    each j (inl e) =
        ap (λ t. (is_between f k j && is_some (man_at b j)) && not t) (eq-eqb j s e) ∙ and-false (is_between f k j && is_some (man_at b j))
        ∙ sym (ap (λ x. is_between f k j && is_some x) (ap (man_at (set b s None)) e ∙ emptied b s) ∙ and-false (is_between f k j))
    each j (inr p) =
        ap (λ t. (is_between f k j && is_some (man_at b j)) && not t) (ne_eqb j s p) ∙ and-true (is_between f k j && is_some (man_at b j))
        ∙ sym (ap (λ x. is_between f k j && is_some x) (get_or-set_other b s j None None p))

-- an enemy man would attack the king without the man on s, where he is a sniper and that man stands alone
sniper_attacks : (b : Board) (who : Side) (k f s : ℕ) → f < 64 → k < 64 → s < 64 → is_between f k s ≡ true →
    (is_sniper b (other who) k f && is_alone b k f s) ≡ (is_of (other who) (man_at b f) && attacks (set b s None) f k)
unfolding is_sniper attacks
sniper_attacks b who k f s hf hk hs between =
    gathered (goes Rook White k f) (goes Bishop White k f) (is_kind Rook x || is_kind Queen x) (is_kind Bishop x || is_kind Queen x) (is_of (other who) x) (is_alone b k f s)
    ∙ (λ i. ((((pawn i && is_kind Pawn x) || ((knight i && is_kind Knight x) || (king i && is_kind King x)))
    || (((rook_turned k f hk hf i && way i) && (is_kind Rook x || is_kind Queen x)) || ((bishop_turned k f hk hf i && way i) && (is_kind Bishop x || is_kind Queen x)))) && is_of (other who) x))
    ∙ found_attacks (set b s None) (other who) k f x
    ∙ ap (λ y. is_of (other who) x && man_attacks (set b s None) y f k) (sym (get_or-set_other b s f None None (apart f k s hf hk between)))
  where
    x : Option Man
    x = man_at b f

    pawn : false ≡ goes Pawn (other who) f k
    pawn = sym (not_near_pawn (other who) f k s hf hk hs between)

    knight : false ≡ goes Knight White f k
    knight = sym (not_near (goes Knight White) knights f k s hf hk hs between)

    king : false ≡ goes King White f k
    king = sym (not_near (goes King White) kings f k s hf hk hs between)

    way : is_alone b k f s ≡ is_clear (set b s None) f k
    way = sym (clear_without b k f s hf hk)

    gathered : (r d p q e a : Bool) → ((((r && p) || (d && q)) && e) && a) ≡ ((((r && a) && p) || ((d && a) && q)) && e)
    gathered r d p q e true = simp and-true
    gathered r d p q e false = simp and-false

-- a man is pinned by the snipers before whom he stands alone
pub sniper_pins : (b : Board) (who : Side) (k f s : ℕ) → f < 64 → k < 64 → s < 64 →
    (is_sniper b (other who) k f && shields b who k s f) ≡ (is_of who (man_at b s) && is_pinned_by b (other who) f k s)
sniper_pins b who k f s hf hk hs =
    ap (λ t. is_sniper b (other who) k f && ((t && is_of who (man_at b s)) && is_alone b k f s)) (is_between_turned k f s hk hf hs)
    ∙ joined (is_between f k s) (is_of who (man_at b s)) (is_sniper b (other who) k f) (is_alone b k f s) (is_of (other who) (man_at b f)) (attacks (set b s None) f k)
    (λ t u. sniper_attacks b who k f s hf hk hs t)
  where
    joined : (t u x a e y : Bool) → (t ≡ true → u ≡ true → (x && a) ≡ (e && y)) → (x && ((t && u) && a)) ≡ (u && (e && (t && y)))
    joined true true x a e y same = same refl refl
    joined true false x a e y same = and-false x
    joined false true x a e y same = and-false x ∙ sym (and-false e)
    joined false false x a e y same = and-false x

-- the men who stand alone before some sniper are those who are pinned
pub some_sniper_pins : (b : Board) (who : Side) (k s n : ℕ) → count_kind b who King ≡ 1 → k < 64 → s < 64 → is_man who King (man_at b k) ≡ true →
    ((f : ℕ) → f < 64 → has n f ≡ is_sniper b (other who) k f) → some_square (λ f. has n f && shields b who k s f) ≡ is_pinned b who s
some_sniper_pins b who k s n one hk hs is e =
    some_square_same (λ f. has n f && shields b who k s f) (λ f. is_of who (man_at b s) && is_pinned_by b (other who) f k s)
    (λ f hf. ap (λ x. x && shields b who k s f) (e f hf) ∙ sniper_pins b who k f s hf hk hs)
    ∙ some_square_and (is_of who (man_at b s)) (λ f. is_pinned_by b (other who) f k s)
    ∙ sym (pinned_to b who k s one hk is)

-- the one man between the two, if of the king's side, shields the king
pub only_shields : (b : Board) (who : Side) (k f s n own : ℕ) → s < 64 → ((j : ℕ) → j < 64 → has n j ≡ (is_between k f j && is_some (man_at b j))) →
    has own s ≡ is_of who (man_at b s) → (is_only n s && has own s) ≡ shields b who k s f
unfolding is_only
only_shields b who k f s n own hs e eo =
    (λ i. (e s hs i && every_square_same (λ j. not (has n j && not (j == s))) (λ j. not ((is_between k f j && is_some (man_at b j)) && not (j == s))) (λ j hj n. not (e j hj n && not (j == s))) i) && eo i)
    ∙ gathered (is_between k f s) (is_some (man_at b s)) (is_alone b k f s) (is_of who (man_at b s)) (some_there (man_at b s))
  where
    some_there : (x : Option Man) → is_of who x ≡ true → is_some x ≡ true
    some_there None h = cc
    some_there (Some m) h = refl

    gathered : (t x a o : Bool) → (o ≡ true → x ≡ true) → (((t && x) && a) && o) ≡ ((t && o) && a)
    gathered t x a false h = and-false ((t && x) && a) ∙ sym (ap (λ y. y && a) (and-false t))
    gathered t x a true h = and-true ((t && x) && a) ∙ ap (λ y. (t && y) && a) (h refl)

-- a king is attacked by those near him, and by the snipers before whom nobody stands
pub lines_attack : (b : Board) (by : Side) (k f : ℕ) → f < 64 → k < 64 →
    ((is_near b by k f && is_of by (man_at b f)) || (is_sniper b by k f && is_clear b k f)) ≡ (is_of by (man_at b f) && attacks b f k)
unfolding is_sniper attacks
lines_attack b by k f hf hk =
    (λ i. (near_turned b by k f hk hf i && is_of by x) || (((((rook_turned k f hk hf i && (is_kind Rook x || is_kind Queen x)) || (bishop_turned k f hk hf i && (is_kind Bishop x || is_kind Queen x))) && is_of by x)) && clear_turned b k f hk hf i))
    ∙ gathered _ (goes Rook White f k) (goes Bishop White f k) (is_kind Rook x || is_kind Queen x) (is_kind Bishop x || is_kind Queen x) (is_of by x) (is_clear b f k)
    ∙ found_attacks b by k f x
  where
    x : Option Man
    x = man_at b f

    gathered : (n r d p q e a : Bool) → ((n && e) || ((((r && p) || (d && q)) && e) && a)) ≡ ((n || (((r && a) && p) || ((d && a) && q))) && e)
    gathered n r d p q e true = simp and-true (sym (and-or_distrib_right n ((r && p) || (d && q)) e))
    gathered n r d p q e false = simp (and-false, or-false)
