-- What a man attacks once another has come to stand on a square.
use Rattle.std.proofs.Common.{◌≡◌, ℕ, ◌<◌, Bool, true, false, not, ◌&&◌, ◌||◌, ◌==◌, ◌⊎◌, inl, inr, refl, sym, ◌∙◌, ap, ◌≢◌}
use Rattle.std.specs.Prelude.{Option, Some, None, is_some}
use Rattle.std.proofs.lemmas.Bool.{and_parts, and_from, cases_eq, not-true}
use Rattle.krieg_moves.proofs.Common.{Side, White, Black, Kind, Pawn, King, Man, squares, every_square, Board, man_at, attacks, man_attacks, can_reach, slides, is_clear, is_between}
use Rattle.krieg_board.specs.declared.men.Kind.TheVariants.{Knight, Bishop, Rook, Queen}
use Rattle.krieg_board.proofs.SameTests.{same_tests}
use Rattle.krieg_board.proofs.SquareTests.{every_square_all, every_square_at}

-- nothing lies between a man of that kind and what he attacks
unfoldable nothing_between : Kind → Side → Bool
nothing_between which side =
    every_square (λ s. every_square (λ k. not (not (s == k) && can_reach which side s k) || every_square (λ j. not (is_between s k j))))

white_pawns : nothing_between Pawn White ≡ true
unfolding nothing_between every_square squares is_between
white_pawns = refl

black_pawns : nothing_between Pawn Black ≡ true
unfolding nothing_between every_square squares is_between
black_pawns = refl

knights : nothing_between Knight White ≡ true
unfolding nothing_between every_square squares is_between
knights = refl

kings : nothing_between King White ≡ true
unfolding nothing_between every_square squares is_between
kings = refl

second : (a b : Bool) → a ≡ true → (not a || b) ≡ true → b ≡ true
second true b e h = h
second false b e h = cc

by_table : (which : Kind) (side : Side) (s k j : ℕ) → nothing_between which side ≡ true → s < 64 → k < 64 → j < 64 →
    (not (s == k) && can_reach which side s k) ≡ true → is_between s k j ≡ false
unfolding nothing_between
by_table which side s k j h hs hk hj e =
    not-true (is_between s k j)
    (every_square_at (λ j. not (is_between s k j))
    (second (not (s == k) && can_reach which side s k) (every_square (λ j. not (is_between s k j))) e
    (every_square_at (λ k. not (not (s == k) && can_reach which side s k) || every_square (λ j. not (is_between s k j)))
    (every_square_at (λ s. every_square (λ k. not (not (s == k) && can_reach which side s k) || every_square (λ j. not (is_between s k j)))) h s hs) k hk)) j hj)

-- nothing lies between a man who does not slide and what he attacks
leaps : (which : Kind) (side : Side) (s k j : ℕ) → s < 64 → k < 64 → j < 64 → slides which ≡ false → (not (s == k) && can_reach which side s k) ≡ true → is_between s k j ≡ false
leaps Pawn White s k j hs hk hj leap e = by_table Pawn White s k j white_pawns hs hk hj e
leaps Pawn Black s k j hs hk hj leap e = by_table Pawn Black s k j black_pawns hs hk hj e
leaps Knight side s k j hs hk hj leap e = by_table Knight White s k j knights hs hk hj e
leaps King side s k j hs hk hj leap e = by_table King White s k j kings hs hk hj e
leaps Bishop side s k j hs hk hj leap e = cc
leaps Rook side s k j hs hk hj leap e = cc
leaps Queen side s k j hs hk hj leap e = cc

-- the boards differ on t alone, where a man stands on the second
pub record Puts (c d : Board) (t : ℕ) : Type 0 where
  pub inside : t < 64
  pub there : is_some (man_at d t) ≡ true
  pub others : (j : ℕ) → j < 64 → j ≢ t → man_at d j ≡ man_at c j

-- a way is clear with him where it is clear without him and he does not stand on it
clear_with : (c d : Board) (t s k : ℕ) → Puts c d t → is_clear d s k ≡ (is_clear c s k && not (is_between s k t))
unfolding is_clear
clear_with c d t s k p =
    same_tests (every_square open_d) (every_square open_c && not (is_between s k t))
    (λ h.
    let off : not (is_between s k t) ≡ true = by_man (is_between s k t) (is_some (man_at d t)) p.there (every_square_at open_d h t p.inside) in
    and_from (every_square open_c) (not (is_between s k t))
    (every_square_all open_c (λ j l. at_c j l off (every_square_at open_d h j l) (cases_eq j t))) off)
    (λ h.
    let r = and_parts (every_square open_c) (not (is_between s k t)) h in
    every_square_all open_d (λ j l. at_d j l r.1 (every_square_at open_c r.0 j l) (cases_eq j t)))
  where
    open_c : ℕ → Bool
    open_c j = not (is_between s k j && is_some (man_at c j))

    open_d : ℕ → Bool
    open_d j = not (is_between s k j && is_some (man_at d j))

    by_man : (b m : Bool) → m ≡ true → not (b && m) ≡ true → not b ≡ true
    by_man true true e h = h
    by_man true false e h = cc
    by_man false m e h = refl

    nobody : (b m : Bool) → not b ≡ true → not (b && m) ≡ true
    nobody true m h = cc
    nobody false m h = refl

    at_c : (j : ℕ) → j < 64 → not (is_between s k t) ≡ true → open_d j ≡ true → (j ≡ t) ⊎ (j ≢ t) → open_c j ≡ true
    at_c j l off h (inl e) = nobody (is_between s k j) (is_some (man_at c j)) (ap (λ x. not (is_between s k x)) e ∙ off)
    at_c j l off h (inr n) = ap (λ x. not (is_between s k j && is_some x)) (sym (p.others j l n)) ∙ h

    at_d : (j : ℕ) → j < 64 → not (is_between s k t) ≡ true → open_c j ≡ true → (j ≡ t) ⊎ (j ≢ t) → open_d j ≡ true
    at_d j l off h (inl e) = nobody (is_between s k j) (is_some (man_at d j)) (ap (λ x. not (is_between s k x)) e ∙ off)
    at_d j l off h (inr n) = ap (λ x. not (is_between s k j && is_some x)) (p.others j l n) ∙ h

-- a man attacks a square with him where he attacks it without him and the other does not stand between
pub attacks_with : (c d : Board) (t : ℕ) (x : Option Man) (s k : ℕ) → Puts c d t → s < 64 → k < 64 →
    man_attacks d x s k ≡ (man_attacks c x s k && not (is_between s k t))
attacks_with c d t None s k p hs hk = refl
attacks_with c d t (Some m) s k p hs hk =
    joined (not (s == k)) (can_reach m.kind m.side s k) (slides m.kind) (is_clear d s k) (is_clear c s k) (is_between s k t)
    (clear_with c d t s k p) (λ leap e. leaps m.kind m.side s k t hs hk p.inside leap e)
  where
    joined : (n r sl cd cc' b : Bool) → cd ≡ (cc' && not b) → (sl ≡ false → (n && r) ≡ true → b ≡ false) →
        (n && (r && (not sl || cd))) ≡ ((n && (r && (not sl || cc'))) && not b)
    joined false r sl cd c b e f = refl
    joined true false sl cd c b e f = refl
    joined true true true cd c b e f = e
    joined true true false cd c b e f = sym (ap not (f refl refl))

pub attacks_at_with : (c d : Board) (t s k : ℕ) → Puts c d t → s < 64 → k < 64 → s ≢ t → attacks d s k ≡ (attacks c s k && not (is_between s k t))
unfolding attacks
attacks_at_with c d t s k p hs hk n = ap (λ x. man_attacks d x s k) (p.others s hs n) ∙ attacks_with c d t (man_at c s) s k p hs hk

ends : every_square (λ s. every_square (λ k. not (is_between s k k))) ≡ true
unfolding every_square squares is_between
ends = refl

-- no square is between a square and itself
pub not_between_end : (s k : ℕ) → s < 64 → k < 64 → is_between s k k ≡ false
not_between_end s k hs hk =
    not-true (is_between s k k) (every_square_at (λ k. not (is_between s k k)) (every_square_at (λ s. every_square (λ k. not (is_between s k k))) ends s hs) k hk)
