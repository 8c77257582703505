-- The loops over the squares end with the whole list, and what they skip is not legal.
use Rattle.std.proofs.Common.{◌≡◌, ℕ, zero, suc, ◌+◌, ◌<◌, Bool, true, false, not, ◌||◌, ◌==◌, cond, length, List, [], ◌∷◌, ◌++◌, ap, sym, ◌∙◌, refl, inl, inr, arith, add-one}
use Rattle.std.proofs.lemmas.Bool.{cond-false, false_from_ne_true, ne_eqb, not-true, or_right}
use Rattle.std.proofs.Math.Bool.{or-false}
use Rattle.std.specs.Prelude.{◌⊎◌}
use Rattle.std.specs.List.{list_any, filter, All}
use Rattle.std.proofs.lemmas.List.Elements.{filter_passes, filter-append}
use Rattle.std.proofs.lemmas.List.Folds.{list_any-append}
use Rattle.krieg_moves.proofs.Common.{Promo, Move, Pos, man_at, is_of, is_legal, is_plain, gathered, promotes, plain_move, promotions, moves_between, moves_from, all_moves, is_nil, moves}
use Rattle.krieg_board.specs.declared.men.Promo.TheVariants as promo
use Rattle.krieg_moves.proofs.LegalMoves.{legal_own, legal_promotion}

pub gathered_moves_from : (f n : ℕ) → n ≡ 64 → gathered (moves_between f) n ≡ moves_from f
unfolding moves_from
gathered_moves_from f n e = ap (gathered (moves_between f)) e

pub gathered_all_moves : (n : ℕ) → n ≡ 64 → gathered moves_from n ≡ all_moves
unfolding all_moves
gathered_all_moves n e = ap (gathered moves_from) e

-- a promotion is not legal where no pawn reaches the last rank, and the plain move is not where one does
pub wrong_promo : (p : Pos) (m : Move) (plain last : Bool) → is_plain m.promo ≡ plain → promotes p m.from m.to ≡ last → plain ≡ last → is_legal p m ≡ false
wrong_promo p m plain last e l same = false_from_ne_true (is_legal p m) (λ h. clash plain last same (sym e ∙ (legal_promotion p m h ∙ ap not l)))
  where
    clash : (a b : Bool) → a ≡ b → a ≡ not b → ⊥
    clash true true e h = cc
    clash false false e h = cc
    clash true false e h = cc
    clash false true e h = cc

filter_first_not : (test : Move → Bool) (x : Move) (xs : List Move) → test x ≡ false → filter test (x ∷ xs) ≡ filter test xs
filter_first_not test x xs h = cond-false (test x) (x ∷ filter test xs) (filter test xs) h

any_first_not : (test : Move → Bool) (x : Move) (xs : List Move) → test x ≡ false → list_any test (x ∷ xs) ≡ list_any test xs
any_first_not test x xs h = ap (λ t. t || list_any test xs) h

pub filter_promotions : (p : Pos) (f t : ℕ) → promotes p f t ≡ true → filter (is_legal p) (moves_between f t) ≡ filter (is_legal p) (promotions f t)
filter_promotions p f t h = filter_first_not (is_legal p) (plain_move f t) (promotions f t) (wrong_promo p (plain_move f t) true true refl h refl)

pub any_promotions : (p : Pos) (f t : ℕ) → promotes p f t ≡ true → list_any (is_legal p) (moves_between f t) ≡ list_any (is_legal p) (promotions f t)
any_promotions p f t h = any_first_not (is_legal p) (plain_move f t) (promotions f t) (wrong_promo p (plain_move f t) true true refl h refl)

pub no_promotion : (p : Pos) (f t : ℕ) (r : Promo) → promotes p f t ≡ false → is_plain r ≡ false → is_legal p (record { from = f; to = t; promo = r }) ≡ false
no_promotion p f t r h e = wrong_promo p (record { from = f; to = t; promo = r }) false false e h refl

none_of_promotions : (p : Pos) (f t : ℕ) → promotes p f t ≡ false → filter (is_legal p) (promotions f t) ≡ []
none_of_promotions p f t h =
    rw (no_promotion p f t promo.Queen h refl, no_promotion p f t promo.Rook h refl, no_promotion p f t promo.Bishop h refl, no_promotion p f t promo.Knight h refl)

any_of_promotions : (p : Pos) (f t : ℕ) → promotes p f t ≡ false → list_any (is_legal p) (promotions f t) ≡ false
any_of_promotions p f t h =
    rw (no_promotion p f t promo.Queen h refl, no_promotion p f t promo.Rook h refl, no_promotion p f t promo.Bishop h refl, no_promotion p f t promo.Knight h refl)

pub filter_plain : (p : Pos) (f t : ℕ) → promotes p f t ≡ false → filter (is_legal p) (moves_between f t) ≡ filter (is_legal p) (plain_move f t ∷ [])
filter_plain p f t h = ap (λ xs. cond (is_legal p (plain_move f t)) (plain_move f t ∷ xs) xs) (none_of_promotions p f t h)

pub any_plain : (p : Pos) (f t : ℕ) → promotes p f t ≡ false → list_any (is_legal p) (moves_between f t) ≡ is_legal p (plain_move f t)
any_plain p f t h = ap (λ x. is_legal p (plain_move f t) || x) (any_of_promotions p f t h) ∙ or-false (is_legal p (plain_move f t))

pub ruleset between = (filter_promotions, any_promotions, filter_plain, any_plain)

pub is_nil_filter : (test : Move → Bool) (xs : List Move) → is_nil (filter test xs) ≡ not (list_any test xs)
is_nil_filter test [] = refl
is_nil_filter test (x ∷ xs) = by (test x) (is_nil_filter test xs)
  where
    by : (t : Bool) → is_nil (filter test xs) ≡ not (list_any test xs) → is_nil (cond t (x ∷ filter test xs) (filter test xs)) ≡ not (t || list_any test xs)
    by true rest = refl
    by false rest = rest

-- nothing is legal from a square without a man of the side to move
not_own : (p : Pos) (m : Move) → is_of p.side (man_at p.board m.from) ≡ false → is_legal p m ≡ false
not_own p m h = false_from_ne_true (is_legal p m) (λ k. (let yes = legal_own p m k in cc))

filter_between_none : (p : Pos) (f t : ℕ) → is_of p.side (man_at p.board f) ≡ false → filter (is_legal p) (moves_between f t) ≡ []
filter_between_none p f t h =
    rw (
      not_own p (plain_move f t) h,
      not_own p (record { from = f; to = t; promo = promo.Queen }) h,
      not_own p (record { from = f; to = t; promo = promo.Rook }) h,
      not_own p (record { from = f; to = t; promo = promo.Bishop }) h,
      not_own p (record { from = f; to = t; promo = promo.Knight }) h,
    )

filter_gathered_none : (test : Move → Bool) (g : ℕ → List Move) → ((t : ℕ) → filter test (g t) ≡ []) → (n : ℕ) → filter test (gathered g n) ≡ []
filter_gathered_none test g none zero = refl
filter_gathered_none test g none (suc n) =
    filter-append test (gathered g n) (g n) ∙ (ap (λ xs. xs ++ filter test (g n)) (filter_gathered_none test g none n) ∙ none n)

-- a list from which nothing is taken has no element that passes
pub any_by_filter : (test : Move → Bool) (xs : List Move) → filter test xs ≡ [] → list_any test xs ≡ false
any_by_filter test xs e = not-true (list_any test xs) (sym (is_nil_filter test xs) ∙ ap is_nil e)

pub any_between_not_own : (p : Pos) (f t : ℕ) → is_of p.side (man_at p.board f) ≡ false → list_any (is_legal p) (moves_between f t) ≡ false
any_between_not_own p f t h = any_by_filter (is_legal p) (moves_between f t) (filter_between_none p f t h)

pub filter_not_own : (p : Pos) (f : ℕ) → is_of p.side (man_at p.board f) ≡ false → filter (is_legal p) (moves_from f) ≡ []
unfolding moves_from
filter_not_own p f h = filter_gathered_none (is_legal p) (moves_between f) (λ t. filter_between_none p f t h) 64

pub any_not_own : (p : Pos) (f : ℕ) → is_of p.side (man_at p.board f) ≡ false → list_any (is_legal p) (moves_from f) ≡ false
any_not_own p f h = any_by_filter (is_legal p) (moves_from f) (filter_not_own p f h)

pub ruleset ended = (gathered_moves_from, gathered_all_moves)

-- the test of a whole list from the tests of its parts
pub list_any_gathered_at : (test : Move → Bool) (g : ℕ → List Move) (k n : ℕ) → k < n → list_any test (g k) ≡ true → list_any test (gathered g n) ≡ true
list_any_gathered_at test g k zero h e = absurd (omega arith)
list_any_gathered_at test g k (suc n) h e =
    list_any-append test (gathered g n) (g n) ∙ or_by (list_any_gathered_at test g k n) (same_or_below k n h)
  where
    same_or_below : (k n : ℕ) → k < suc n → (k ≡ n) ⊎ (k < n)
    same_or_below k n h = grind arith

    or_by : (k < n → list_any test (g k) ≡ true → list_any test (gathered g n) ≡ true) → (k ≡ n) ⊎ (k < n) → (list_any test (gathered g n) || list_any test (g n)) ≡ true
    or_by earlier (inl same) = or_right (list_any test (gathered g n)) (list_any test (g n)) (ap (λ x. list_any test (g x)) (sym same) ∙ e)
    or_by earlier (inr below) = ap (λ t. t || list_any test (g n)) (earlier below e)

pub list_any_gathered_more : (test : Move → Bool) (g : ℕ → List Move) (n : ℕ) → list_any test (gathered g n) ≡ false → list_any test (g n) ≡ false →
    list_any test (gathered g (n + 1)) ≡ false
list_any_gathered_more test g n h k = rw add-one (list_any-append test (gathered g n) (g n) ∙ (ap (λ t. t || list_any test (g n)) h ∙ k))

pub ruleset any_moves = (list_any_gathered_at, list_any_gathered_more, gathered_moves_from, gathered_all_moves, any_not_own)

pub ruleset any_from_moves = (is_nil_filter)

-- a list has no entries where they are none to count
pub none_listed : (xs : List Move) → (length xs == 0) ≡ is_nil xs
none_listed [] = refl
none_listed (x ∷ xs) = ne_eqb (length (x ∷ xs)) 0 (λ e. omega arith)

pub moves_from_at : (test : Move → Bool) (f k : ℕ) → k < 64 → list_any test (moves_between f k) ≡ true → list_any test (moves_from f) ≡ true
unfolding moves_from
moves_from_at test f k h e = list_any_gathered_at test (moves_between f) k 64 h e

pub all_moves_at : (test : Move → Bool) (k : ℕ) → k < 64 → list_any test (moves_from k) ≡ true → list_any test all_moves ≡ true
unfolding all_moves
all_moves_at test k h e = list_any_gathered_at test moves_from k 64 h e

-- each listed move is legal
pub moves_legal : (p : Pos) → All (λ m. is_legal p m ≡ true) (moves p)
unfolding moves
moves_legal p = filter_passes (is_legal p) all_moves
