-- A move is in the list of a position exactly where it is legal.
use Rattle.std.proofs.Common.{◌≡◌, ℕ, zero, suc, ◌<◌, Bool, true, false, cond, List, [], ◌∷◌, ◌++◌, ◌⊎◌, inl, inr, refl, sym, subst, arith}
use Rattle.std.specs.List.{filter, Contains}
use Rattle.std.proofs.lemmas.List.Elements.{All-contains, Contains-append_left, Contains-append_right}
use Rattle.krieg_moves.proofs.Common.{Promo, Move, Pos, is_legal, gathered, moves_between, moves_from, all_moves, moves}
use Rattle.krieg_board.specs.declared.men.Promo.TheVariants as promo
use Rattle.krieg_moves.proofs.LegalMoves.{legal_squares}
use Rattle.krieg_moves.proofs.MoveLists.{moves_legal}

first : (x : Move) (xs : List Move) → Contains (x ∷ xs) x
first x xs = (0, omega arith, refl)

later : (x y : Move) (xs : List Move) → Contains xs x → Contains (y ∷ xs) x
later x y xs (k, l, e) = (suc k, omega arith, e)

first_or_later : (x y : Move) (xs : List Move) → Contains (y ∷ xs) x → (y ≡ x) ⊎ Contains xs x
first_or_later x y xs (zero, l, e) = inl e
first_or_later x y xs (suc k, l, e) = inr (k, omega arith, e)

contains_filter : (test : Move → Bool) (x : Move) (xs : List Move) → test x ≡ true → Contains xs x → Contains (filter test xs) x
contains_filter test x [] h (k, l, e) = absurd (omega arith)
contains_filter test x (y ∷ ys) h c = by_first (first_or_later x y ys c) (contains_filter test x ys h)
  where
    kept : (t : Bool) → t ≡ true → Contains (cond t (x ∷ filter test ys) (filter test ys)) x
    kept true e = first x (filter test ys)
    kept false e = cc

    passed : (t : Bool) → Contains (filter test ys) x → Contains (cond t (y ∷ filter test ys) (filter test ys)) x
    passed true c = later x y (filter test ys) c
    passed false c = c

    by_first : (y ≡ x) ⊎ Contains ys x → (Contains ys x → Contains (filter test ys) x) → Contains (cond (test y) (y ∷ filter test ys) (filter test ys)) x
    by_first (inl e) rest = subst (λ (z : Move). Contains (cond (test z) (z ∷ filter test ys) (filter test ys)) x) (sym e) (kept (test x) h)
    by_first (inr c) rest = passed (test y) (rest c)

contains_gathered : (g : ℕ → List Move) (m : Move) (k n : ℕ) → k < n → Contains (g k) m → Contains (gathered g n) m
contains_gathered g m k zero h c = absurd (omega arith)
contains_gathered g m k (suc n) h c = by_place (same_or_below k n h) (λ l. contains_gathered g m k n l c)
  where
    same_or_below : (k n : ℕ) → k < suc n → (k ≡ n) ⊎ (k < n)
    same_or_below k n h = grind arith

    by_place : (k ≡ n) ⊎ (k < n) → (k < n → Contains (gathered g n) m) → Contains (gathered g n ++ g n) m
    by_place (inl e) earlier = Contains-append_right (gathered g n) (g n) m (subst (λ (x : ℕ). Contains (g x) m) e c)
    by_place (inr l) earlier = Contains-append_left (gathered g n) (g n) m (earlier l)

between : (f t : ℕ) (r : Promo) → Contains (moves_between f t) (record { from = f; to = t; promo = r })
between f t promo.Plain = (0, omega arith, refl)
between f t promo.Queen = (1, omega arith, refl)
between f t promo.Rook = (2, omega arith, refl)
between f t promo.Bishop = (3, omega arith, refl)
between f t promo.Knight = (4, omega arith, refl)

-- each legal move is one of all moves
pub legal_in_all : (p : Pos) (m : Move) → is_legal p m ≡ true → Contains all_moves m
unfolding all_moves moves_from
legal_in_all p m h =
    let s = legal_squares p m h in
    contains_gathered moves_from m m.from 64 s.0 (contains_gathered (moves_between m.from) m m.to 64 s.1 (between m.from m.to m.promo))

-- each legal move is listed
pub legal_listed : (p : Pos) (m : Move) → is_legal p m ≡ true → Contains (moves p) m
unfolding moves
legal_listed p m h = contains_filter (is_legal p) m all_moves h (legal_in_all p m h)

-- each listed move is legal
pub listed_legal : (p : Pos) (m : Move) → Contains (moves p) m → is_legal p m ≡ true
listed_legal p m c = All-contains (λ m. is_legal p m ≡ true) (moves p) m (moves_legal p) c
