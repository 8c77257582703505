-- A loop over the squares of a set misses no man who may pass its test.
use Rattle.std.proofs.Common.{◌≡◌, ℕ, zero, suc, ◌+◌, ◌<◌, Bool, true, false, not, cond, ◌&&◌, ◌==◌, List, [], ◌∷◌, ◌++◌, refl, sym, ap, ◌∙◌, arith, add-one, inl, inr}
use Rattle.std.proofs.Math.Bool.{and-true}
use Rattle.std.proofs.lemmas.Bool.{and_from, and_left, and_right, ne_eqb, cases_eq, and_parts}
use Rattle.std.specs.Prelude.{◌⊎◌, is_none}
use Rattle.std.specs.List.{filter, range_with_len}
use Rattle.std.proofs.lemmas.List.{map-id}
use Rattle.std.proofs.lemmas.List.FromFn.{filter_of_map_range_with_len_more}
use Rattle.krieg_record.proofs.Common.{Pos, squares, some_square, gathered, has, IsLowest, is_legal, plain_move, Officer, Origin, Notation, Move, Movement, Castles, ByOfficer, ByPawn, kind_of, is_own, castling, fits, is_rival, is_shared, is_movement, is_matched, mover, move_from, goes_from, leaving}
use Rattle.krieg_board.proofs.Picked.{picked, picked_zero, picked_step, picked_all, gathered_same}
use Rattle.krieg_board.proofs.SetLemmas.{has_zero}
use Rattle.krieg_board.proofs.SquareTests.{some_square_at, some_square_none}
use Rattle.krieg_board.proofs.SameTests.{some_square_same}
use Rattle.krieg_board.specs.declared.men.Kind.TheVariants as kind
use Rattle.krieg_record.proofs.MoveTellings.{castling_tells}
use Rattle.krieg_record.proofs.Sans.{wing_is}

-- ---- whether there is one

-- the one that is passed does not pass the test
pub some_passed : (test : ℕ → Bool) (set t less : ℕ) → test t ≡ false → ((k : ℕ) → k < 64 → has less k ≡ (has set k && not (k == t))) →
    some_square (λ s. has less s && test s) ≡ some_square (λ s. has set s && test s)
some_passed test set t less off others = some_square_same _ _ (λ k l. ap (λ b. b && test k) (others k l) ∙ go k (cases_eq k t))
  where
    go : (k : ℕ) → (k ≡ t) ⊎ (k ≡ t → ⊥) → ((has set k && not (k == t)) && test k) ≡ (has set k && test k)
    go k (inl e) =
        let no : test k ≡ false = ap test e ∙ off in
        and_right (has set k && not (k == t)) (test k) no ∙ sym (and_right (has set k) (test k) no)
    go k (inr apart) = ap (λ b. (has set k && not b) && test k) (ne_eqb k t apart) ∙ ap (λ b. b && test k) (and-true (has set k))

pub some_found : (test : ℕ → Bool) (set t : ℕ) → IsLowest set t → test t ≡ true → some_square (λ s. has set s && test s) ≡ true
some_found test set t l on = some_square_at (λ s. has set s && test s) t l.below (and_from (has set t) (test t) l.member on)

pub some_ended : (test : ℕ → Bool) (set : ℕ) → set ≡ 0 → some_square (λ s. has set s && test s) ≡ false
some_ended test set z = some_square_none (λ s. has set s && test s) (λ k l. and_left (has set k) (test k) (ap (λ (n : ℕ). has n k) z ∙ has_zero k))

-- what passes the test is in the set
pub some_all : (test : ℕ → Bool) (set : ℕ) → ((k : ℕ) → k < 64 → test k ≡ true → has set k ≡ true) → some_square (λ s. has set s && test s) ≡ some_square test
some_all test set are = some_square_same _ _ (λ k l. go (test k) (has set k) (are k l))
  where
    go : (t h : Bool) → (t ≡ true → h ≡ true) → (h && t) ≡ t
    go true h e = ap (λ b. b && true) (e refl)
    go false true e = refl
    go false false e = refl

-- a rival is an own man of the kind
pub shared_own : (p : Pos) (officer : Officer) (m : Move) (o : Origin) (set : ℕ) → ((k : ℕ) → k < 64 → has set k ≡ is_own p (kind_of officer) k) →
    some_square (λ s. has set s && (fits o s && is_rival p officer m s)) ≡ is_shared p officer m o
unfolding is_shared
shared_own p officer m o set own =
    some_all (λ s. fits o s && is_rival p officer m s) set (λ k l e.
    let r = and_parts (fits o k) _ e in
    let q = and_parts (not (k == m.from)) _ r.1 in
    let t = and_parts (is_own p (kind_of officer) k) (is_legal p (plain_move k m.to)) q.1 in
    own k l ∙ t.0)

-- ---- which they are

abbrev alone_if : (ℕ → Bool) → ℕ → List ℕ
alone_if test s = cond (test s) (s ∷ []) []

range_is : (test : ℕ → Bool) (n : ℕ) → filter test (range_with_len 0 n) ≡ gathered (alone_if test) n
range_is test zero = refl
range_is test (suc n) =
    ap (λ (k : ℕ). filter test (range_with_len 0 k)) (sym (add-one n))
    ∙ ap (filter test) (sym (map-id (range_with_len 0 (n + 1))))
    ∙ filter_of_map_range_with_len_more test (λ (x : ℕ). x) 0 n n (omega arith)
    ∙ ap (λ (xs : List ℕ). filter test xs ++ alone_if test n) (map-id (range_with_len 0 n))
    ∙ ap (λ (xs : List ℕ). xs ++ alone_if test n) (range_is test n)

squares_are : (test : ℕ → Bool) → filter test squares ≡ gathered (alone_if test) 64
unfolding squares
squares_are test = range_is test 64

leaving_is : (p : Pos) (n : Notation) (set : ℕ) → leaving p n set ≡ picked set (alone_if (goes_from p n))
unfolding leaving picked
leaving_is p n set = squares_are (λ s. has set s && goes_from p n s) ∙ gathered_same _ _ 64 (λ k l. go k (has set k))
  where
    go : (k : ℕ) (h : Bool) → cond (h && goes_from p n k) (k ∷ []) [] ≡ cond h (alone_if (goes_from p n) k) []
    go k true = refl
    go k false = refl

pub leaving_step : (p : Pos) (n : Notation) (set t less : ℕ) → IsLowest set t → ((k : ℕ) → k < 64 → has less k ≡ (has set k && not (k == t))) →
    leaving p n set ≡ alone_if (goes_from p n) t ++ leaving p n less
leaving_step p n set t less l others =
    leaving_is p n set ∙ picked_step (alone_if (goes_from p n)) set t less l others ∙ ap (λ (xs : List ℕ). alone_if (goes_from p n) t ++ xs) (sym (leaving_is p n less))

pub leaving_found : (p : Pos) (n : Notation) (set t less : ℕ) → IsLowest set t → ((k : ℕ) → k < 64 → has less k ≡ (has set k && not (k == t))) →
    goes_from p n t ≡ true → leaving p n set ≡ t ∷ leaving p n less
leaving_found p n set t less l others on = leaving_step p n set t less l others ∙ ap (λ b. cond b (t ∷ []) [] ++ leaving p n less) on

pub leaving_passed : (p : Pos) (n : Notation) (set t less : ℕ) → IsLowest set t → ((k : ℕ) → k < 64 → has less k ≡ (has set k && not (k == t))) →
    goes_from p n t ≡ false → leaving p n less ≡ leaving p n set
leaving_passed p n set t less l others off = sym (leaving_step p n set t less l others ∙ ap (λ b. cond b (t ∷ []) [] ++ leaving p n less) off)

pub leaving_ended : (p : Pos) (n : Notation) (set : ℕ) → set ≡ 0 → leaving p n set ≡ []
leaving_ended p n set z = leaving_is p n set ∙ ap (λ (k : ℕ). picked k (alone_if (goes_from p n))) z ∙ picked_zero (alone_if (goes_from p n))

-- where a move goes from a square that the notation may mean, an own man of its kind stands there
goes_own : (p : Pos) (movement : Movement) (m : Move) → is_legal p m ≡ true → is_movement p movement m ≡ true → is_own p (mover movement) m.from ≡ true
goes_own p (Castles wing) m h e = (castling_tells p m wing h (wing_is wing (castling p m) e)).king
goes_own p (ByOfficer o) m h e = (and_parts (is_own p (kind_of o.officer) m.from) _ (and_parts (is_none (castling p m)) _ e).1).0
goes_own p (ByPawn w) m h e = (and_parts (is_own p kind.Pawn m.from) _ e).0

goes_from_own : (p : Pos) (n : Notation) (k : ℕ) → goes_from p n k ≡ true → is_own p (mover n.movement) k ≡ true
unfolding is_matched
goes_from_own p n k e =
    let m = move_from p n.movement k in
    let r = and_parts (is_legal p m) _ e in
    goes_own p n.movement m r.0 (and_parts (is_movement p n.movement m) _ r.1).0

pub leaving_own : (p : Pos) (n : Notation) (set : ℕ) → ((k : ℕ) → k < 64 → has set k ≡ is_own p (mover n.movement) k) → leaving p n set ≡ filter (goes_from p n) squares
leaving_own p n set own =
    leaving_is p n set
    ∙ picked_all (alone_if (goes_from p n)) set (λ k l off. go k (goes_from p n k) (λ e. sym (own k l ∙ goes_from_own p n k e) ∙ off))
    ∙ sym (squares_are (goes_from p n))
  where
    go : (k : ℕ) (t : Bool) → (t ≡ true → true ≡ false) → cond t (k ∷ []) [] ≡ []
    go k true e = let bad = e refl in cc
    go k false e = refl
