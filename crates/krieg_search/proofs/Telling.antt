-- The tries of a set, with what is told of them.
use Rattle.std.proofs.Common.{Bool, ◌≡◌, ℕ, ◌<◌, true, List, [], ◌∷◌, length, map, get_or, refl, sym, ap, subst, ◌∙◌, arith}
use Rattle.std.specs.Prelude.{◌↔◌, All, IsTrue}
use Rattle.std.specs.Cmp.{Equal-is}
use Rattle.std.specs.Ordering.{is_eq}
use Rattle.std.proofs.lemmas.Cmp.{tied_itself}
use Rattle.std.proofs.lemmas.List.{get_or-map, length-map}
use Rattle.std.proofs.lemmas.List.Elements.{All-map}
use Rattle.krieg_board.specs.Order.{move_cmp}
use Rattle.krieg_board.specs.contracts.men.MovePartialEq.TheImpl as derived_eq
use Rattle.krieg_board.proofs.MoveOrder.{move_eq_derived, move_total, move_equal}
use Rattle.krieg_search.proofs.Common.{Pos, Move, tally_of, move_of, IsTold, Plain, Counted}
use Rattle.krieg_search.specs.declared.try_list.Try.{Try}

-- nothing is told
pub plain_moves : (ts : List Move) → map move_of (map (λ t. Plain t) ts) ≡ ts
plain_moves [] = refl
plain_moves (t ∷ ts) = ap (λ ms. t ∷ ms) (plain_moves ts)

pub plain_told : (B : List Pos) (j : ℕ) (ts : List Move) → All (IsTold B j) (map (λ t. Plain t) ts)
plain_told B j ts = All-map (IsTold B j) (λ t. Plain t) ts (λ k t within. tt)

-- the tallies are
pub counted_moves : (B : List Pos) (ts : List Move) → map move_of (map (λ y. Counted y) (map (tally_of B) ts)) ≡ ts
counted_moves B [] = refl
counted_moves B (t ∷ ts) = ap (λ ms. t ∷ ms) (counted_moves B ts)

pub counted_told : (B : List Pos) (j : ℕ) (ts : List Move) → j ≡ 1 → All (IsTold B j) (map (λ y. Counted y) (map (tally_of B) ts))
counted_told B j ts one = All-map (IsTold B j) (λ y. Counted y) (map (tally_of B) ts) (All-map (λ y. IsTold B j (Counted y)) (tally_of B) ts (λ k t within. (one, refl)))

-- a try of the list is at its place among the moves
pub move_at : (xs : List Try) (k : ℕ) (x : Try) → k < length xs → x ≡ get_or xs k x → (k < length (map move_of xs)) × (move_of x ≡ get_or (map move_of xs) k (move_of x))
move_at xs k x within at =
    let n = length-map xs move_of in
    (omega arith, ap move_of at ∙ sym (get_or-map move_of xs k x (move_of x) within))

-- and what is told of it is told of the set
pub told_at : (B C : List Pos) (j : ℕ) (xs ys : List Try) (k : ℕ) (x : Try) → All (IsTold B j) ys → xs ≡ ys → k < length xs → x ≡ get_or xs k x → B ≡ C → IsTold C j x
told_at B C j xs ys k x told same within at is = subst (λ (X : List Pos). IsTold X j x) is (subst (IsTold B j) (sym at) (subst (All (IsTold B j)) (sym same) told k x within))

-- moves that are equal to the code are equal
pub same_move : (a b : Move) (e : Bool) → e ≡ (derived_eq.ghosts).eq a b → IsTrue e ↔ (a ≡ b)
same_move a b e h = (
  (λ q. move_equal a b ((Equal-is (move_cmp a b)).0 (sym (move_eq_derived a b) ∙ sym h ∙ q))),
  (λ q. h ∙ move_eq_derived a b ∙ subst (λ x. is_eq (move_cmp a x) ≡ true) q (ap is_eq (tied_itself move_total a))),
)
