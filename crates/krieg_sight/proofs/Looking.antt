-- The moves of a position, one after another, and how the opponent's turn ends.
use Rattle.std.proofs.Common.{◌≡◌, ℕ, zero, suc, ◌<◌, Bool, true, false, not, ◌&&◌, ◌||◌, List, [], ◌∷◌, length, get_or, inl, inr, refl, sym, subst, ◌∙◌, arith}
use Rattle.std.specs.List.{list_all, list_any}
use Rattle.std.proofs.lemmas.Bool.{both_ways}
use Rattle.krieg_sight.proofs.Common.{Pos, Move, is_legal, after, moves, all_moves, in_check, is_ended, is_mate, is_stalemate, is_nil, In, is_met, mates_within}
use Rattle.krieg_theory.proofs.Lists.{any_from, filter_in}

item_in : {X : Type 0} (xs : List X) (k : ℕ) (x : X) → k < length xs → x ≡ get_or xs k x → In x xs
item_in [] k x l e = absurd (omega arith)
item_in (y ∷ xs) zero x l e = inl (sym e)
item_in (y ∷ xs) (suc k) x l e = inr (item_in xs k x (omega arith) e)

-- some member passes, as the one at a place does
pub some_member : {X : Type 0} (f : X → Bool) (xs ys : List X) (k : ℕ) (x : X) → ys ≡ xs → k < length ys → x ≡ get_or ys k x → f x ≡ true → list_any f xs ≡ true
some_member f xs ys k x are l e passes = any_from f xs x (subst (In x) are (item_in ys k x l e)) passes

listed_legal : (p : Pos) (t : Move) → In t (moves p) → is_legal p t ≡ true
unfolding moves
listed_legal p t i = (filter_in (is_legal p) all_moves t i).1

-- a listed move is legal
pub item_legal : (p : Pos) (ts : List Move) (k : ℕ) (t : Move) → ts ≡ moves p → k < length ts → t ≡ get_or ts k t → is_legal p t ≡ true
item_legal p ts k t are l e = listed_legal p t (subst (λ (xs : List Move). In t xs) are (item_in ts k t l e))

last_end : (check : Bool) (rs : List Move) → (check && is_nil rs) ≡ false → (not (not check && is_nil rs) && list_all (λ r. false) rs) ≡ false
last_end true [] h = absurd (both_ways true h refl)
last_end false [] h = refl
last_end true (r ∷ rs) h = refl
last_end false (r ∷ rs) h = refl

-- with the last move only mate will do
pub not_met_at_last : (j : ℕ) (q : Pos) → j ≡ 0 → is_mate q ≡ false → is_met (mates_within j) q ≡ false
unfolding is_mate is_stalemate is_ended
not_met_at_last j q z e = subst (λ n. is_met (mates_within n) q ≡ false) (sym z) (last_end (in_check q) (moves q) e)

-- no move mates
pub none_mates : (i j : ℕ) (p key : Pos) (ts : List Move) → suc i ≡ j → key ≡ p → ts ≡ moves p → list_any (λ t. is_met (mates_within i) (after p t)) ts ≡ false → mates_within j key ≡ false
none_mates i j p key ts n k are e =
    subst (λ m. mates_within m key ≡ false) n
    (subst (λ (q : Pos). mates_within (suc i) q ≡ false) (sym k) (subst (λ (xs : List Move). list_any (λ t. is_met (mates_within i) (after p t)) xs ≡ false) are e))
