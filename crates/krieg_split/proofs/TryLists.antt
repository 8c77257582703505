-- The tries of a set from the moves of its members.
use Rattle.std.proofs.Common.{◌≡◌, ℕ, zero, suc, ◌+◌, ◌<◌, ◌≤◌, Bool, true, false, Some, List, [], ◌∷◌, ◌++◌, ◌⊎◌, inl, inr, length, take, drop, get_or, flat_map, refl, sym, ap, subst, ◌∙◌, append_assoc, arith}
use Rattle.std.proofs.lemmas.Bool.{cond-true, cond-false}
use Rattle.std.proofs.lemmas.List.{append-nil, take_more, drop_more, take_all, take-append-drop, take-append-le, length-take-le}
use Rattle.std.proofs.lemmas.List.Edits.{length-insert, get_or-insert_at}
use Rattle.std.proofs.lemmas.Option.{slice_get_within, slice_get-get_or, get_or_from_slice_get}
use Rattle.std.proofs.lemmas.Grind.{flat_map-append}
use Rattle.std.specs.List.{slice_get, list_any, insert}
use Rattle.std.specs.Ordering.{is_lt, is_some_and, partial_lt}
use Rattle.std.proofs.lemmas.List.Kept.{IsStrictlySortedBy-filter}
use Rattle.krieg_split.proofs.Common.{move_lt, move_cmp, Pos, Move, is_legal, moves, all_moves, Dialect, In, Ascending, as_set, insert_once, chess, AllBefore, IsPut, move_set}
use Rattle.krieg_board.specs.contracts.men.MovePartialOrd.TheImpl.{partial_cmp-value as derived_partial}
use Rattle.krieg_board.specs.contracts.men.MoveOrd.TheImpl.Laws as laws
use Rattle.krieg_board.proofs.MoveOrder.{move_cmp_derived, move_total, move_equal}
use Rattle.krieg_moves.proofs.Ascending.{all_moves_ascend, moves_ascend as ascend}
use Rattle.krieg_pack.proofs.Counts.{as_set_early}
use Rattle.krieg_pack.proofs.Sorting.{ascending_from}
use Rattle.krieg_theory.specs.Split as theory
use Rattle.krieg_theory.proofs.Ascending.{same_set, as_set_ascending, in_as_set, as_set_in, asym, in_insert_here, in_insert, insert_in, insert_ascending}
use Rattle.krieg_theory.proofs.Lists.{in_append_left, in_append_right, append_in, in_filter, filter_in, in_flat, flat_in, any_from, any_at}
use Rattle.krieg_game.proofs.MoveOrder.{move_order}

-- the derived order is that of moves
pub derived_lt : (a b : Move) → partial_lt derived_partial.it a b ≡ move_lt a b
derived_lt a b = ap (is_some_and is_lt) (laws.matches_partial_cmp-law a b ∙ ap Some (move_cmp_derived a b))

-- what a list has first behind a place
pub at_head : (ms zs : List Move) (k : ℕ) (t : Move) → drop k ms ≡ t ∷ zs → slice_get ms k ≡ Some t
at_head [] zs zero t e = absurd cc
at_head [] zs (suc k) t e = absurd cc
at_head (m ∷ ms) zs zero t e = let h : m ≡ t = cc in ap Some h
at_head (m ∷ ms) zs (suc k) t e = at_head ms zs k t e

-- one more stands before a move
pub before_more : (found : List Move) (place : ℕ) (x m : Move) → place < length found → x ≡ get_or found place x → AllBefore (take place found) m → move_lt x m ≡ true → AllBefore (take (place + 1) found) m
before_more found place x m within at before less y i = by_part (append_in (take place found) (x ∷ []) y (subst (In y) (take_more found place x within ∙ ap (λ z. take place found ++ z ∷ []) (sym at)) i))
  where
    by_part : In y (take place found) ⊎ In y (x ∷ []) → move_lt y m ≡ true
    by_part (inl j) = before y j
    by_part (inr (inl e)) = subst (λ z. move_lt z m ≡ true) e less
    by_part (inr (inr e)) = absurd e

-- a move belongs behind all that stand before it
behind : (xs ys : List Move) (m : Move) → AllBefore xs m → insert_once move_lt m (xs ++ ys) ≡ xs ++ insert_once move_lt m ys
behind [] ys m before = refl
behind (x ∷ xs) ys m before =
    let less = before x (inl refl) in
    cond-false (move_lt m x) _ _ (asym move_lt move_order x m less) ∙ cond-true (move_lt x m) _ _ less ∙ ap (λ r. x ∷ r) (behind xs ys m (λ y i. before y (inr i)))

-- all that are lower stand before a place
module _ (found : List Move) (place : ℕ) (m : Move) (set : move_set found ≡ found) (before : AllBefore (take place found) m) where
  with_one_more : (rest : List Move) → insert_once move_lt m (drop place found) ≡ rest → take place found ++ rest ≡ move_set (found ++ m ∷ [])
  unfolding move_set
  with_one_more rest is =
      ap (λ r. take place found ++ r) (sym is) ∙ sym (behind (take place found) (drop place found) m before) ∙ ap (insert_once move_lt m) (take-append-drop place found)
      ∙ same_set move_lt move_order (insert_once move_lt m found) (as_set move_lt (found ++ m ∷ [])) (insert_ascending move_lt move_order m found (subst (Ascending move_lt) set (as_set_ascending move_lt move_order found))) (as_set_ascending move_lt move_order (found ++ m ∷ []))
      (λ x i. in_as_set move_lt move_order x (found ++ m ∷ []) (to_end x (insert_in move_lt move_order m x found i)))
      (λ x i. from_end x (append_in found (m ∷ []) x (as_set_in move_lt move_order x (found ++ m ∷ []) i)))
    where
      to_end : (x : Move) → (m ≡ x) ⊎ In x found → In x (found ++ m ∷ [])
      to_end x (inl e) = in_append_right found (m ∷ []) x (inl e)
      to_end x (inr i) = in_append_left found (m ∷ []) x i

      from_end : (x : Move) → In x found ⊎ In x (m ∷ []) → In x (insert_once move_lt m found)
      from_end x (inl i) = in_insert move_lt move_order m x found i
      from_end x (inr (inl e)) = subst (λ z. In z (insert_once move_lt m found)) e (in_insert_here move_lt move_order m found)
      from_end x (inr (inr e)) = absurd e

  -- the move stands there
  pub there : slice_get found place ≡ Some m → IsPut found found m place
  there here =
      let itself = move_order.never_itself m in
      let next : drop place found ≡ m ∷ drop (place + 1) found = drop_more found place m (slice_get_within found place m here) ∙ ap (λ y. y ∷ drop (place + 1) found) (get_or_from_slice_get found place m m here) in
      record {
        set = sym (take-append-drop place found)
            ∙ with_one_more (drop place found) (subst (λ rest. insert_once move_lt m rest ≡ rest) (sym next) (cond-false (move_lt m m) _ _ itself ∙ cond-false (move_lt m m) _ _ itself));
        at = here;
        before = before;
      }

  -- a greater one does, or none
  pub inserted : place ≤ length found → ((y : Move) → slice_get found place ≡ Some y → move_lt y m ≡ false) → (slice_get found place ≡ Some m → ⊥) → IsPut found (insert found place m) m place
  inserted within first other = record {
    set = with_one_more (m ∷ drop place found) (next (drop place found) refl);
    at = slice_get-get_or (insert found place m) place m (let n = length-insert found place m within in omega arith) ∙ ap Some (get_or-insert_at found place m m within);
    before = (let n = length-take-le place found within in subst (λ ns. AllBefore ns m) (sym (take-append-le place (take place found) (m ∷ drop place found) (omega arith) ∙ take_all place (take place found) (omega arith))) before);
  }
    where
      next : (rest : List Move) → drop place found ≡ rest → insert_once move_lt m rest ≡ m ∷ rest
      next [] e = refl
      next (y ∷ ys) e = cond-true (move_lt m y) _ _ (less (move_lt m y) refl)
        where
          at : slice_get found place ≡ Some y
          at = at_head found ys place y e

          less : (b : Bool) → move_lt m y ≡ b → b ≡ true
          less true h = refl
          less false h = absurd (other (at ∙ ap Some (move_order.total y m (first y at) h)))

-- the moves of a first member are a set
pub first_moves : (found ms : List Move) → length found ≡ 0 → Ascending move_lt ms → found ++ ms ≡ move_set (found ++ ms)
unfolding move_set
first_moves [] ms none up = same_set move_lt move_order ms (as_set move_lt ms) up (as_set_ascending move_lt move_order ms) (λ m i. in_as_set move_lt move_order m ms i) (λ m i. as_set_in move_lt move_order m ms i)
first_moves (m ∷ found) ms none up = absurd (omega (arith, none))

-- a set is its own set
pub set_of_set : (ms : List Move) → move_set (move_set ms) ≡ move_set ms
unfolding move_set
set_of_set ms = sym (ap (as_set move_lt) (append-nil (as_set move_lt ms))) ∙ as_set_early move_lt move_order ms [] ∙ ap (as_set move_lt) (append-nil ms)

-- the walk through the moves has come to place i, and that through the set to the place of the last of them
pub record IsAdding (old ms found : List Move) (i place : ℕ) : Type 0 where
  pub set : found ≡ move_set (old ++ take i ms)
  pub within : place ≤ length found
  pub before : (m : Move) → In m (drop i ms) → AllBefore (take place found) m
  pub ahead : Ascending move_lt (drop i ms)

module _ {old ms found : List Move} {i place : ℕ} (m : Move) (within : i < length ms) (at : m ≡ get_or ms i m) (a : IsAdding old ms found i place) where
  ahead_is : drop i ms ≡ m ∷ drop (i + 1) ms
  ahead_is = drop_more ms i m within ∙ ap (λ x. x ∷ drop (i + 1) ms) (sym at)

  pub all_before : AllBefore (take place found) m
  all_before = a.before m (subst (In m) (sym ahead_is) (inl refl))

  pub is_set : move_set found ≡ found
  is_set = subst (λ ns. move_set ns ≡ ns) (sym a.set) (set_of_set (old ++ take i ms))

  -- that one is among them as well
  pub one_added : (now : List Move) (next : ℕ) → IsPut found now m next → IsAdding old ms now (i + 1) (next + 1)
  unfolding move_set
  one_added now next put = record {
    set = put.set
        ∙ ap (λ ns. move_set (ns ++ m ∷ [])) a.set ∙ as_set_early move_lt move_order (old ++ take i ms) (m ∷ [])
        ∙ ap move_set (append_assoc old (take i ms) (m ∷ []) ∙ ap (λ ns. old ++ ns) (sym (take_more ms i m within ∙ ap (λ x. take i ms ++ x ∷ []) (sym at))));
    within = (let w = slice_get_within now next m put.at in omega (arith, w));
    before = λ n k. before_more now next m n (slice_get_within now next m put.at) (sym (get_or_from_slice_get now next m m put.at)) (λ x j. move_order.trans x m n (put.before x j) (up.0 n k)) (up.0 n k);
    ahead = up.1;
  }
    where
      up : Ascending move_lt (m ∷ drop (i + 1) ms)
      up = subst (Ascending move_lt) ahead_is a.ahead

pub moves_ascend : (p : Pos) → Ascending move_lt (moves p)
moves_ascend p = ascending_from move_cmp move_total move_equal (moves p) (ascend p)

flat_map_push : (ps : List Pos) (p : Pos) → flat_map moves (ps ++ p ∷ []) ≡ flat_map moves ps ++ moves p
flat_map_push ps p = flat_map-append moves ps (p ∷ []) ∙ ap (λ r. flat_map moves ps ++ r) (append-nil (moves p))

-- a set that has grown by the moves of one member more
pub set_more : (found old : List Move) (ps : List Pos) (i : ℕ) (p : Pos) → i < length ps → p ≡ get_or ps i p → old ≡ move_set (flat_map moves (take i ps)) → found ≡ move_set (old ++ moves p) → found ≡ move_set (flat_map moves (take (i + 1) ps))
unfolding move_set
set_more found old ps i p within at was is =
    is
    ∙ ap (λ ms. move_set (ms ++ moves p)) was
    ∙ as_set_early move_lt move_order (flat_map moves (take i ps)) (moves p)
    ∙ ap move_set (sym (flat_map_push (take i ps) p) ∙ ap (flat_map moves) (sym (take_more ps i p within ∙ ap (λ q. take i ps ++ q ∷ []) (sym at))))

-- the set of all members' moves is the tries
pub moves_are_tries : (d : Dialect) (B : List Pos) → move_set (flat_map moves B) ≡ theory.tries (chess d) B
unfolding move_set moves
moves_are_tries d B =
    let test = λ (t : Move). list_any (λ p. is_legal p t) B in
    same_set move_lt move_order _ _ (as_set_ascending move_lt move_order (flat_map moves B)) (ascending_from move_cmp move_total move_equal _ (IsStrictlySortedBy-filter move_cmp test all_moves all_moves_ascend))
    (λ t i.
    let r = flat_in moves B t (as_set_in move_lt move_order t (flat_map moves B) i) in
    let f = filter_in (is_legal r.0) all_moves t r.2 in
    in_filter test all_moves t f.0 (any_from (λ p. is_legal p t) B r.0 r.1 f.1))
    (λ t i.
    let f = filter_in test all_moves t i in
    let a = any_at (λ p. is_legal p t) B f.1 in
    in_as_set move_lt move_order t (flat_map moves B) (in_flat moves B a.0 t a.1 (in_filter (is_legal a.0) all_moves t f.0 a.2)))
