-- The orders of positions, moves and games are total, and the legal moves ascend.
use Rattle.std.proofs.Common.{◌≡◌, Bool, true, false, List, [], ◌∷◌, cond, filter, refl, ap, subst}
use Rattle.std.specs.Cmp.{IsTotalOrder}
use Rattle.std.specs.Ordering.{is_eq, ordering_reverse}
use Rattle.std.specs.declared.cmp.Ordering.{Ordering}
use Rattle.std.specs.declared.cmp.Ordering.TheVariants.{Less, Equal, Greater}
use Rattle.std.proofs.lemmas.Cmp.{on_total, then_total, lists_total}
use Rattle.krieg_belief.proofs.Common.{move_cmp, move_lt, Pos, Move, moves, Ascending, position_cmp, position_eq, position_total, Tale, tale_cmp}
use Rattle.krieg_board.proofs.MoveOrder.{move_total, move_equal}
use Rattle.krieg_theory.proofs.Lists.{filter_in}
use Rattle.krieg_moves.proofs.Ascending.{moves_ascend}
use Rattle.krieg_pack.proofs.Sorting.{ascending_from}

itself_equal : (o : Ordering) → o ≡ ordering_reverse o → o ≡ Equal
itself_equal Less h = absurd cc
itself_equal Equal h = refl
itself_equal Greater h = absurd cc

pub move_itself : (m : Move) → move_cmp m m ≡ Equal
move_itself m = itself_equal (move_cmp m m) (move_total.antisymm m m)

pub position_itself : (p : Pos) → position_cmp p p ≡ Equal
position_itself p = itself_equal (position_cmp p p) (position_total.antisymm p p)

pub place_same : (p q : Pos) → p ≡ q → position_eq p q ≡ true
place_same p q e = subst (λ (x : Pos). position_eq p x ≡ true) e (ap is_eq (position_itself p))

pub tale_total : IsTotalOrder tale_cmp
tale_total = then_total (on_total (λ (x : Tale). x.start) position_total) (on_total (λ (x : Tale). x.replies) (lists_total move_total))

pub kept_up : (f : Move → Bool) (ms : List Move) → Ascending move_lt ms → Ascending move_lt (filter f ms)
kept_up f [] up = up
kept_up f (m ∷ ms) up = go (f m) (kept_up f ms up.1)
  where
    go : (b : Bool) → Ascending move_lt (filter f ms) → Ascending move_lt (cond b (m ∷ filter f ms) (filter f ms))
    go true rest = ((λ y i. up.0 y (filter_in f ms y i).0), rest)
    go false rest = rest

pub legal_up : (p : Pos) → Ascending move_lt (moves p)
legal_up p = ascending_from move_cmp move_total move_equal (moves p) (moves_ascend p)
