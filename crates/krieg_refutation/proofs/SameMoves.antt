-- Equal moves are the same in the order of moves.
use Rattle.std.proofs.Common.{◌≡◌, Bool, true, sym, ap, subst, ◌∙◌}
use Rattle.std.specs.Cmp.{Equal-is}
use Rattle.std.specs.Ordering.{is_eq}
use Rattle.std.proofs.lemmas.Cmp.{tied_itself}
use Rattle.krieg_refutation.proofs.Common.{move_lt, move_cmp, Move, same}
use Rattle.krieg_board.specs.contracts.men.MovePartialEq.TheImpl as derived_eq
use Rattle.krieg_board.proofs.MoveOrder.{move_eq_derived, move_total, move_equal}
use Rattle.krieg_theory.proofs.Ascending.{same_is}
use Rattle.krieg_game.proofs.MoveOrder.{move_order}

pub same_by_eq : (a b : Move) (e : Bool) → e ≡ (derived_eq.ghosts).eq a b → e ≡ same move_lt a b
same_by_eq a b e h =
    sym (same_is move_lt move_order a b e (λ q. move_equal a b ((Equal-is (move_cmp a b)).0 (sym (move_eq_derived a b) ∙ sym h ∙ q))) (λ q. h ∙ move_eq_derived a b ∙ subst (λ x. is_eq (move_cmp a x) ≡ true) q (ap is_eq (tied_itself move_total a))))
