use denote.Enum.Bare.{sameb}
use Rattle.std.proofs.Common.{◌≡◌, Bool, true, false, not, refl, sym, ap, ◌∙◌}
use Rattle.krieg_board.specs.contracts.men.Side.{the_type}
use Rattle.krieg_board.specs.declared.men.Side.TheVariants.{White, Black}
use Rattle.krieg_moves.specs.Moves.{is_ended}
use Rattle.krieg_belief.proofs.Common.{Side, is_same_side}
use Rattle.krieg_belief.proofs.steps.stays.Goals as goal

same_side : (a b : Side) → sameb the_type a b ≡ is_same_side a b
same_side White White = refl
same_side White Black = refl
same_side Black White = refl
same_side Black Black = refl

not_twice : (b : Bool) → not (not b) ≡ b
not_twice true = refl
not_twice false = refl

pub returns-then-eq : goal.returns-then-eq
returns-then-eq c =
    let moves : not (is_ended c.args.p.now) ≡ true = sym c.has_move.ensures ∙ c.if-has_move.true in
    let turn : is_same_side c.args.p.now.side c.args.who ≡ true = (λ i. is_same_side (sym c.side.ensures.value i) c.args.who) ∙ sym (same_side c.side.result c.args.who) ∙ sym c.eq.ensures ∙ c.if-eq.true in
    rw (c.in-Illegal.is, moves, turn) (ap not c.is_legal.ensures)

pub returns-in-Over : goal.returns-in-Over
returns-in-Over c = rw c.in-Over.is (ap not c.has_move-in-Over.ensures ∙ not_twice (is_ended c.args.p.now))
