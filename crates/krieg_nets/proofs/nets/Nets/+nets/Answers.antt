use Rattle.std.proofs.Common.{◌-◌, ◌==◌, ℕ, not, sym, ap, subst, ◌∙◌, bit_or, arith}
use Rattle.std.specs.Prelude.{Some, is_some}
use Rattle.std.proofs.lemmas.Bool.{and_parts}
use Rattle.krieg_board.specs.Attacks.{is_attacked, man_attacks}
use Rattle.krieg_board.specs.Board.{man_at}
use Rattle.krieg_board.specs.Men.{other}
use Rattle.krieg_board.specs.Sets.{has}
use Rattle.krieg_nets.specs.Nets.{AllFailBetween, AllFailFrom, against}
use Rattle.krieg_nets.proofs.Failing.{from_nobody, from_begun, from_step, to_begun, to_step, from_all, none_all, blocked_fails, net_fails}
use Rattle.krieg_nets.proofs.Fleeing.{none_fled, also_fled, caught_fled, near_fled, none_among, loose_safe}
use Rattle.krieg_nets.proofs.nets.Nets.+nets.Goals as goal

pub net-returns-then-not-has_room-clause-net : goal.net-returns-then-not-has_room-clause-net
net-returns-then-not-has_room-clause-net t c = c.nothing.ensures (against c.args.men.now) c.args.moves

pub net-returns-then-not-look_for-clause-net : goal.net-returns-then-not-look_for-clause-net
net-returns-then-not-look_for-clause-net t c = c.nothing-then-not-look_for.ensures (against c.args.men.now) c.args.moves

pub none_between-returns-in-Some-clause-none : goal.none_between-returns-in-Some-clause-none
none_between-returns-in-Some-clause-none t c =
    net_fails c.args.men.now c.in-Some.next c.args.man c.args.fewer c.args.from c.args.to c.blocked-blocked.result c.net-net.result c.requires.man c.blocked-blocked.ensures c.in-Some.ensures.board c.in-Some.ensures.lone
    c.net-net.ensures.net

pub none_between-returns-in-None-clause-none : goal.none_between-returns-in-None-clause-none
none_between-returns-in-None-clause-none t c = blocked_fails c.args.men.now c.args.man c.args.from c.args.to c.requires.man c.args.fewer c.blocked-blocked.result c.blocked-blocked.ensures

pub none_from-returns-in_default-clause-none : goal.none_from-returns-in_default-clause-none
none_from-returns-in_default-clause-none t c =
    from_nobody c.args.men.now c.args.fewer c.args.from 18446744073709551615 (ap (λ b. man_at b c.args.from) (sym c.bits-bits.ensures.board) ∙ sym c.in_default.ensures)

pub none_from-loop-rest-init : goal.none_from-loop-rest-init
none_from-loop-rest-init t c = record {
  gone = to_begun c.args.men.now c.in-Some.man c.args.fewer c.args.from c.attacked_from.result c.occupied.result 18446744073709551615
      (ap (λ b. man_at b c.args.from) (sym c.bits-bits.ensures.board) ∙ sym c.in-Some.ensures)
      (λ k h. c.attacked_from.ensures k h ∙ ap (λ b. man_attacks b (Some c.in-Some.man) c.args.from k) c.bits-bits.ensures.board)
      (λ k h. c.occupied.ensures k h ∙ ap (λ b. is_some (man_at b k)) c.bits-bits.ensures.board)
      c.occupied.type_inv;
  no_more = omega arith;
}

pub none_from-loop-rest-preserved : goal.none_from-loop-rest-preserved
none_from-loop-rest-preserved t c = record {
  gone = to_step c.args.men.now c.args.fewer c.args.from c.loop-rest.rest c.without_lowest-rest.result c.lowest.result c.loop-rest.none c.none_between-none.result
      (c.without_lowest-rest.ensures.others c.lowest.result c.lowest.ensures) c.loop-rest.invariant.gone
      (subst (λ (s : ℕ). AllFailBetween (against c.args.men.now) c.args.fewer c.args.from s c.none_between-none.result) c.number.ensures.value c.none_between-none.ensures.none);
  no_more = omega arith;
}

pub none_from-returns-clause-none : goal.none_from-returns-clause-none
none_from-returns-clause-none t c = from_all c.args.men.now c.args.fewer c.args.from c.loop-rest.rest c.loop-rest.none (let z = c.loop-rest-test.false in omega arith) c.loop-rest.invariant.gone

pub none-loop-rest-init : goal.none-loop-rest-init
none-loop-rest-init t c = record {
  gone = from_begun c.args.men.now (c.args.moves - 1) c.occupied-rest.result 18446744073709551615
      (λ k h. c.occupied-rest.ensures k h ∙ ap (λ b. is_some (man_at b k)) c.bits.ensures.board);
  no_more = omega arith;
}

pub none-loop-rest-preserved : goal.none-loop-rest-preserved
none-loop-rest-preserved t c = record {
  gone = from_step c.args.men.now (c.args.moves - 1) c.loop-rest.rest c.without_lowest-rest.result c.lowest.result c.loop-rest.none c.none_from-none.result
      (c.without_lowest-rest.ensures.others c.lowest.result c.lowest.ensures) c.loop-rest.invariant.gone
      (subst (λ (s : ℕ). AllFailFrom (against c.args.men.now) (c.args.moves - 1) s c.none_from-none.result) c.number.ensures.value c.none_from-none.ensures.none);
  no_more = omega arith;
}

pub none-returns-clause-none : goal.none-returns-clause-none
none-returns-clause-none t c = none_all c.args.men.now c.args.moves c.loop-rest.rest c.loop-rest.none (let z = c.if-moves-eq0.false in omega arith) (let z = c.loop-rest-test.false in omega arith) c.loop-rest.invariant.gone

pub caught-returns-in_default-clause-fled : goal.caught-returns-in_default-clause-fled
caught-returns-in_default-clause-fled t c = none_fled c.args.men.now c.args.moves

pub caught-loop-rest-init : goal.caught-loop-rest-init
caught-loop-rest-init t c = record {
  fled = none_fled c.args.men.now c.args.moves;
  part = λ k h e. e;
  no_more = omega arith;
}

pub caught-loop-rest-preserved : goal.caught-loop-rest-preserved
caught-loop-rest-preserved t c = record {
  fled = also_fled c.args.men.now c.args.moves c.loop-rest.caught c.caught_at-caught.result c.loop-rest.invariant.fled c.caught_at-caught.ensures.fled;
  part = λ k h e. c.loop-rest.invariant.part k h (and_parts (has c.loop-rest.rest k) (not (k == c.lowest.result)) (sym (c.without_lowest-rest.ensures.others c.lowest.result c.lowest.ensures k h) ∙ e)).0;
  no_more = omega arith;
}

pub caught_at-returns-in_default-clause-fled : goal.caught_at-returns-in_default-clause-fled
caught_at-returns-in_default-clause-fled t c = none_fled c.args.men.now c.args.moves

pub caught_at-returns-then-has-clause-fled : goal.caught_at-returns-then-has-clause-fled
caught_at-returns-then-has-clause-fled t c =
    caught_fled c.args.men.now c.in-Some.rest c.args.moves c.args.square c.king_attacks.result c.net-net.result c.requires.square c.requires.loose c.in-Some.ensures.board c.in-Some.ensures.lone
    c.net-net.ensures.net (sym c.has.ensures ∙ c.if-has.true) c.king_attacks.ensures

pub caught_at-returns-else-has-clause-fled : goal.caught_at-returns-else-has-clause-fled
caught_at-returns-else-has-clause-fled t c = none_fled c.args.men.now c.args.moves

pub net_anew-caught-caught-requires : goal.net_anew-caught-caught-requires
net_anew-caught-caught-requires t c = (
  omega arith,
  loose_safe c.args.men.now c.occupied-occupied.result c.attacked_by-attacked.result (18446744073709551615 - c.sets.result.now.kings) c.attacked_by-attacked.type_inv
      (λ k h. c.attacked_by-attacked.ensures k h ∙ (λ i. is_attacked (c.bits-bits.ensures.board i) k ((c.other.ensures ∙ ap other c.lone.ensures) i))),
)

pub net_anew-returns-clause-net : goal.net_anew-returns-clause-net
net_anew-returns-clause-net t c =
    let free = 18446744073709551615 - bit_or c.occupied-occupied.result c.attacked_by-attacked.result in
    record {
      none = none_among c.args.men.now c.args.moves c.none.result free c.none.ensures.none;
      fled = also_fled c.args.men.now c.args.moves c.near.result c.caught-caught.result
          (near_fled c.args.men.now c.occupied-occupied.result c.attacked_by-attacked.result c.occupied-occupied.type_inv c.attacked_by-attacked.type_inv
          (λ k h. c.occupied-occupied.ensures k h ∙ ap (λ b. is_some (man_at b k)) c.bits-bits.ensures.board)
          (λ k h. c.attacked_by-attacked.ensures k h ∙ (λ i. is_attacked (c.bits-bits.ensures.board i) k ((c.other.ensures ∙ ap other c.lone.ensures) i)))
          c.args.moves c.none.result c.near.result c.none.ensures.none c.near.ensures)
          c.caught-caught.ensures.fled;
      stale = λ k h e. c.stalemates.ensures k h e;
    }
