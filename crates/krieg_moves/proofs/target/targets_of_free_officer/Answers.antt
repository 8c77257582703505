use Rattle.std.proofs.Common.{◌∙◌, ◌≡◌, ◌<◌, ◌&&◌, not, sym, ap, bit_and, ◌-◌, arith, true}
use Rattle.std.specs.Prelude.{Some, None, slice_set}
use Rattle.krieg_moves.proofs.Common.{other, is_same_side, man_at, is_of, man_attacks, is_answered}
use Rattle.krieg_board.proofs.Facts.{facts}
use Rattle.krieg_board.proofs.MenLemmas.{same_side_self}
use Rattle.krieg_board.proofs.SetLemmas.{has_and, has_not}
use Rattle.krieg_moves.proofs.Answering.{unpinned_answered}
use Rattle.krieg_moves.proofs.Going.{officer_goes}
use Rattle.krieg_moves.proofs.Movers.{not_enemy}
use Rattle.krieg_moves.proofs.target.targets_of_free_officer.Goals as goal

pub returns : goal.returns
returns c = λ t h.
    let p = c.args.p.now in
    let from = c.args.from in
    let king = c.args.guard.now.king in
    let below : from < 64 = omega (arith, c.number.ensures.value, c.number.ensures.below) in
    let own : is_of p.side (man_at p.board from) ≡ true = ap (is_of p.side) c.requires.man ∙ ap (λ s. is_same_side s p.side) c.requires.own ∙ same_side_self p.side in
    let attacked = bit_and c.attacked_from-attacked.result (18446744073709551615 - c.men_of.result) in
    has_and attacked c.args.guard.now.answers t
    ∙ (λ i. has_and c.attacked_from-attacked.result (18446744073709551615 - c.men_of.result) t i
    && (c.requires.guard.answers t h
    ∙ sym (unpinned_answered p.board p.side king from t (facts p c.side-side.ensures.valid).squares c.requires.guard.inside below c.requires.guard.king own
    (not_enemy p.side (man_at p.board from) own) c.requires.free)) i)
    ∙ (λ i. ((c.attacked_from-attacked.ensures t h ∙ (λ j. man_attacks (c.bits-bits.ensures.value j) (Some c.args.man) (c.number.ensures.value j) t)) i
    && (has_not c.men_of.result t c.men_of.type_inv h ∙ ap not (c.men_of.ensures t h ∙ (λ j. is_of (c.side-side.ensures.value j) (man_at (c.bits-bits.ensures.value j) t)))) i)
    && is_answered (slice_set p.board from None) (other p.side) king t)
    ∙ officer_goes p from t king c.args.man c.side-side.ensures.valid below h c.requires.guard.inside c.requires.guard.king c.requires.man c.requires.own c.requires.officer
