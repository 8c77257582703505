use Rattle.std.proofs.Common.{◌≡◌, ℕ, ◌<◌, ◌∙◌, Bool, true, false, ◌&&◌, ◌||◌, ◌==◌, ◌-◌, ◌+◌, ◌*◌, not, refl, sym, ap, bit_and, bit_or, arith}
use Rattle.std.specs.Prelude.{Some, None, is_some, count_ones, slice_set}
use Rattle.std.proofs.lemmas.Nat.{and_le_l, or_lt}
use Rattle.krieg_moves.proofs.Common.{other, has, rank_of, last_rank, man_at, is_of, is_man, is_kind, is_attacked, Pawn, King, White, goes, ways}
use Rattle.krieg_board.proofs.MenLemmas.{kind_side}
use Rattle.krieg_board.proofs.SetLemmas.{has_and, has_or, has_not}
use Rattle.krieg_moves.proofs.LoneKings.{to_off}
use Rattle.krieg_moves.proofs.PawnReplies.{quiet_replies}
use Rattle.krieg_moves.proofs.replies.count_if_quiet.Goals as goal

pub attacked_behind-attacked-requires-clause-apart : goal.attacked_behind-attacked-requires-clause-apart
attacked_behind-attacked-requires-clause-apart c = λ e.
    to_off c.args.p.now c.args.mv.now c.args.man c.args.king c.know_valid.ensures c.requires.man c.requires.legal c.requires.pawns.stands
    (omega (arith, c.number-king.ensures.value, c.number-to.ensures.value, e))

apart_and : (a b d : Bool) → (a && (b && d)) ≡ ((a && b) && d)
apart_and true b d = refl
apart_and false b d = refl

pub returns : goal.returns
returns c =
    let p = c.args.p.now in
    let m = c.args.mv.now in
    let all : ℕ = 18446744073709551615 in
    let men = bit_and c.men_of.result (all - c.only.result) in
    let pawns = bit_and c.sets.result.now.pawns men in
    let stay = bit_and c.occupied.result (all - c.only-2.result) in
    let occupied = bit_or stay c.only-3.result in
    let empty = all - occupied in
    let own = bit_and c.men_of-2.result (all - c.only-4.result) in
    let captures = bit_or own c.only-5.result in
    let last = c.last_rank_squares-last.result in
    let near = bit_and c.king_attacks.result (all - men) in
    let steps = bit_and near (all - c.attacked_behind-attacked.result) in
    let by_is = c.other-by.ensures ∙ ap other c.side.ensures.value in
    let inside : c.args.king < 64 = omega (arith, c.number-king.ensures.value, c.number-king.ensures.below) in
    let attack_is = λ (t : ℕ) (h : t < 64).
    c.attacked_behind-attacked.ensures t h
    ∙ (λ i. is_attacked (slice_set (slice_set (slice_set (c.bits-bits.ensures.value i) (c.number-from.ensures.value i) None) (c.number-to.ensures.value i) (Some (c.placed-man.ensures i))) (c.number-king.ensures.value i) None) t (c.placed-man.ensures i).side) in
    let men_is = λ (k : ℕ) (h : k < 64).
    has_and c.men_of.result (all - c.only.result) k
    ∙ (λ i. (c.men_of.ensures k h ∙ (λ j. is_of (by_is j) (man_at (c.bits-bits.ensures.value j) k))) i && (has_not c.only.result k c.only.type_inv h ∙ ap not (c.only.ensures k h ∙ ap (λ x. k == x) c.number-to.ensures.value)) i) in
    (λ i. count_ones steps + (c.count_ways-ways.ensures.value i + 3 * c.count_ways-promotions.ensures.value i))
    ∙ (λ i. count_ones steps + (ways (by_is i) pawns empty empty captures + 3 * ways (by_is i) pawns empty (bit_and empty last) (bit_and captures last)))
    ∙ quiet_replies p m c.args.man c.args.king c.know_valid.ensures c.requires.man c.requires.legal c.requires.pawns inside c.requires.single c.requires.officer
    (sym (attack_is c.args.king inside) ∙ ap (has c.attacked_behind-attacked.result) (sym c.number-king.ensures.value) ∙ sym c.has.ensures ∙ c.if-has.false)
    (λ b e who other_is one is k h. c.may_pin_behind.ensures c.if-may_pin_behind.false b
    (e ∙ (λ i. slice_set (slice_set (sym c.bits-bits.ensures.value i) (sym c.number-from.ensures.value i) None) (sym c.number-to.ensures.value i) (Some (sym c.placed-man.ensures i))))
    who (other_is ∙ sym (ap (λ x. x.side) c.placed-man.ensures)) one (ap (λ s. is_man who King (man_at b s)) c.number-king.ensures.value ∙ is) k h)
    pawns men empty captures last steps
    (omega arith)
    (or_lt 64 own c.only-5.result (omega (arith, and_le_l c.men_of-2.result (all - c.only-4.result), c.men_of-2.type_inv)) c.only-5.type_inv)
    (omega (arith, and_le_l near (all - c.attacked_behind-attacked.result), and_le_l c.king_attacks.result (all - men), c.king_attacks.type_inv))
    (λ k h. has_and c.sets.result.now.pawns men k
    ∙ (λ i. (c.sets.ensures.pawns k h ∙ (λ j. is_kind Pawn (man_at (c.bits-bits.ensures.value j) k))) i && men_is k h i)
    ∙ apart_and (is_kind Pawn (man_at p.board k)) (is_of (other p.side) (man_at p.board k)) (not (k == m.to))
    ∙ ap (λ x. x && not (k == m.to)) (kind_side Pawn (other p.side) (man_at p.board k)))
    men_is
    (λ t h. has_not occupied t (or_lt 64 stay c.only-3.result (omega (arith, and_le_l c.occupied.result (all - c.only-2.result), c.occupied.type_inv)) c.only-3.type_inv) h
    ∙ ap not (has_or stay c.only-3.result t
    ∙ (λ i. (has_and c.occupied.result (all - c.only-2.result) t
    ∙ (λ j. (c.occupied.ensures t h ∙ (λ n. is_some (man_at (c.bits-bits.ensures.value n) t))) j && (has_not c.only-2.result t c.only-2.type_inv h ∙ ap not (c.only-2.ensures t h ∙ ap (λ x. t == x) c.number-from.ensures.value)) j)) i
    || (c.only-3.ensures t h ∙ ap (λ x. t == x) c.number-to.ensures.value) i)))
    (λ t h. has_or own c.only-5.result t
    ∙ (λ i. (has_and c.men_of-2.result (all - c.only-4.result) t
    ∙ (λ j. (c.men_of-2.ensures t h ∙ (λ n. is_of (c.side-2.ensures.value n) (man_at (c.bits-bits.ensures.value n) t))) j && (has_not c.only-4.result t c.only-4.type_inv h ∙ ap not (c.only-4.ensures t h ∙ ap (λ x. t == x) c.number-from.ensures.value)) j)) i
    || (c.only-5.ensures t h ∙ ap (λ x. t == x) c.number-to.ensures.value) i))
    (λ t h. c.last_rank_squares-last.ensures t h ∙ ap (λ s. rank_of t == last_rank s) by_is)
    (λ t h. has_and near (all - c.attacked_behind-attacked.result) t
    ∙ (λ i. (has_and c.king_attacks.result (all - men) t ∙ (λ j. (c.king_attacks.ensures t h ∙ ap (λ x. goes King White x t) c.number-king.ensures.value) j && has_not men t (omega (arith, and_le_l c.men_of.result (all - c.only.result), c.men_of.type_inv)) h j)) i
    && (has_not c.attacked_behind-attacked.result t c.attacked_behind-attacked.type_inv h ∙ ap not (attack_is t h)) i))
