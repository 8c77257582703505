use Rattle.std.proofs.Common.{◌∙◌, sym, ap, ◌&&◌}
use Rattle.krieg_words.proofs.Common.{other, man_at, is_of, is_man, attacks, King}
use Rattle.krieg_rays.proofs.Kings.{one_king_on}
use Rattle.krieg_words.proofs.kinds.kinds_of.Goals as goal

pub king_of-king-requires : goal.king_of-king-requires
king_of-king-requires c = one_king_on c.bits-bits.result.now c.args.p.now c.side-side.result c.bits-bits.ensures.valid c.bits-bits.ensures.value

pub kinds_by-requires-clause-king : goal.kinds_by-requires-clause-king
kinds_by-requires-clause-king c = (λ i. is_man (sym c.side-side.ensures.value i) King (man_at (sym c.bits-bits.ensures.value i) c.king_of-king.result)) ∙ c.king_of-king.ensures.king

pub kinds_by-requires-clause-givers : goal.kinds_by-requires-clause-givers
kinds_by-requires-clause-givers c = λ k h.
    c.attackers_at.ensures k h
    ∙ (λ i. is_of ((c.other-enemy.ensures ∙ ap other c.side-side.ensures.value) i) (man_at (c.bits-bits.ensures.value i) k) && attacks (c.bits-bits.ensures.value i) k c.king_of-king.result)
