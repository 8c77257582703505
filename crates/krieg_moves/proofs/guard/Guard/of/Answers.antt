use Rattle.std.proofs.Common.{◌∙◌, ◌≡◌, ℕ, ◌<◌, sym, ◌&&◌}
use Rattle.krieg_moves.proofs.Common.{other, attacks, man_at, is_of, is_man, has, King, is_pinned}
use Rattle.krieg_moves.proofs.AnswerSets.{answered_by_set}
use Rattle.krieg_moves.proofs.Kings.{one_king, one_king_found}
use Rattle.krieg_moves.proofs.guard.Guard.of.Goals as goal
use Rattle.krieg_moves.proofs.guard.Guard.of.Goals.{After-answers_to}

pub king_of-king-requires : goal.king_of-king-requires
king_of-king-requires c =
    one_king_found c.args.p.now.board c.bits-bits.result.now c.args.p.now.side c.side-side.result c.bits-bits.ensures.value c.side-side.ensures.value
    (one_king c.args.p.now c.side-side.ensures.valid c.args.p.now.side)

pub king_lines-lines-requires-clause-alone : goal.king_lines-lines-requires-clause-alone
king_lines-lines-requires-clause-alone c =
    one_king_found c.args.p.now.board c.bits-bits.result.now c.args.p.now.side c.side-side.result c.bits-bits.ensures.value c.side-side.ensures.value
    (one_king c.args.p.now c.side-side.ensures.valid c.args.p.now.side)

checkers : (c : After-answers_to) → (k : ℕ) → k < 64 →
    has c.king_lines-lines.result.checkers k ≡ (is_of (other c.args.p.now.side) (man_at c.args.p.now.board k) && attacks c.args.p.now.board k c.king_of-king.result)
checkers c k h =
    c.king_lines-lines.ensures.checkers k h
    ∙ (λ i. is_of (other (c.side-side.ensures.value i)) (man_at (c.bits-bits.ensures.value i) k) && attacks (c.bits-bits.ensures.value i) k c.king_of-king.result)

pub returns : goal.returns
returns c = record {
  inside = c.king_of-king.ensures.below;
  king = (λ i. is_man (sym c.side-side.ensures.value i) King (man_at (sym c.bits-bits.ensures.value i) c.king_of-king.result)) ∙ c.king_of-king.ensures.king;
  checkers = checkers c;
  pinned = λ k h. c.king_lines-lines.ensures.pinned k h ∙ (λ i. is_pinned (c.bits-bits.ensures.value i) (c.side-side.ensures.value i) k);
  answers = λ t h. c.answers_to.ensures t h ∙ answered_by_set c.args.p.now.board (other c.args.p.now.side) c.king_lines-lines.result.checkers c.king_of-king.result t (checkers c);
}
