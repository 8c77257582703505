use Rattle.std.proofs.Common.{◌∙◌, ◌<◌, ◌&&◌, ◌||◌, sym, ap, arith, bit_and}
use Rattle.std.specs.Prelude.{None, slice_set}
use Rattle.std.proofs.Math.Bool.{or-false}
use Rattle.krieg_moves.proofs.Common.{other, man_at, is_of, attacks, Pawn, goes, is_marked, is_answered, is_legal, plain_move}
use Rattle.krieg_board.proofs.SetLemmas.{has_and}
use Rattle.krieg_rays.proofs.Attacking.{pawn_from}
use Rattle.krieg_moves.proofs.Going.{attacks_is}
use Rattle.krieg_moves.proofs.PawnGoing.{free_answered}
use Rattle.krieg_moves.proofs.Shapes.{found_man}
use Rattle.krieg_moves.proofs.target.free_captures.Goals as goal

pub returns : goal.returns
returns c = λ t h.
    let p = c.args.p.now in
    let from = c.args.from in
    let attacked = bit_and c.pawn_attacks.result c.men_of.result in
    let below : from < 64 = omega (arith, c.number.ensures.value, c.number.ensures.below) in
    let (man, is, own, pawn) = found_man p.side Pawn (man_at p.board from) c.requires.free.pawn in
    let captured = (attacks p.board from t && is_of (other p.side) (man_at p.board t)) && is_answered (slice_set p.board from None) (other p.side) c.args.guard.now.king t in
    has_and attacked c.args.guard.now.answers t
    ∙ (λ i. (has_and c.pawn_attacks.result c.men_of.result t
    ∙ (λ n. (c.pawn_attacks.ensures t h ∙ (λ k. goes Pawn ((c.side-side.ensures.value ∙ sym own) k) (c.number.ensures.value k) t)
    ∙ pawn_from p.board man from t pawn ∙ sym (attacks_is p from t man is)) n
    && (c.men_of.ensures t h ∙ (λ k. is_of ((c.other-by.ensures ∙ ap other c.side-side.ensures.value) k) (man_at (c.bits.ensures.value k) t))) n)) i
    && free_answered p c.args.guard.now from t c.side-side.ensures.valid c.requires.guard below h c.requires.free.pawn c.requires.free.free i)
    ∙ sym (or-false captured)
    ∙ ap (λ m. captured || (is_marked m t && (attacks p.board from t && is_legal p (plain_move from t)))) (sym c.requires.free.unmarked)
