use Rattle.std.proofs.Common.{◌∙◌, ◌≡◌, ◌+◌, ◌-◌, ◌*◌, ◌&&◌, ◌==◌, ℕ, ◌<◌, not, refl, sym, ap, arith, bit_and}
use Rattle.std.proofs.lemmas.Nat.{and_le_l}
use Rattle.std.specs.Prelude.{Option, Some, None, is_some, is_none}
use Rattle.krieg_moves.proofs.Common.{other, man_at, is_of, is_empty, has, rank_of, last_rank, Man, is_legal, moves_from, moves_of, ways}
use Rattle.krieg_board.proofs.SetLemmas.{has_and, has_not}
use Rattle.std.specs.List.{filter}
use Rattle.krieg_board.proofs.Picked.{picked}
use Rattle.krieg_moves.proofs.Counting.{counted_ended}
use Rattle.krieg_moves.proofs.FreePawns.{counted_free_pawns}
use Rattle.krieg_moves.proofs.count.count_of_free_pawns.Goals as goal

not_some : (x : Option Man) → not (is_some x) ≡ is_none x
not_some None = refl
not_some (Some m) = refl

emptied : (c : goal.After-count_ways-2) (t : ℕ) → t < 64 → has (18446744073709551615 - c.occupied-empty.result) t ≡ is_empty c.args.p.now.board t
emptied c t h =
    has_not c.occupied-empty.result t c.occupied-empty.type_inv h
    ∙ ap not (c.occupied-empty.ensures t h ∙ (λ i. is_some (man_at (c.bits-bits.ensures.value i) t)))
    ∙ not_some (man_at c.args.p.now.board t)

pub returns-then-pawns-eq0 : goal.returns-then-pawns-eq0
unfolding moves_of picked
returns-then-pawns-eq0 c = sym (counted_ended (λ k. filter (is_legal c.args.p.now) (moves_from k)) c.args.pawns c.if-pawns-eq0.true)

pub returns : goal.returns
returns c =
    let p = c.args.p.now in
    let answers = c.args.guard.now.answers in
    let empty = 18446744073709551615 - c.occupied-empty.result in
    let steps = bit_and empty answers in
    let captures = bit_and c.men_of.result answers in
    let last = c.last_rank_squares-last.result in
    (λ i. c.count_ways.ensures.value i + 3 * c.count_ways-2.ensures.value i)
    ∙ (λ i. ways (c.side-side.ensures.value i) c.args.pawns empty steps captures + 3 * ways (c.side-side.ensures.value i) c.args.pawns empty (bit_and steps last) (bit_and captures last))
    ∙ counted_free_pawns p c.args.guard.now c.args.pawns empty steps captures last c.side-side.ensures.valid c.requires.guard
    (omega (arith, and_le_l empty answers)) (omega (arith, and_le_l c.men_of.result answers, c.men_of.type_inv)) c.requires.pawns
    (emptied c)
    (λ t h. has_and empty answers t ∙ ap (λ x. x && has answers t) (emptied c t h))
    (λ t h. has_and c.men_of.result answers t
    ∙ ap (λ x. x && has answers t) (c.men_of.ensures t h ∙ (λ i. is_of ((c.other-by.ensures ∙ ap other c.side-side.ensures.value) i) (man_at (c.bits-bits.ensures.value i) t))))
    (λ t h. c.last_rank_squares-last.ensures t h ∙ ap (λ side. rank_of t == last_rank side) c.side-side.ensures.value)
