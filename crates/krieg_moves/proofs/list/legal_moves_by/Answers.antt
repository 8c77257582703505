use Rattle.std.proofs.Common.{◌∙◌, ◌≡◌, ◌++◌, List, ap, refl, sym, subst, arith, rules}
use Rattle.std.specs.List.{filter}
use Rattle.std.specs.List.Sorted.{IsStrictlySortedBy}
use Rattle.krieg_moves.proofs.Common.{man_at, is_of, move_cmp, Move, is_legal, moves_from, moves}
use Rattle.krieg_board.proofs.Picked.{picked, picked_taken, picked_ended}
use Rattle.krieg_moves.proofs.Ascending.{moves_ascend}
use Rattle.krieg_moves.proofs.Listing.{picked_men, past_whole, on_err}
use Rattle.krieg_moves.proofs.list.legal_moves_by.Goals as goal

pub loop-rest-preserved : goal.loop-rest-preserved
loop-rest-preserved c =
    let others = c.without_lowest-rest.ensures.others c.lowest-from.result c.lowest-from.ensures in
    let pushed : c.push_from.new.moves.items ≡ c.loop-rest.moves.items ++ filter (is_legal c.args.p.now) (moves_from c.lowest-from.result) = search rules in (
      c.push_from.ensures.room,
      picked_taken (λ k. filter (is_legal c.args.p.now) (moves_from k)) c.loop-rest.moves.items c.push_from.new.moves.items c.loop-rest.rest c.lowest-from.result
          c.without_lowest-rest.result c.lowest-from.ensures others pushed
          ∙ c.loop-rest.invariant.1,
    )

pub returns-clause-exact : goal.returns-clause-exact
unfolding moves
returns-clause-exact c =
    picked_ended (λ k. filter (is_legal c.args.p.now) (moves_from k)) c.loop-rest.moves.items c.new-moves.result.items c.loop-rest.rest c.men_of-rest.result
    (omega (arith, c.loop-rest-test.false)) c.loop-rest.invariant.1
    ∙ ap (λ (xs : List Move). xs ++ picked c.men_of-rest.result (λ k. filter (is_legal c.args.p.now) (moves_from k))) c.new-moves.ensures.items
    ∙ picked_men c.args.p.now c.men_of-rest.result (λ k h. c.men_of-rest.ensures k h ∙ (λ i. is_of (c.side.ensures.value i) (man_at (c.bits.ensures.value i) k)))

pub returns-clause-ascending : goal.returns-clause-ascending
returns-clause-ascending c = subst (λ (ms : List Move). IsStrictlySortedBy move_cmp ms) (sym (returns-clause-exact c)) (moves_ascend c.args.p.now)

pub returns-in_err-push_from-clause-few : goal.returns-in_err-push_from-clause-few
unfolding moves
returns-in_err-push_from-clause-few c =
    let others = c.without_lowest-rest.ensures.others c.lowest-from.result c.lowest-from.ensures in
    on_err c.from_residual.result (past_whole c.loop-rest.moves.items (filter (is_legal c.args.p.now) (moves_from c.lowest-from.result))
    (picked c.without_lowest-rest.result (λ k. filter (is_legal c.args.p.now) (moves_from k))) _
    c.in_err-push_from.ensures.full
    (picked_taken (λ k. filter (is_legal c.args.p.now) (moves_from k)) c.loop-rest.moves.items (c.loop-rest.moves.items ++ filter (is_legal c.args.p.now) (moves_from c.lowest-from.result)) c.loop-rest.rest c.lowest-from.result
    c.without_lowest-rest.result c.lowest-from.ensures others refl
    ∙ c.loop-rest.invariant.1
    ∙ ap (λ (xs : List Move). xs ++ picked c.men_of-rest.result (λ k. filter (is_legal c.args.p.now) (moves_from k))) c.new-moves.ensures.items
    ∙ picked_men c.args.p.now c.men_of-rest.result (λ k h. c.men_of-rest.ensures k h ∙ (λ i. is_of (c.side.ensures.value i) (man_at (c.bits.ensures.value i) k)))))
