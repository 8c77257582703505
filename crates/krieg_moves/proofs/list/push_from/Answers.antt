use Rattle.std.proofs.Common.{◌∙◌, ◌≡◌, ◌++◌, ◌==◌, not, ap, sym, refl, arith, rules}
use Rattle.std.specs.List.{filter}
use Rattle.std.proofs.lemmas.Bool.{and_parts}
use Rattle.krieg_moves.proofs.Common.{has, is_legal, moves_between}
use Rattle.krieg_board.proofs.Picked.{picked, picked_taken, picked_ended}
use Rattle.krieg_moves.proofs.Listing.{picked_from, past_whole, on_err}
use Rattle.krieg_moves.proofs.list.push_from.Goals as goal

pub loop-rest-preserved : goal.loop-rest-preserved
loop-rest-preserved c =
    let others = c.without_lowest-rest.ensures.others c.lowest-to.result c.lowest-to.ensures in
    let pushed : c.push_between.new.moves.items ≡ c.loop-rest.moves.items ++ filter (is_legal c.args.p.now) (moves_between c.args.from c.lowest-to.result) = search rules in (
      c.push_between.ensures.room,
      λ k h e. c.loop-rest.invariant.1 k h (and_parts (has c.loop-rest.rest k) (not (k == c.lowest-to.result)) (sym (others k h) ∙ e)).0,
      picked_taken (λ k. filter (is_legal c.args.p.now) (moves_between c.args.from k)) c.loop-rest.moves.items c.push_between.new.moves.items c.loop-rest.rest c.lowest-to.result
          c.without_lowest-rest.result c.lowest-to.ensures others pushed
          ∙ c.loop-rest.invariant.2,
    )

pub returns-clause-pushed : goal.returns-clause-pushed
returns-clause-pushed c =
    picked_ended (λ k. filter (is_legal c.args.p.now) (moves_between c.args.from k)) c.loop-rest.moves.items c.args.moves.now.items c.loop-rest.rest c.targets-rest.result
    (omega (arith, c.loop-rest-test.false)) c.loop-rest.invariant.2
    ∙ ap (λ xs. c.args.moves.now.items ++ xs) (picked_from c.args.p.now c.targets-rest.result c.args.from c.targets-rest.ensures)

pub returns-in_err-push_between-clause-full : goal.returns-in_err-push_between-clause-full
returns-in_err-push_between-clause-full c =
    let others = c.without_lowest-rest.ensures.others c.lowest-to.result c.lowest-to.ensures in
    on_err c.from_residual.result (past_whole c.loop-rest.moves.items (filter (is_legal c.args.p.now) (moves_between c.args.from c.lowest-to.result))
    (picked c.without_lowest-rest.result (λ k. filter (is_legal c.args.p.now) (moves_between c.args.from k))) _
    c.in_err-push_between.ensures.full
    (picked_taken (λ k. filter (is_legal c.args.p.now) (moves_between c.args.from k)) c.loop-rest.moves.items (c.loop-rest.moves.items ++ filter (is_legal c.args.p.now) (moves_between c.args.from c.lowest-to.result)) c.loop-rest.rest c.lowest-to.result
    c.without_lowest-rest.result c.lowest-to.ensures others refl
    ∙ c.loop-rest.invariant.2
    ∙ ap (λ xs. c.args.moves.now.items ++ xs) (picked_from c.args.p.now c.targets-rest.result c.args.from c.targets-rest.ensures)))
