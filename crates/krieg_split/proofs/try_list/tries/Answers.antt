use Rattle.std.proofs.Common.{◌++◌, flat_map, ap, sym, subst, ◌∙◌, ◌≡◌, arith}
use Rattle.std.proofs.lemmas.List.{take_all}
use Rattle.krieg_split.proofs.Common.{move_lt, moves, Ascending, move_set}
use Rattle.krieg_split.proofs.TryLists.{set_of_set, moves_ascend, set_more, moves_are_tries}
use Rattle.krieg_split.proofs.try_list.tries.Goals as goal

pub loop-member-init : goal.loop-member-init
unfolding move_set
loop-member-init c = c.new-found.ensures.items

pub add_moves-requires-clause-moves : goal.add_moves-requires-clause-moves
add_moves-requires-clause-moves c = subst (Ascending move_lt) (sym (c.as_slice.ensures ∙ c.in_ok-moves.ensures.exact)) (moves_ascend _)

pub add_moves-requires-clause-found : goal.add_moves-requires-clause-found
add_moves-requires-clause-found c = subst (λ ms. move_set ms ≡ ms) (sym c.loop-member.invariant) (set_of_set _)

pub loop-member-preserved : goal.loop-member-preserved
loop-member-preserved c =
    set_more c.add_moves.new.found.items c.loop-member.found.items c.members-member-items.result.now c.loop-member.member-index c.member-item.result (omega arith) c.member-item.is c.loop-member.invariant
    (c.in_ok-add_moves.ensures ∙ ap (λ ms. move_set (c.loop-member.found.items ++ ms)) (c.as_slice.ensures ∙ c.in_ok-moves.ensures.exact) ∙ ap (λ p. move_set (c.loop-member.found.items ++ moves p)) c.unpack.ensures.value)

pub returns : goal.returns
returns c = λ d.
    c.loop-member.invariant
    ∙ ap (λ ps. move_set (flat_map moves ps)) (take_all c.loop-member.member-index c.members-member-items.result.now (omega arith) ∙ c.members-member-items.ensures.value)
    ∙ moves_are_tries d c.args.b.now
