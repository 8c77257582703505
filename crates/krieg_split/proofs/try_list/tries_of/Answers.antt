use Rattle.std.proofs.Common.{◌≡◌, ◌≤◌, ◌++◌, map, length, flat_map, refl, ap, sym, subst, ◌∙◌}
use Rattle.std.proofs.lemmas.List.{take_all, length-map}
use Rattle.krieg_split.proofs.Common.{move_lt, moves, Ascending, move_set, MemberMoves}
use Rattle.krieg_split.proofs.TryLists.{set_of_set, moves_ascend, set_more, moves_are_tries}
use Rattle.krieg_split.proofs.Tallying.{listed_at}
use Rattle.krieg_split.proofs.try_list.tries_of.Goals as goal

pub loop-member-init : goal.loop-member-init
unfolding move_set
loop-member-init c = c.new-found.ensures.items

pub add_moves-requires-clause-moves : goal.add_moves-requires-clause-moves
add_moves-requires-clause-moves c = subst (Ascending move_lt) (sym (c.as_slice.ensures ∙ c.member-item.result.exact)) (moves_ascend _)

pub add_moves-requires-clause-found : goal.add_moves-requires-clause-found
add_moves-requires-clause-found c = subst (λ ms. move_set ms ≡ ms) (sym c.loop-member.invariant) (set_of_set _)

pub loop-member-preserved : goal.loop-member-preserved
loop-member-preserved c =
    let ls = c.args.members.now in
    let m = c.member-item.result in
    let i = c.loop-member.member-index in
    let at = listed_at ls (map (λ (m : MemberMoves). m.position) ls) i m refl c.loop-member-test.true c.member-item.is in
    set_more c.add_moves.new.found.items c.loop-member.found.items (map (λ (m : MemberMoves). m.position) ls) i m.position at.0 at.1 c.loop-member.invariant
    (c.in_ok-add_moves.ensures ∙ ap (λ ms. move_set (c.loop-member.found.items ++ ms)) (c.as_slice.ensures ∙ m.exact))

pub returns : goal.returns
returns c = λ d.
    let ps = map (λ (m : MemberMoves). m.position) c.args.members.now in
    let past : length ps ≤ c.loop-member.member-index = rw length-map c.loop-member-test.false in
    c.loop-member.invariant ∙ ap (λ ps. move_set (flat_map moves ps)) (take_all c.loop-member.member-index ps past) ∙ moves_are_tries d ps
