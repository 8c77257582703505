use Rattle.std.proofs.Common.{◌≡◌, ◌≤◌, List, filter, [], map, length, take, drop, ap, ◌∙◌, arith}
use Rattle.std.proofs.lemmas.List.{take_all, take-append-le, length-map, length-take}
use Rattle.krieg_split.proofs.Common.{Pos, is_legal, Wild16, chess, tally_of, MemberMoves, Tally}
use Rattle.krieg_theory.specs.Split as theory
use Rattle.krieg_split.proofs.Tallying.{listed_at, tallied_more, tallied_moves, moves_of_tries, room_for_more}
use Rattle.krieg_split.proofs.tallies.tally_tries.Goals as goal

pub loop-member-init : goal.loop-member-init
loop-member-init c = c.in_ok-tallies.ensures ∙ ap (map (tally_of [])) c.deref-2.ensures.value

pub add_member-requires-clause-moves : goal.add_member-requires-clause-moves
add_member-requires-clause-moves c = c.as_slice.ensures ∙ c.member-item.result.exact

pub add_member-requires-clause-tries : goal.add_member-requires-clause-tries
add_member-requires-clause-tries c =
    let B = c.args.b.now in
    let i = c.loop-member.member-index in
    let p = c.member-item.result.position in
    let members = c.in_ok-members.ensures ∙ c.members.ensures.value in
    let at = listed_at c.deref-member-items.result.now B i c.member-item.result (ap (map (λ (m : MemberMoves). m.position)) c.deref-member-items.ensures.value ∙ members) c.loop-member-test.true c.member-item.is in
    ap (λ ys. filter (is_legal p) (map (λ (y : Tally). y.mv) ys)) (c.deref_mut.ensures.value ∙ c.loop-member.invariant)
    ∙ ap (filter (is_legal p)) (tallied_moves (take i B) c.in_ok-tries.tries.items ∙ c.in_ok-tries.ensures Wild16 ∙ ap (λ ls. theory.tries (chess Wild16) (map (λ (m : MemberMoves). m.position) ls)) c.deref.ensures.value ∙ ap (theory.tries (chess Wild16)) members)
    ∙ moves_of_tries Wild16 B i p at.0 at.1

pub add_member-requires-clause-room : goal.add_member-requires-clause-room
add_member-requires-clause-room c = room_for_more (take c.loop-member.member-index c.args.b.now) c.in_ok-tries.tries.items c.deref_mut.result.now (let l = length-take c.loop-member.member-index c.args.b.now in omega (arith, c.requires)) (c.deref_mut.ensures.value ∙ c.loop-member.invariant)

pub loop-member-preserved : goal.loop-member-preserved
loop-member-preserved c =
    let B = c.args.b.now in
    let i = c.loop-member.member-index in
    let len = c.loop-member.tallies.len in
    let new = c.add_member.new.tallies in
    let long : len ≡ length new = omega (arith, c.add_member.auto.tallies, c.deref_mut.ensures.len) in
    let members = c.in_ok-members.ensures ∙ c.members.ensures.value in
    let at = listed_at c.deref-member-items.result.now B i c.member-item.result (ap (map (λ (m : MemberMoves). m.position)) c.deref-member-items.ensures.value ∙ members) c.loop-member-test.true c.member-item.is in
    take-append-le len new (drop (length new) c.loop-member.tallies.items) (omega arith)
    ∙ take_all len new (omega arith)
    ∙ tallied_more B i c.member-item.result.position c.in_ok-tries.tries.items c.deref_mut.result.now new at.0 at.1 (c.deref_mut.ensures.value ∙ c.loop-member.invariant) c.add_member.ensures

pub returns : goal.returns
returns c = λ d.
    let B = c.args.b.now in
    let position = λ (m : MemberMoves). m.position in
    let members = c.in_ok-members.ensures ∙ c.members.ensures.value in
    let past : length B ≤ c.loop-member.member-index = (let n = ap length members in let m = length-map c.in_ok-members.members.items position in let e = ap length c.deref-member-items.ensures.value in let l = c.loop-member-test.false in omega arith) in
    c.loop-member.invariant
    ∙ ap (λ (C : List Pos). map (tally_of C) c.in_ok-tries.tries.items) (take_all c.loop-member.member-index B past)
    ∙ ap (map (tally_of B)) (c.in_ok-tries.ensures d ∙ ap (λ ls. theory.tries (chess d) (map position ls)) c.deref.ensures.value ∙ ap (theory.tries (chess d)) members)
