use Rattle.std.proofs.Common.{◌≡◌, rules, None, Some, length, map, ap, ◌∙◌, arith}
use Rattle.std.specs.Prelude.{if◌then◌else◌}
use Rattle.krieg_judge.proofs.Common.{heard_after, moves, node_of, outcomes, stalemates, told}
use Rattle.krieg_judge.proofs.NodesMet.{legal_adds, legal_cost}
use Rattle.krieg_judge.proofs.meeting.meet_legal.Goals as goal

pub returns : goal.returns
unfolding outcomes stalemates
returns c =
    let d = c.args.at.now.dialect in
    let p = c.args.p.now in
    let n = node_of c.args.at.now.node in
    let stale : c.is_stalemate_by.result ≡ stalemates p n.mv = search rules in
    let many : c.len.result ≡ length (moves c.args.made.now.position) = search rules in
    let words = c.told.ensures.value ∙ ap (told d) c.requires.words in
    let after = c.requires.position in (
      legal_adds d n c.args.at.now.done c.one_more-done.result p c.args.found.now c.ask.new.self c.meet_replies.new.found c.unless.result (map (heard_after d c.told.result c.args.made.now.position) (moves c.args.made.now.position)) c.one_more-done.ensures c.requires.legal
          (c.unless.ensures ∙ ap (λ b. if b then None else Some c.one_more-done.result) stale) (λ i. map (heard_after d (words i) (after i)) (moves (after i))) c.ask.ensures c.in_ok-meet_replies.ensures,
      omega (arith, legal_cost d n p c.args.made.now.position c.requires.legal after, c.in_ok-take.ensures.1, many),
    )
