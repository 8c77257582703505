use Rattle.std.proofs.Common.{map, ap, ◌∙◌}
use Rattle.krieg_words.specs.ToldWords.{told}
use Rattle.krieg_judge.proofs.Common.{edge_of, first_to, heard_after, key_lt}
use Rattle.krieg_judge.proofs.Adding.{link_by}
use Rattle.krieg_judge.proofs.meeting.meet_reply.Goals as goal

pub returns : goal.returns
returns c =
    let links = map edge_of c.args.at.now.node.edges.now in
    link_by c.args.at.now.dialect key_lt links c.args.tried.now.done c.args.found.now c.lead.new.self (heard_after c.args.at.now.dialect c.args.tried.now.own c.args.q.now c.args.reply) c.find_edge_to-to.result c.pack.result
    (c.find_edge_to-to.ensures ∙ ap (λ w. first_to key_lt links (c.args.tried.now.own, w)) (c.told-heard.ensures.value ∙ ap (told c.args.at.now.dialect) c.make_move-made.ensures.words))
    (c.pack.ensures.value ∙ c.make_move-made.ensures.position) c.in_ok-lead.ensures
