use Rattle.std.proofs.Common.{map, arith}
use Rattle.krieg_judge.proofs.Common.{edge_of, heard_after, key_lt}
use Rattle.krieg_judge.proofs.Adding.{links_step, links_all}
use Rattle.krieg_judge.proofs.meeting.meet_replies.Goals as goal

pub loop-reply-preserved : goal.loop-reply-preserved
loop-reply-preserved c =
    links_step c.args.at.now.dialect key_lt (map edge_of c.args.at.now.node.edges.now) c.args.tried.now.done (heard_after c.args.at.now.dialect c.args.tried.now.own c.args.q.now) c.args.found.now c.loop-reply.found c.meet_reply.new.found
    c.args.replies.now c.loop-reply.reply-index c.reply-item.result c.loop-reply-test.true c.reply-item.is c.loop-reply.invariant c.in_ok-meet_reply.ensures

pub returns : goal.returns
returns c =
    links_all c.args.at.now.dialect key_lt (map edge_of c.args.at.now.node.edges.now) c.args.tried.now.done (heard_after c.args.at.now.dialect c.args.tried.now.own c.args.q.now) c.args.found.now c.loop-reply.found
    c.args.replies.now _ c.loop-reply.reply-index (omega arith) c.requires c.loop-reply.invariant
