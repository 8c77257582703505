use Rattle.std.proofs.Common.{map, take}
use Rattle.krieg_judge.proofs.Common.{LinksAdd, key_lt, heard_after, edge_of}
use Rattle.krieg_judge.proofs.meeting.meet_replies.Given as goal

abbrev pub invariant-loop-reply : goal.invariant-loop-reply
invariant-loop-reply l = LinksAdd l.at.dialect key_lt (map edge_of l.at.node.edges.now) l.tried.done l.initial.found l.found (map (heard_after l.at.dialect l.tried.own l.q) (take l.reply-index l.replies))
