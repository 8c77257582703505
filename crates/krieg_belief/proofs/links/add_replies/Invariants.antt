use Rattle.std.proofs.Common.{map, take, filter}
use Rattle.krieg_belief.proofs.Common.{are_told, Adds, tale_of, kept, after_reply, begun}
use Rattle.krieg_belief.proofs.links.add_replies.Given as goal

abbrev pub invariant-loop-mv : goal.invariant-loop-mv
invariant-loop-mv l =
    Adds l.setting.starts l.fn.links.items l.links.items l.fn.tales.entries l.tales.entries
    (map (after_reply (tale_of (kept (map begun l.setting.starts) l.fn.links.items) (l.game.stands, l.game.number))) (filter (are_told l.setting.dialect l.w l.game.stands) (take l.mv-index l.moves)))
