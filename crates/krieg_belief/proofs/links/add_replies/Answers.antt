use Rattle.std.proofs.Common.{rules, ◌+◌, length, ◌∷◌, [], List, Bool, sym, subst, map, filter, take, arith}
use Rattle.krieg_belief.proofs.Common.{are_told, Adds, tale_of, kept, Tale, after_reply, begun}
use Rattle.krieg_belief.proofs.Adding.{adds_then, reply_new, reply_there, reply_none, replies_more}
use Rattle.krieg_belief.proofs.links.add_replies.Goals as goal
use Rattle.krieg_belief.proofs.links.add_replies.Goals.{in-Some+in_ok-add+then-branch+in_ok-push, in-Some+in_ok-add+else-branch, in_default}

pub loop-mv-preserved : goal.loop-mv-preserved
loop-mv-preserved c =
    let ps = c.args.setting.now.starts in
    let a = c.args.links.now.items in
    let b = c.loop-mv.links.items in
    let ea = c.args.tales.now.entries in
    let eb = c.loop-mv.tales.entries in
    let links = c.match-after_told.links.items in
    let entries = c.match-after_told.tales.entries in
    let told : _ → Bool = are_told c.args.setting.now.dialect c.args.w.now c.args.game.stands in
    let x : Tale = tale_of (kept (map begun ps) a) (c.args.game.stands, c.args.game.number) in
    let m = c.mv-item.result in
    subst (λ (ys : List Tale). Adds ps a links ea entries ys) (sym (replies_more told x c.args.moves.now c.loop-mv.mv-index m (omega arith) c.mv-item.is))
    (adds_then ps a b links ea eb entries (map (after_reply x) (filter told (take c.loop-mv.mv-index c.args.moves.now))) (map (after_reply x) (filter told (m ∷ []))) c.loop-mv.invariant
    (elim c.match-after_told.branch [
      | in-Some+in_ok-add+then-branch+in_ok-push v ↦ reply_new ps c.args.setting.now.dialect c.args.w.now c.args.game.stands m a b eb c.args.game.number c.loop-mv.invariant.more c.loop-mv.invariant.are_kept c.requires.number v.in-Some.next links entries (length v.members.result.now + v.len.result) (search rules) (search rules) (search rules) (search rules)
      | in-Some+in_ok-add+else-branch v ↦ reply_there ps c.args.setting.now.dialect c.args.w.now c.args.game.stands m a b eb c.args.game.number c.loop-mv.invariant.more c.loop-mv.invariant.are_kept c.requires.number v.in-Some.next links entries (length v.members.result.now + v.len.result) (search rules) (search rules) (search rules) (search rules)
      | in_default v ↦ reply_none ps c.args.setting.now.dialect c.args.w.now c.args.game.stands m a b eb c.args.game.number c.loop-mv.invariant.more c.loop-mv.invariant.are_kept c.requires.number links entries (search rules) (search rules) (search rules)
    ]))
