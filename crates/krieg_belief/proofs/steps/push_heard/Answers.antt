use Rattle.std.proofs.Common.{rules, arith}
use Rattle.krieg_belief.proofs.Heard.{some_more, none_more}
use Rattle.krieg_belief.proofs.steps.push_heard.Goals as goal
use Rattle.krieg_belief.proofs.steps.push_heard.Goals.{in-Some+in_ok-push, in_default}

pub loop-mv-preserved : goal.loop-mv-preserved
loop-mv-preserved c =
    let before = c.loop-mv.out.items in
    let after = c.match-after_told.out.items in
    elim c.match-after_told.branch [
      | in-Some+in_ok-push v ↦ some_more c.args.d c.args.w.now c.args.p.now c.args.moves.now c.loop-mv.mv-index c.mv-item.result c.args.out.now.items before after v.in-Some.next (omega arith) c.mv-item.is c.loop-mv.invariant (search rules) (search rules)
      | in_default v ↦ none_more c.args.d c.args.w.now c.args.p.now c.args.moves.now c.loop-mv.mv-index c.mv-item.result c.args.out.now.items before after (omega arith) c.mv-item.is c.loop-mv.invariant (search rules) (search rules)
    ]
