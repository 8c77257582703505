use Rattle.std.proofs.Common.{◌≡◌, refl, subst, ◌∙◌}
use Rattle.krieg_game.proofs.Common.{In, Said, Dialect, KeyedPosition, outcome, told}
use Rattle.krieg_game.specs.Steps.{AreFor, told_before}
use Rattle.krieg_game.proofs.Pools.{grown_has, grown_keeps, has_again, holds_one}
use Rattle.krieg_game.proofs.Stepping.{reached_still}
use Rattle.krieg_game.proofs.pool.add_replies.Goals as goal

pub loop-r-preserved-then-has : goal.loop-r-preserved-then-has
loop-r-preserved-then-has c =
    let i = c.loop-r.invariant in
    let p = c.args.p.now in
    let r = c.r-item.result in
    let kept = c.loop-r.kept in (
      i.0,
      i.1,
      λ d own e. holds_one (outcome d own p) kept kept c.args.kept.now c.args.replies.now c.loop-r.r-index r (outcome d own p r) c.loop-r-test.true c.r-item.is refl
          (has_again kept (outcome d own p r) (c.has.ensures c.if-has.true d own p kept (subst (λ b. AreFor c.loop-r.steps b p) e i.0) i.1)) (i.2 d own e),
    )

pub loop-r-preserved : goal.loop-r-preserved
loop-r-preserved c =
    let i = c.loop-r.invariant in
    let p = c.args.p.now in
    let r = c.r-item.result in
    let old = c.loop-r.kept in
    let new = c.put.new.self in
    let o : KeyedPosition = (c.new.result, c.pack.result) in
    let b = c.args.before.now in
    let heard = c.new.ensures ∙ (λ j. (b.own, c.told-reply.ensures.value j)) in
    let made : (d : Dialect) (own : Said) → b ≡ told_before d own → o ≡ outcome d own p r = λ d own e.
    (λ j. (heard j, c.pack.ensures.value j)) ∙ (λ j. (((e j).own, told (e j).dialect (c.make_move-made.ensures.words j)), c.make_move-made.ensures.position j)) in
    let w = c.requires.told in (
      c.note.ensures.are b i.0,
      c.note.ensures.reached w.0 w.1 new (subst (λ x. AreFor c.loop-r.steps x p) w.2 i.0) (subst (λ x. In x new) (made w.0 w.1 w.2) (grown_has new old o c.in_ok-put.ensures))
          (reached_still c.loop-r.steps old new (λ x h. grown_keeps new old o x c.in_ok-put.ensures h) i.1),
      λ d own e. holds_one (outcome d own p) new old c.args.kept.now c.args.replies.now c.loop-r.r-index r o c.loop-r-test.true c.r-item.is (made d own e) c.in_ok-put.ensures (i.2 d own e),
    )
