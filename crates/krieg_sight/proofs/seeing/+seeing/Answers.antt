use Rattle.std.proofs.Common.{◌≡◌, ◌-◌, suc, refl, sym, ap, ◌∙◌, arith}
use Rattle.krieg_sight.proofs.Common.{after, is_mate, leaves_none}
use Rattle.krieg_nets.proofs.Meeting.{fled_not_met}
use Rattle.krieg_sight.proofs.Looking.{item_legal, not_met_at_last, none_mates}
use Rattle.krieg_sight.proofs.seeing.+seeing.Goals as goal

pub each_may_mate-after-requires : goal.each_may_mate-after-requires
each_may_mate-after-requires t c = item_legal c.args.p.now c.args.replies.now c.loop-mv.mv-index c.mv-item.result c.requires c.loop-mv-test.true c.mv-item.is

pub one_may_mate-may_follow-requires : goal.one_may_mate-may_follow-requires
one_may_mate-may_follow-requires t c = (omega arith, item_legal c.args.p.now c.args.tries.now c.loop-mv.mv-index c.mv-item.result c.requires c.loop-mv-test.true c.mv-item.is)

pub may_follow-returns-then-moves-eq0-clause-none : goal.may_follow-returns-then-moves-eq0-clause-none
may_follow-returns-then-moves-eq0-clause-none t c = λ e. not_met_at_last c.args.moves (after c.args.p.now c.args.mv.now) c.if-moves-eq0.true (ap is_mate (sym c.after.ensures.value) ∙ sym c.is_mate.ensures ∙ e)

pub may_follow-returns-else-all_may_mate-clause-none : goal.may_follow-returns-else-all_may_mate-clause-none
may_follow-returns-else-all_may_mate-clause-none t c = λ e. fled_not_met c.args.moves (after c.args.p.now c.args.mv.now) (ap (leaves_none c.args.moves) (sym c.after-next.ensures.value) ∙ c.all_may_mate.ensures.fled e)

pub may_mate_anew-returns-clause-none : goal.may_mate_anew-returns-clause-none
may_mate_anew-returns-clause-none t c = λ e.
    let n : suc (c.args.moves - 1) ≡ c.args.moves = (let z = c.if-moves-eq0.false in omega arith) in
    none_mates (c.args.moves - 1) c.args.moves c.args.p.now c.args.p.now c.as_slice.result.now n refl (c.as_slice.ensures ∙ c.in-Ok.ensures.exact) (c.one_may_mate.ensures.none e)
