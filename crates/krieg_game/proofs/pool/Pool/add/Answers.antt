use Rattle.krieg_game.proofs.OutcomeSets.{same_in}
use Rattle.krieg_game.proofs.Stepping.{reached_still}
use Rattle.krieg_game.proofs.pool.Pool.add.Goals as goal

pub add_replies-requires-clause-told : goal.add_replies-requires-clause-told
add_replies-requires-clause-told c = (c.args.d, c.args.own.now, λ i. record { dialect = c.args.d; own = c.told.ensures.value i })

pub add_replies-requires-clause-reached : goal.add_replies-requires-clause-reached
add_replies-requires-clause-reached c = c.at-steps.ensures.reached _ c.self.invariant

pub invariant_of-self : goal.invariant_of-self
invariant_of-self c = c.none-self-inside.ensures.reached _

pub invariant_of-self-2 : goal.invariant_of-self-2
invariant_of-self-2 c = reached_still _ _ _ (λ o i. same_in _ _ o c.trim.ensures i) c.in_ok-add_replies.ensures.reached
