use Rattle.std.proofs.Common.{ap, subst, refl, ◌∙◌}
use Rattle.krieg_checker.proofs.Common.{set_of, In}
use Rattle.krieg_pack.proofs.PositionSets.{set_in}
use Rattle.krieg_checker.proofs.plan_check.check_owned.Goals as goal

pub check_set-requires : goal.check_set-requires
check_set-requires c =
    let is = c.in_ok-set.ensures.value ∙ ap set_of c.as_slice.ensures.value in
    record { same_side = λ p q i j. c.requires.same_side p q (set_in p _ (subst (In p) is i)) (set_in q _ (subst (In q) is j)) }

pub returns : goal.returns
returns c = c.check_set.ensures c.args.f (record { dialect_part = refl; side_part = refl; set_part = c.in_ok-set.ensures.value ∙ ap set_of c.as_slice.ensures.value; worst_part = refl; plan_part = refl })
