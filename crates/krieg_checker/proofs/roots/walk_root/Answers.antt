use Rattle.std.proofs.Common.{sym, ap, ◌∙◌}
use Rattle.krieg_checker.proofs.Common.{first_root_in, plan_of}
use Rattle.krieg_checker.specs.Starting as spec
use Rattle.krieg_checker.proofs.Checking.{no_root}
use Rattle.krieg_checker.proofs.roots.walk_root.Goals as goal

pub returns-in-None : goal.returns-in-None
returns-in-None c =
    no_root c.args.d (plan_of c.args.plan.now) (c.args.class.own, spec.heard c.args.own c.args.class.reply) c.args.class.belief c.missing.result c.args.units.now
    (ap (λ h. first_root_in (plan_of c.args.plan.now) (c.args.class.own, h)) (sym c.heard.ensures) ∙ c.in-None.ensures.found) c.missing.ensures
