use Rattle.std.proofs.Common.{sym, ◌∙◌, subst, ℕ}
use Rattle.std.specs.Prelude.{Some}
use Rattle.krieg_rays.proofs.Common.{IsLowest, reaches}
use Rattle.krieg_rays.proofs.Taking.{taken, none_left, none_found}
use Rattle.krieg_rays.proofs.attack.attacked_by_each.Goals as goal

pub loop-rest-init : goal.loop-rest-init
loop-rest-init c = λ s h. none_found _ s

pub loop-rest-preserved : goal.loop-rest-preserved
loop-rest-preserved c =
    let l = subst (λ (f : ℕ). IsLowest c.loop-rest.rest f) (sym c.number-from.ensures.value) c.lowest.ensures in
    λ s h.
    taken (λ f. reaches c.args.occupied (Some c.args.man) f s) c.loop-rest.attacked c.attacked_over-attacked.result c.loop-rest.rest c.number-from.result c.without_lowest-rest.result s l
    (c.without_lowest-rest.ensures.others c.number-from.result l) (c.attacked_over-attacked.ensures s h)
    ∙ c.loop-rest.invariant s h

pub returns : goal.returns
returns c = λ k h.
    sym (none_left (λ f. reaches c.args.occupied (Some c.args.man) f k) _ c.loop-rest.rest c.loop-rest-test.false) ∙ c.loop-rest.invariant k h
