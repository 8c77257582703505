use Rattle.std.proofs.Common.{sym, ◌∙◌, subst, ℕ}
use Rattle.krieg_board.specs.Sets.{IsLowest}
use Rattle.krieg_board.specs.declared.men.Kind.TheVariants.{King}
use Rattle.krieg_board.specs.declared.men.Side.TheVariants.{White}
use Rattle.krieg_rays.specs.Rays.{goes}
use Rattle.krieg_rays.proofs.Taking.{taken, none_left, none_found}
use Rattle.krieg_nets.proofs.near.near.Goals as goal

pub loop-rest-init : goal.loop-rest-init
loop-rest-init c = λ k h. none_found _ k

pub loop-rest-preserved : goal.loop-rest-preserved
loop-rest-preserved c =
    let l = subst (λ (f : ℕ). IsLowest c.loop-rest.rest f) (sym c.number.ensures.value) c.lowest.ensures in
    λ k h.
    taken (λ f. goes King White f k) c.loop-rest.near c.king_attacks-near.result c.loop-rest.rest c.number.result c.without_lowest-rest.result k l
    (c.without_lowest-rest.ensures.others c.number.result l) (c.king_attacks-near.ensures k h)
    ∙ c.loop-rest.invariant k h

pub returns : goal.returns
returns c = λ k h.
    sym (none_left (λ f. goes King White f k) _ c.loop-rest.rest c.loop-rest-test.false) ∙ c.loop-rest.invariant k h
