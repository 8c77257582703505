use Rattle.std.proofs.Common.{◌∙◌, sym, refl}
use Rattle.krieg_rays.proofs.Attacking.{attack_there}
use Rattle.krieg_rays.proofs.attack.attackers_at.Goals as goal

pub attackers_among-requires-clause-men : goal.attackers_among-requires-clause-men
attackers_among-requires-clause-men c = λ f h here. sym (c.men_of.ensures f h) ∙ here

pub returns : goal.returns
returns c = λ k h.
    c.attackers_among.ensures k h
    ∙ attack_there c.args.b.now c.args.b.now c.args.by c.men_of.result c.occupied.result k c.args.s c.occupied.ensures (c.men_of.ensures k h) (λ own. refl)
