use Rattle.krieg_rays.proofs.Attacking.{attackers_has}
use Rattle.krieg_rays.proofs.attack.attackers_among.Goals as goal

pub returns : goal.returns
returns c = λ k h.
    attackers_has c.args.b.now c.args.by c.args.s k c.requires.square h c.sets-sets.result.now c.sets-sets.ensures
    c.near_men.result c.straight_among-straight.result c.diagonal_among-diagonal.result c.args.men c.args.occupied
    (c.near_men.ensures k h) (c.straight_among-straight.ensures k h) (c.diagonal_among-diagonal.ensures k h) (c.requires.men k h)
