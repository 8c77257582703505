use Rattle.krieg_rays.proofs.Sniping.{snipers_has}
use Rattle.krieg_rays.proofs.pin.snipers.Goals as goal

pub returns : goal.returns
returns c = λ k h.
    snipers_has c.args.b.now c.args.by c.args.s k c.requires h c.sets-sets.result.now c.sets-sets.ensures
    c.file_through.result c.rank_through.result c.rising_through.result c.falling_through.result c.men_of.result
    (c.file_through.ensures k h) (c.rank_through.ensures k h) (c.rising_through.ensures k h) (c.falling_through.ensures k h) (c.men_of.ensures k h)
