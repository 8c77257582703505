use Rattle.std.proofs.Common.{◌∙◌, ◌||◌}
use Rattle.krieg_board.proofs.SetLemmas.{has_or}
use Rattle.krieg_rays.proofs.ByKind.{kinds_attack}
use Rattle.krieg_rays.proofs.attack.attacked_among.Goals as goal

pub returns : goal.returns
returns c = λ k h.
    simp (has_or)
    ((λ i. ((((c.attacked_by_each.ensures k h i || c.attacked_by_each-2.ensures k h i) || c.attacked_by_each-3.ensures k h i) || c.attacked_by_each-4.ensures k h i)
    || c.attacked_by_each-5.ensures k h i) || c.attacked_by_each-6.ensures k h i)
    ∙ kinds_attack c.args.b.now c.args.side c.args.men c.args.occupied k c.sets-sets.result.now c.sets-sets.ensures c.requires)
