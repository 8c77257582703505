use Rattle.krieg_parting.proofs.Charges.{said}
use Rattle.krieg_judge.proofs.Common.{node_of}
use Rattle.krieg_judge.proofs.Walks.{pair_adds, pair_costs}
use Rattle.krieg_judge.proofs.judging.meet_next.Goals as goal

pub returns : goal.returns
returns c =
    let n = node_of c.get.result in
    said c.meet.result _ _ _ _ _ _ (λ x h. pair_adds c.args.s.now c.args.next n c.unpack.result c.args.found.now c.meet.new.found c.requires c.get.ensures.value c.get.ensures.below c.unpack.ensures.value h)
    (pair_costs c.args.s.now c.args.next.0 n c.unpack.result c.get.ensures.value c.unpack.ensures.value) c.meet.ensures
