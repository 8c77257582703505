use Rattle.std.proofs.Common.{◌∙◌, ap}
use Rattle.krieg_record.proofs.Common.{is_own, the_only}
use Rattle.krieg_record.proofs.OwnMen.{leaving_own}
use Rattle.krieg_record.proofs.san_reading.meant_by.Goals as goal

pub returns : goal.returns
returns c =
    c.only_from.ensures
    ∙ ap (the_only c.args.p.now c.args.n.now.movement)
    (leaving_own c.args.p.now c.args.n.now c.own_men.result (λ k h. c.own_men.ensures k h ∙ (λ i. is_own c.args.p.now (c.mover.ensures i) k)))
