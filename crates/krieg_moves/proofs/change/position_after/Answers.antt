use Rattle.std.proofs.Common.{◌∙◌, ap}
use Rattle.krieg_moves.proofs.Common.{other, rights_after}
use Rattle.krieg_moves.proofs.KeepsValid.{no_fault_parts, size_parts}
use Rattle.krieg_moves.proofs.change.position_after.Goals as goal

pub from_valid-requires-clause-size : goal.from_valid-requires-clause-size
from_valid-requires-clause-size c =
    size_parts c.args.p.now c.args.mv.now c.args.man _
    c.requires.next
    c.side.ensures.valid c.requires.legal c.requires.man

pub from_valid-requires-clause-fault : goal.from_valid-requires-clause-fault
from_valid-requires-clause-fault c =
    no_fault_parts c.args.p.now c.args.mv.now c.args.man _ _ _ _
    c.requires.next
    (c.other.ensures ∙ ap other c.side.ensures.value)
    (c.rights_after.ensures ∙ ap (λ r. rights_after r c.args.man c.args.mv.now) c.rights.ensures.value)
    c.mark_after.ensures
    c.side.ensures.valid c.requires.legal c.requires.man
