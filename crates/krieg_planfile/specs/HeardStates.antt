-- A plan file with what its player heard, as contracts see it.
use Rattle.krieg_planfile.specs.PlanFiles.{PlanState, state_of}
use Rattle.krieg_planfile.specs.HeardReading.{HeardState}
use Rattle.krieg_planfile.specs.declared.heard.HeardPlan.{HeardPlan}

-- what it is to contracts
abbrev pub heard_state_of : HeardPlan → HeardState PlanState
heard_state_of h = record { file = state_of h.file; heard = h.heard.items }
