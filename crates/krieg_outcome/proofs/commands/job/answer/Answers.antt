use Rattle.krieg_outcome.proofs.Jobs.{summed}
use Rattle.krieg_outcome.proofs.commands.job.answer.Goals as goal

pub returns : goal.returns
returns c =
    summed c.args.number c.len.result c.in_ok-sheet.sheet c.list.result.now c.in_ok-set.set c.in_ok-found.found c.in_ok-counts.counts c.in_ok-summary.field-0.items
    c.in_ok-sheet.ensures.value c.list.ensures.value c.len.ensures.value c.in_ok-set.ensures.value c.in_ok-found.ensures c.in_ok-counts.ensures c.in_ok-summary.ensures
