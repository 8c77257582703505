use Rattle.std.proofs.Common.{List, Ok, sym, subst}
use Rattle.std.specs.List.{All}
use Rattle.krieg_outcome.proofs.Common.{Pos, IsValid, plan_of, MOST_NODES, IsAnswer, file_of}
use Rattle.krieg_planfile.specs.PlanFiles.{CanBeWritten}
use Rattle.krieg_outcome.proofs.BestFiles.{can_be_written}
use Rattle.krieg_outcome.proofs.commands.solve.told.Goals as goal

pub file_text-requires : goal.file_text-requires
file_text-requires c =
    let same = c.in_ok-list-in-Mates.ensures.same in
    let best = subst (λ a. IsAnswer c.args.d c.args.who c.args.set.now c.args.moves MOST_NODES (Ok a)) c.in-Mates.is c.requires.answer in
    subst (λ (L : List Pos). CanBeWritten (file_of c.args.d c.args.who L c.in-Mates.worst (plan_of c.in-Mates.plan))) (sym same)
    (can_be_written c.args.d c.args.who c.args.set.now c.args.moves c.in-Mates.worst (plan_of c.in-Mates.plan) c.requires.some c.requires.few c.requires.hand (subst (All IsValid) same c.in_ok-list-in-Mates.ensures.valid) c.requires.most best.0 best.1)
