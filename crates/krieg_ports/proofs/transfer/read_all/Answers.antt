-- How many bytes came before an error: those that were found, and those of the last read.
use Rattle.std.proofs.Common.{◌≡◌, ◌+◌, ◌≤◌, arith}
use Rattle.std.proofs.lemmas.Grind.{common_steps}
use Rattle.krieg_ports.proofs.ToldBytes.{Gave_then}
use Rattle.krieg_ports.proofs.transfer.read_all.Goals as goal

-- the last read gave the one byte too many
pub returns-in-Ok-clause-came : goal.returns-in-Ok-clause-came
returns-in-Ok-clause-came g c =
    Gave_then _ _ _ _ _ (λ n. n ≡ c.args.max + 1) c.loop-found.invariant.came c.in-Ok.ensures.bytes.0
    (grind (arith, common_steps, c.loop-found.found.ok.0, c.in-Ok.ensures.bound))

-- the last read found no memory
pub returns-then-is_err-clause-came : goal.returns-then-is_err-clause-came
returns-then-is_err-clause-came g c =
    Gave_then _ _ _ _ _ (λ n. n ≤ c.args.max) c.loop-found.invariant.came c.in-Ok-2.ensures.bytes.0
    (grind (arith, common_steps, c.loop-found.found.ok.0, c.in-Ok-2.ensures.bound))
