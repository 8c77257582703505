use Rattle.std.proofs.Common.{ℕ, Vec, Global, inr}
use Rattle.krieg_outcome.proofs.Playing.{refused}
use Rattle.krieg_outcome.proofs.commands.play.answer.Goals as goal

pub returns-in-Err-play-clause-outcome : goal.returns-in-Err-play-clause-outcome
returns-in-Err-play-clause-outcome g c =
    refused (λ (answer : Vec ℕ Global). answer.items) _ _ _ _ _ c.in-Ok.start _ _ (rw c.deref.ensures.value at c.in-Ok.ensures.reading.exact) c.from-in-Err-play.ensures c.in-Err-play.ensures.refused

-- the session was not written down
pub returns-clause-bench : goal.returns-clause-bench
returns-clause-bench g c =
    inr (c.in-Ok.start, rw c.deref.ensures.value at c.in-Ok.ensures.reading.exact, inr (c.in-Ok-play.played.game, c.in-Ok-play.played.stop, c.in-Ok-play.ensures.played))
