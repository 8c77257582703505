use Rattle.std.proofs.Common.{ℕ, Vec, Global, length, ap, inr, refl, ◌∙◌, arith}
use Rattle.krieg_outcome.proofs.Common.{other, session_text}
use Rattle.krieg_outcome.specs.Recorded.{session_of}
use Rattle.krieg_robot.proofs.ListedAt.{listed}
use Rattle.krieg_outcome.proofs.Leading.{leads, led_to, broken, has_led}
use Rattle.krieg_outcome.proofs.commands.lead.answer_to.Goals as goal

pub returns-in-Err-clause-outcome : goal.returns-in-Err-clause-outcome
returns-in-Err-clause-outcome g c =
    broken _ (g.G.Guide.guidance c.args.guide) c.args.asks c.args.number _ _ refl refl (λ (answer : Vec ℕ Global). answer.items) c.other-opponent.result c.in-Err.fault c.ending_by.result
    (omega (arith, ap length c.list.ensures)) (c.other-opponent.ensures ∙ ap other c.side.ensures) c.ending_by.ensures c.in-Err.ensures.broken

pub returns-in-Err-clause-memory : goal.returns-in-Err-clause-memory
returns-in-Err-clause-memory g c =
    has_led _ (g.G.Guide.guidance c.args.guide) c.args.asks c.args.number _ _ refl refl c.other-opponent.result c.in-Err.fault c.ending_by.result c.ending_by.ensures c.in-Err.ensures.broken

pub returns-in-Ok-recorded-clause-outcome : goal.returns-in-Ok-recorded-clause-outcome
returns-in-Ok-recorded-clause-outcome g c =
    leads _ (g.G.Guide.guidance c.args.guide) c.args.asks c.args.number _ _ refl refl c.in-Ok.led c.index-list-number.result c.in-Ok-recorded.answer.items c.in-Ok.ensures.led c.in-Ok.ensures.won
    (listed _ _ c.args.number _ c.list-2.ensures c.requires.some (omega (arith, ap length c.list.ensures)) c.index-list-number.is)
    (c.in-Ok-recorded.ensures ∙ ap (λ d. session_text (session_of d c.index-list-number.result c.in-Ok.led.game c.in-Ok.led.stop)) c.dialect-dialect.ensures)

-- the session was not written down
pub returns-clause-memory : goal.returns-clause-memory
returns-clause-memory g c = λ short.
    inr (c.in-Ok.led, led_to _ (g.G.Guide.guidance c.args.guide) c.args.asks c.args.number _ _ refl refl c.in-Ok.led c.in-Ok.ensures.led c.in-Ok.ensures.won)
