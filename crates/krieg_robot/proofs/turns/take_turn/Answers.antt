use Rattle.std.proofs.Common.{sym, ap, ◌∙◌}
use Rattle.krieg_robot.proofs.Turning.{passes_by, white_asked, white_ends, black_asked, black_ends}
use Rattle.krieg_robot.proofs.turns.take_turn.Goals as goal

pub returns-in-White-clause-passes : goal.returns-in-White-clause-passes
returns-in-White-clause-passes g c =
    let d_is = c.dialect-d.ensures ∙ ap (λ x. x.dialect) c.guide.ensures in
    let side = sym (c.side.ensures ∙ ap (λ x. x.side) c.guide-2.ensures) ∙ c.in-White.is in
    let t = c.take_turn.ensures.turn in
    rw c.led_answer.ensures
    (passes_by t.said c.take_turn.result _ _ _ _ _ _ _ _ c.requires
    (white_asked (λ b. (goal.Seat-dyn g (b.vtable, b.value)).account b.value) d_is side t) (white_ends (λ b. (goal.Seat-dyn g (b.vtable, b.value)).account b.value) d_is side t))

pub returns-in-Black-clause-passes : goal.returns-in-Black-clause-passes
returns-in-Black-clause-passes g c =
    let d_is = c.dialect-d.ensures ∙ ap (λ x. x.dialect) c.guide.ensures in
    let side = sym (c.side.ensures ∙ ap (λ x. x.side) c.guide-2.ensures) ∙ c.in-Black.is in
    let t = c.take_turn-in-Black.ensures.turn in
    rw c.led_answer-in-Black.ensures
    (passes_by t.said c.take_turn-in-Black.result _ _ _ _ _ _ _ _ c.requires
    (black_asked (λ b. (goal.Seat-dyn g (b.vtable, b.value)).account b.value) d_is side t) (black_ends (λ b. (goal.Seat-dyn g (b.vtable, b.value)).account b.value) d_is side t))
