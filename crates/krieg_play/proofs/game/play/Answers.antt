use Rattle.std.proofs.Common.{ap, ◌∙◌, arith}
use Rattle.std.proofs.lemmas.Grind.{common_steps}
use Rattle.krieg_play.proofs.Common.{GameState}
use Rattle.krieg_play.proofs.Opening.{unbegun, sides_kept, played_by, refused_by}
use Rattle.krieg_play.proofs.game.play.Goals as goal

pub returns-in-Err-clause-refused : goal.returns-in-Err-clause-refused
returns-in-Err-clause-refused g c =
    unbegun _ _ _ _ _ (sides_kept _ _ _ _ _ _ _ _ c.reserve.ensures.kept.0 c.reserve.ensures.kept.1 c.reserve.ensures.kept.2 c.reserve.ensures.kept.3) (grind (arith, common_steps)) (grind (arith, common_steps))

pub returns-in-Ok-answer-clause-played : goal.returns-in-Ok-answer-clause-played
returns-in-Ok-answer-clause-played g c =
    rw c.seat.ensures (played_by _ _ _ _ _ _ _ _ _ (ap (λ (s : GameState). s.spare) c.in-Ok.ensures.game) (c.rosters-white.ensures.sides ∙ sides_kept _ _ _ _ _ _ _ _ c.reserve.ensures.kept.0 c.reserve.ensures.kept.1 c.reserve.ensures.kept.2 c.reserve.ensures.kept.3) c.in-Ok-answer.ensures.plays)

pub returns-in-Err-answer-clause-refused : goal.returns-in-Err-answer-clause-refused
returns-in-Err-answer-clause-refused g c =
    rw c.seat.ensures (refused_by _ _ _ _ _ _ _ _ (ap (λ (s : GameState). s.spare) c.in-Ok.ensures.game) (c.rosters-white.ensures.sides ∙ sides_kept _ _ _ _ _ _ _ _ c.reserve.ensures.kept.0 c.reserve.ensures.kept.1 c.reserve.ensures.kept.2 c.reserve.ensures.kept.3) c.in-Err-answer.ensures.plays)
