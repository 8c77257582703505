use Rattle.std.proofs.Common.{ap, refl, ◌∙◌}
use Rattle.krieg_parting.proofs.Common.{set_of, refused, all_outcomes, chess}
use Rattle.krieg_pack.proofs.PositionSets.{set_of_ascending}
use Rattle.krieg_game.proofs.Classed.{outcomes_are_classed}
use Rattle.krieg_game.proofs.Splitting.{refused_ascends}
use Rattle.krieg_parting.proofs.parts.parts_of.Goals as goal

pub returns : goal.returns
returns c = λ d B t up g. record {
  refused_part = c.from_packed.ensures.value ∙ ap set_of (g.refused_part refl) ∙ set_of_ascending (refused (chess d) B t) (refused_ascends d B t up);
  stale_part = g.stale_part;
  classes_part = c.in_ok-classes.ensures (all_outcomes (chess d) B t) (g.pool_part refl) ∙ outcomes_are_classed d B t;
}
