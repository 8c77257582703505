use Rattle.std.proofs.Common.{ap, ◌∙◌, arith, rules}
use Rattle.krieg_play.proofs.Common.{Opens, team_of}
use Rattle.krieg_play.proofs.Rosters.{both_heard}
use Rattle.krieg_play.proofs.Opening.{fresh_by, opens_and_plays, opens_not}
use Rattle.krieg_play.proofs.game.play_game.Goals as goal

pub returns-in-Ok : goal.returns-in-Ok
returns-in-Ok g c = record {
  plays = opens_and_plays _ c.tell_both.result c.play_on.result _ _ _ _ _ _ c.args.game.now _ c.log.result.now (Opens c.opening.result) (Opens c.opening-2.result)
      (fresh_by _ _ c.requires.position c.requires.log) (c.log.ensures ∙ c.requires.log) (ap Opens c.opening.ensures.value) (ap Opens c.opening-2.ensures.value)
      (omega arith) (omega arith) (omega arith) (search rules) (both_heard (λ b. (goal.Seat-dyn g (b.vtable, b.value)).account b.value) (λ t. team_of t.seats t.out) c.tell_both.result _ _ _ _ _ _ c.tell_both.ensures.tells) c.play_on.ensures.plays;
}

pub returns-in-Err : goal.returns-in-Err
returns-in-Err g c = record {
  plays = opens_not _ c.tell_both.result c.in-Err.fault c.args.start.now _ _ _ c.log.result.now (Opens c.opening.result) (Opens c.opening-2.result)
      (c.log.ensures ∙ c.requires.log) (ap Opens c.opening.ensures.value) (ap Opens c.opening-2.ensures.value) (omega arith) (omega arith) c.in-Err.is
      (both_heard (λ b. (goal.Seat-dyn g (b.vtable, b.value)).account b.value) (λ t. team_of t.seats t.out) c.tell_both.result _ _ _ _ _ _ c.tell_both.ensures.tells);
}
