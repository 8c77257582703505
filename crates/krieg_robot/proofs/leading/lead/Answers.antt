use Rattle.std.proofs.Common.{◌≡◌, ap, arith}
use Rattle.std.specs.Prelude.{max}
use Rattle.krieg_plan.proofs.Listed.{get_in}
use Rattle.krieg_robot.proofs.Beginning.{never_begun, led_from, broken_from}
use Rattle.krieg_robot.proofs.ListedAt.{listed}
use Rattle.krieg_robot.proofs.Winning.{mating_plan_wins}
use Rattle.krieg_robot.proofs.leading.lead.Goals as goal

pub returns-in-Err-clause-broken : goal.returns-in-Err-clause-broken
returns-in-Err-clause-broken g c = record {
  start = c.index-list-number.result;
  listed = listed _ _ c.args.number _ c.list.ensures c.requires.some c.requires.listed c.index-list-number.is;
  is_broken = never_begun _ _ _ _;
}

pub returns-in-Ok-lead_game-clause-led : goal.returns-in-Ok-lead_game-clause-led
returns-in-Ok-lead_game-clause-led g c =
    let spare : c.reserve.new.self.spare ≡ max c.start-game.result.spare c.args.asks = ap (λ x. x.spare) c.in-Ok.ensures.ok in
    record {
      start = c.index-list-number.result;
      listed = listed _ _ c.args.number _ c.list.ensures c.requires.some c.requires.listed c.index-list-number.is;
      is_led = led_from (g.G.Guide.guidance c.args.guide) _ _ _ c.args.asks _ _ _ _ (ap (λ x. x.guide) c.new-seat.ensures) (omega (arith, spare, c.start-game.ensures.spare)) c.in-Ok-lead_game.ensures;
    }

pub returns-in-Ok-lead_game-clause-won : goal.returns-in-Ok-lead_game-clause-won
returns-in-Ok-lead_game-clause-won g c = λ mates.
    let led = returns-in-Ok-lead_game-clause-led g c in
    mating_plan_wins (g.G.Guide.guidance c.args.guide) led.start c.args.asks _ _ _ _ c.requires.turn (get_in _ _ _ led.listed) mates led.is_led

pub returns-in-Err-lead_game-clause-broken : goal.returns-in-Err-lead_game-clause-broken
returns-in-Err-lead_game-clause-broken g c =
    let spare : c.reserve.new.self.spare ≡ max c.start-game.result.spare c.args.asks = ap (λ x. x.spare) c.in-Ok.ensures.ok in
    record {
      start = c.index-list-number.result;
      listed = listed _ _ c.args.number _ c.list.ensures c.requires.some c.requires.listed c.index-list-number.is;
      is_broken = broken_from (g.G.Guide.guidance c.args.guide) _ _ _ c.args.asks _ _ _ (ap (λ x. x.guide) c.new-seat.ensures) (omega (arith, spare, c.start-game.ensures.spare)) c.in-Err-lead_game.ensures;
    }
