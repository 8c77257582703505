use Rattle.std.proofs.Common.{◌≡◌, [], ◌∷◌, ◌++◌, ap, ◌∙◌, reverse}
use Rattle.krieg_belief.proofs.GivenGames.{event_more, no_event_more}
use Rattle.krieg_belief.proofs.games.events_by.Goals as goal
use Rattle.krieg_belief.proofs.games.events_by.Goals.{in-Some+in_ok-push, in_default}

pub loop-line-preserved : goal.loop-line-preserved
loop-line-preserved c =
    let ls = c.args.entries.now in
    let old = reverse c.loop-line.left.items in
    let new = reverse c.event_by.new.left.items in
    elim c.match-event_by.branch [
      | in-Some+in_ok-push w ↦
          (let pushed : w.push.new.self.items ≡ c.loop-line.events.items ++ w.in-Some.event ∷ [] = w.in_ok-push.ensures.items in
          event_more c.args.who ls c.loop-line.line-index c.line-item.result c.loop-line.events.items c.match-event_by.events.items old new w.in-Some.event _ c.loop-line-test.true c.line-item.is w.in-Some.ensures.some
          (ap (λ v. v.items) w.events-is ∙ pushed) c.loop-line.invariant)
      | in_default w ↦
          no_event_more c.args.who ls c.loop-line.line-index c.line-item.result c.loop-line.events.items c.match-event_by.events.items old new _ c.loop-line-test.true c.line-item.is w.in_default.ensures.none
          (ap (λ v. v.items) w.events-is) c.loop-line.invariant
    ]
