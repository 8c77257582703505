-- What a run shows, where more is known of what seats make of a text.
use Rattle.std.proofs.Common.{◌≡◌, ℕ, List, map, Option, Some, None, Result, Ok, Err, ap, inl, inr}
use Rattle.krieg_cli.proofs.Common.{Pos, lines, whole, TextFault, start_at, Account, Sides, seen, seen_team, Vacant, Command, Play, Lead, Conduct, Stream, World, LiveOutcome, HasOutcome, Guidance, plan_guide_in, strategy_guide_in, Led, LeadFault, PlaysFrom, PlaysWhole, HasBegun, HasBegunBy, OpponentChanges, IsLedTo, IsGivenUp, LeadsFrom, LeadsWhole, HasLedBy, LivesBy, ComesTo, Ends, Runs, LeavesBench, IsRun, Refusal, NoSuchPosition, NoSeat, SeatFault, Ending, Answered, WriteFault, Refused}
use Rattle.krieg_text.specs.declared.fault.TextFault.TheVariants as fault
use Rattle.krieg_play.specs.declared.outcome.PlayFault.TheVariants.{Seat, NoMemory}
use Rattle.krieg_play.proofs.Seen.{played_seen, refuses_seen}
use Rattle.krieg_robot.specs.declared.led.LeadFault.TheVariants as lead
use Rattle.krieg_outcome.specs.declared.ending.Ending.TheVariants as ending

abbrev Follows : LiveOutcome → LiveOutcome → Type 0
Follows t u = (c : Command) (text : List ℕ) (outcome : Result (List ℕ) Refusal) → t c text outcome → u c text outcome

outcome_as : (t u : LiveOutcome) → Follows t u → (c : Command) (text : List ℕ) (outcome : Result (List ℕ) Refusal) → HasOutcome t c text outcome → HasOutcome u c text outcome
outcome_as t u f (Play asks) text outcome h = f (Play asks) text outcome h
outcome_as t u f (Lead asks number) text outcome h = f (Lead asks number) text outcome h
outcome_as t u f (Conduct asks number) text outcome h = f (Conduct asks number) text outcome h
outcome_as t u f _ text outcome h = h

comes_as : (t u : LiveOutcome) → Follows t u → (c : Command) (before after : World) (outcome : Result (List ℕ) Refusal) → ComesTo t c before after outcome → ComesTo u c before after outcome
comes_as t u f c before after outcome (text, was, made) = (text, was, outcome_as t u f c text outcome made)

ends_as : (t u : LiveOutcome) → Follows t u → (e : Ending) (c : Command) (before after : World) → Ends t e c before after → Ends u e c before after
ends_as t u f Answered c before after (answer, comes, written, kept) = (answer, comes_as t u f c before after (Ok answer) comes, written, kept)
ends_as t u f WriteFault c before after (answer, comes, front, rose) = (answer, comes_as t u f c before after (Ok answer) comes, front, rose)
ends_as t u f (Refused refusal) c before after (comes, out) = (comes_as t u f c before after (Err refusal) comes, out)
ends_as t u f _ c before after h = h

runs_as : (t u : LiveOutcome) → Follows t u → (e : Ending) (asked : Option Command) (before after : World) → Runs t e asked before after → Runs u e asked before after
runs_as t u f e None before after h = h
runs_as t u f e (Some c) before after h = ends_as t u f e c before after h

-- ---- the bench by what its seats mean

abbrev itself : Account → Account
itself a = a

from_seen : {X : Type 0} (account : X → Account) (asks : ℕ) (before after : Sides X) (start : Pos) (outcome : Result (List ℕ) Refusal) →
    PlaysFrom account asks before after start outcome → PlaysFrom itself asks (seen account before) (seen account after) start outcome
from_seen account asks before after start (Ok answer) h = record {
  game = h.game;
  stop = h.stop;
  is_played = played_seen account start asks before after h.game h.stop h.is_played;
  is_session = h.is_session;
}
from_seen account asks before after start (Err (NoSeat who)) h = refuses_seen account start asks before after (Vacant who) h
from_seen account asks before after start (Err (SeatFault who)) h = refuses_seen account start asks before after (Seat who) h
from_seen account asks before after start (Err _) h = h

whole_seen : {X : Type 0} (account : X → Account) (asks : ℕ) (before after : Sides X) (r : Result Pos TextFault) (outcome : Result (List ℕ) Refusal) →
    PlaysWhole account asks before after r outcome → PlaysWhole itself asks (seen account before) (seen account after) r outcome
whole_seen account asks before after (Ok start) outcome h = from_seen account asks before after start outcome h
whole_seen account asks before after (Err (fault.At line kind)) outcome h = (h.0, ap (seen account) h.1)
whole_seen account asks before after (Err fault.NoMemory) outcome h = h

-- ---- a game that was led

abbrev opponent_seen : {X : Type 0} (account : X → Account) (R : Account → Account → Type 0) (before after : Sides X) → OpponentChanges account R before after → OpponentChanges itself R (seen account before) (seen account after)
opponent_seen account R before after c = record {
  seats = record {
    first = account c.seats.first;
    first' = account c.seats.first';
    behind = map account c.seats.behind;
    then_is = ap (map account) c.seats.then_is;
    now_is = ap (map account) c.seats.now_is;
    changes = c.seats.changes;
  };
  out = ap (map account) c.out;
  black = ap (seen_team account) c.black;
}

abbrev led_seen : {X : Type 0} (account : X → Account) (asks number : ℕ) (before after : Sides X) (g : Guidance) (led : Led) → IsLedTo account asks number before after g led → IsLedTo itself asks number (seen account before) (seen account after) g led
led_seen account asks number before after g led h = record { opponent = opponent_seen account _ before after h.opponent; won = h.won }

given_up_seen : {X : Type 0} (account : X → Account) (asks number : ℕ) (before after : Sides X) (g : Guidance) (f : LeadFault) → IsGivenUp account asks number before after g f → IsGivenUp itself asks number (seen account before) (seen account after) g f
given_up_seen account asks number before after g f h = opponent_seen account _ before after h

leads_seen : {X : Type 0} (account : X → Account) (asks number : ℕ) (before after : Sides X) (g : Guidance) (outcome : Result (List ℕ) Refusal) →
    LeadsFrom account asks number before after g outcome → LeadsFrom itself asks number (seen account before) (seen account after) g outcome
leads_seen account asks number before after g (Ok answer) h = record {
  led = h.led;
  is_led = led_seen account asks number before after g h.led h.is_led;
  is_session = h.is_session;
}
leads_seen account asks number before after g (Err NoSuchPosition) h = (h.0, ap (seen account) h.1)
leads_seen account asks number before after g (Err (NoSeat who)) h = (h.0, ap (map account) h.1, h.2, ap (seen account) h.3)
leads_seen account asks number before after g (Err (SeatFault who)) h = (h.0, h.1, given_up_seen account asks number before after g lead.Seat h.2)
leads_seen account asks number before after g (Err _) h = h

whole_led_seen : {X : Type 0} (account : X → Account) (asks number : ℕ) (before after : Sides X) (r : Result Guidance TextFault) (outcome : Result (List ℕ) Refusal) →
    LeadsWhole account asks number before after r outcome → LeadsWhole itself asks number (seen account before) (seen account after) r outcome
whole_led_seen account asks number before after (Ok g) outcome h = leads_seen account asks number before after g outcome h
whole_led_seen account asks number before after (Err (fault.At line kind)) outcome h = (h.0, ap (seen account) h.1)
whole_led_seen account asks number before after (Err fault.NoMemory) outcome h = h

lives_seen : {X : Type 0} (account : X → Account) (before after : Sides X) → Follows (LivesBy account before after) (LivesBy itself (seen account before) (seen account after))
lives_seen account before after (Play asks) text outcome h = whole_seen account asks before after (whole start_at (lines text)) outcome h
lives_seen account before after (Lead asks number) text outcome h = whole_led_seen account asks number before after (plan_guide_in text) outcome h
lives_seen account before after (Conduct asks number) text outcome h = whole_led_seen account asks number before after (strategy_guide_in text) outcome h
lives_seen account before after _ text outcome h = h

-- the same of a whole run, with what becomes of the bench
begun_seen : {X : Type 0} (account : X → Account) (asks : ℕ) (entry now : Sides X) (text : List ℕ) → HasBegun account asks entry now text → HasBegun itself asks (seen account entry) (seen account now) text
begun_seen account asks entry now text (start, is, inl broken) = (start, is, inl (refuses_seen account start asks entry now NoMemory broken))
begun_seen account asks entry now text (start, is, inr (game, stop, played)) = (start, is, inr (game, stop, played_seen account start asks entry now game stop played))

has_led_seen : {X : Type 0} (account : X → Account) (asks number : ℕ) (entry now : Sides X) (read : Result Guidance TextFault) → HasLedBy account asks number entry now read → HasLedBy itself asks number (seen account entry) (seen account now) read
has_led_seen account asks number entry now read (g, is, inl up) = (g, is, inl (given_up_seen account asks number entry now g lead.NoMemory up))
has_led_seen account asks number entry now read (g, is, inr (led, h)) = (g, is, inr (led, led_seen account asks number entry now g led h))

begun_by_seen : {X : Type 0} (account : X → Account) (c : Command) (text : List ℕ) (entry now : Sides X) → HasBegunBy account c text entry now → HasBegunBy itself c text (seen account entry) (seen account now)
begun_by_seen account (Play asks) text entry now h = begun_seen account asks entry now text h
begun_by_seen account (Lead asks number) text entry now h = has_led_seen account asks number entry now (plan_guide_in text) h
begun_by_seen account (Conduct asks number) text entry now h = has_led_seen account asks number entry now (strategy_guide_in text) h
begun_by_seen account _ text entry now h = h

bench_seen : {X : Type 0} (account : X → Account) (asked : Option Command) (e : Ending) (input input' : Stream) (entry now : Sides X) →
    LeavesBench account asked e input input' entry now → LeavesBench itself asked e input input' (seen account entry) (seen account now)
bench_seen account (Some c) ending.NoMemory input input' entry now (inl same) = inl (ap (seen account) same)
bench_seen account (Some c) ending.NoMemory input input' entry now (inr (text, was, begun)) = inr (text, was, begun_by_seen account c text entry now begun)
bench_seen account _ _ input input' entry now h = λ none. ap (seen account) (h none)

pub run_seen : {X : Type 0} {account : X → Account} {entry now : Sides X} {asked : Option Command} {code : ℕ} {before after : World} {err err' : Stream} →
    IsRun account entry now asked code before after err err' → IsRun itself (seen account entry) (seen account now) asked code before after err err'
run_seen {account = account} {entry = entry} {now = now} {asked = asked} {before = before} {after = after} run = record {
  ending = run.ending;
  status_is = run.status_is;
  runs = runs_as (LivesBy account entry now) (LivesBy itself (seen account entry) (seen account now)) (lives_seen account entry now) run.ending asked before after run.runs;
  reports = run.reports;
  bench = bench_seen account asked run.ending before.input after.input entry now run.bench;
}
