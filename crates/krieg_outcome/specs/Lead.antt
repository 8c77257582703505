-- What `lead` answers to a plan file, and `conduct` to a strategy, and what becomes of the bench: the session of the game that is led.
use Rattle.std.specs.Prelude.{◌≡◌, ◌⊎◌, ◌<◌, ◌≤◌, ℕ, List, [], length, Result, Ok, Err}
use Rattle.krieg_board.specs.Men.{other}
use Rattle.krieg_text.specs.declared.fault.TextFault.{TextFault}
use Rattle.krieg_text.specs.declared.fault.TextFault.TheVariants as fault
use Rattle.krieg_umpire.specs.SessionText.{session_text}
use Rattle.krieg_seats.specs.Accounts.{Account}
use Rattle.krieg_play.specs.Calls.{FirstChanges}
use Rattle.krieg_play.specs.Played.{Sides}
use Rattle.krieg_robot.specs.Guides.{Guidance}
use Rattle.krieg_robot.specs.Laws.{Mates}
use Rattle.krieg_robot.specs.Leading.{LedFrom, BrokenFrom, IsWon}
use Rattle.krieg_robot.specs.declared.led.Led.{Led}
use Rattle.krieg_robot.specs.declared.led.LeadFault.{LeadFault}
use Rattle.krieg_robot.specs.declared.led.LeadFault.TheVariants.{Seat, NoMemory}
use Rattle.krieg_outcome.specs.Guides.{plan_guide_in, strategy_guide_in}
use Rattle.krieg_outcome.specs.Recorded.{session_of}
use Rattle.krieg_outcome.specs.declared.refusal.Refusal.{Refusal}
use Rattle.krieg_outcome.specs.declared.refusal.Refusal.TheVariants.{BadText, NoSuchPosition, NoSeat, SeatFault}

-- the first of White's seats, which is the opponent, changed so, and all else of the bench is as it was
pub record OpponentChanges {X : Type 0} (account : X → Account) (R : Account → Account → Type 0) (before after : Sides X) : Type 0 where
  pub seats : FirstChanges (λ x y. R (account x) (account y)) before.white.seats after.white.seats
  pub out : after.white.out ≡ before.white.out
  pub black : after.black ≡ before.black

-- the plan led a game from the listed position with that number until it stopped, and won it where it mates what is listed
pub record IsLedTo {X : Type 0} (account : X → Account) (asks number : ℕ) (before after : Sides X) (g : Guidance) (led : Led) : Type 0 where
  pub opponent : OpponentChanges account (λ a b. LedFrom g number asks a b led) before after
  pub won : Mates g → IsWon g led.game led.stop

-- a game from there was given up
abbrev pub IsGivenUp : {X : Type 0} → (X → Account) → ℕ → ℕ → Sides X → Sides X → Guidance → LeadFault → Type 0
IsGivenUp account asks number before after g fault = OpponentChanges account (λ a b. BrokenFrom g number asks a b fault) before after

-- the answer is the session of the game that was led, in the dialect of the guide
pub record Leads {X : Type 0} (account : X → Account) (asks number : ℕ) (before after : Sides X) (g : Guidance) (answer : List ℕ) : Type 0 where
  pub led : Led
  pub is_led : IsLedTo account asks number before after g led
  pub is_session : answer ≡ session_text (session_of g.dialect is_led.opponent.seats.changes.start led.game led.stop)

-- What comes of a guide: the session; or that it lists fewer positions, before a seat is called; or that the opponent has no seat; or
-- that his seat failed.
abbrev pub LeadsFrom : {X : Type 0} → (X → Account) → ℕ → ℕ → Sides X → Sides X → Guidance → Result (List ℕ) Refusal → Type 0
LeadsFrom account asks number before after g (Ok answer) = Leads account asks number before after g answer
LeadsFrom account asks number before after g (Err NoSuchPosition) = (length g.list < number) × (after ≡ before)
LeadsFrom account asks number before after g (Err (NoSeat who)) = (number ≤ length g.list) × (before.white.seats ≡ []) × (who ≡ other g.side) × (after ≡ before)
LeadsFrom account asks number before after g (Err (SeatFault who)) = (number ≤ length g.list) × (who ≡ other g.side) × IsGivenUp account asks number before after g Seat
LeadsFrom account asks number before after g (Err _) = ⊥

-- where the text spells no guide, no seat is called
abbrev pub LeadsWhole : {X : Type 0} → (X → Account) → ℕ → ℕ → Sides X → Sides X → Result Guidance TextFault → Result (List ℕ) Refusal → Type 0
LeadsWhole account asks number before after (Ok g) outcome = LeadsFrom account asks number before after g outcome
LeadsWhole account asks number before after (Err (fault.At line kind)) outcome = (outcome ≡ Err (BadText line kind)) × (after ≡ before)
LeadsWhole account asks number before after (Err fault.NoMemory) outcome = ⊥

-- the same of a text that may spell a plan file
abbrev pub LeadsText : {X : Type 0} → (X → Account) → Sides X → Sides X → ℕ → ℕ → List ℕ → Result (List ℕ) Refusal → Type 0
LeadsText account before after asks number text outcome = LeadsWhole account asks number before after (plan_guide_in text) outcome

-- and of one that may spell a strategy
abbrev pub ConductsText : {X : Type 0} → (X → Account) → Sides X → Sides X → ℕ → ℕ → List ℕ → Result (List ℕ) Refusal → Type 0
ConductsText account before after asks number text outcome = LeadsWhole account asks number before after (strategy_guide_in text) outcome

-- a game was begun by a guide: it was given up for want of memory, or led until it stopped
abbrev pub HasLed : {X : Type 0} → (X → Account) → ℕ → ℕ → Sides X → Sides X → Guidance → Type 0
HasLed account asks number before after g = IsGivenUp account asks number before after g NoMemory ⊎ ((led : Led) × IsLedTo account asks number before after g led)

-- the same of the guide that was read of a text
abbrev pub HasLedBy : {X : Type 0} → (X → Account) → ℕ → ℕ → Sides X → Sides X → Result Guidance TextFault → Type 0
HasLedBy account asks number before after read = (g : Guidance) × (read ≡ Ok g) × HasLed account asks number before after g
