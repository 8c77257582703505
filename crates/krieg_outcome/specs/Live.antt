-- What a command that calls seats makes of its text, and in which runs it may have called them.
use Rattle.std.specs.Prelude.{ℕ, Bool, true, false, List, Option, Some, Result}
use Rattle.krieg_seats.specs.Accounts.{Account}
use Rattle.krieg_play.specs.Played.{Sides}
use Rattle.krieg_args.specs.declared.command.Command.{Command}
use Rattle.krieg_args.specs.declared.command.Command.TheVariants.{Play, Lead, Conduct}
use Rattle.krieg_outcome.specs.Guides.{plan_guide_in, strategy_guide_in}
use Rattle.krieg_outcome.specs.Play.{Plays, HasBegun}
use Rattle.krieg_outcome.specs.Lead.{LeadsText, ConductsText, HasLedBy}
use Rattle.krieg_outcome.specs.declared.refusal.Refusal.{Refusal}
use Rattle.krieg_outcome.specs.declared.refusal.Refusal.TheVariants.{SeatFault}
use Rattle.krieg_outcome.specs.declared.ending.Ending.{Ending}
use Rattle.krieg_outcome.specs.declared.ending.Ending.TheVariants.{Answered, WriteFault, NoMemory, Refused}

-- what `play`, `lead` or `conduct` makes of a text, at the bench that it has
abbrev pub LivesBy : {X : Type 0} → (X → Account) → Sides X → Sides X → Command → List ℕ → Result (List ℕ) Refusal → Type 0
LivesBy account before after (Play asks) text outcome = Plays account before after asks text outcome
LivesBy account before after (Lead asks number) text outcome = LeadsText account before after asks number text outcome
LivesBy account before after (Conduct asks number) text outcome = ConductsText account before after asks number text outcome
LivesBy account before after _ text outcome = ⊥

-- a game was begun from the start, or by the guide, that the text of such a command spells
abbrev pub HasBegunBy : {X : Type 0} → (X → Account) → Command → List ℕ → Sides X → Sides X → Type 0
HasBegunBy account (Play asks) text entry now = HasBegun account asks entry now text
HasBegunBy account (Lead asks number) text entry now = HasLedBy account asks number entry now (plan_guide_in text)
HasBegunBy account (Conduct asks number) text entry now = HasLedBy account asks number entry now (strategy_guide_in text)
HasBegunBy account _ text entry now = ⊥

-- a command that may call seats, once it has its text and there are seats to call
abbrev pub is_live : Command → Bool
is_live (Play asks) = true
is_live (Lead asks number) = true
is_live (Conduct asks number) = true
is_live _ = false

-- whether seats may have been called in a run that ends so
abbrev pub calls_seats : Ending → Option Command → Bool
calls_seats Answered (Some c) = is_live c
calls_seats WriteFault (Some c) = is_live c
calls_seats (Refused (SeatFault who)) (Some c) = is_live c
calls_seats NoMemory (Some c) = is_live c
calls_seats _ _ = false
