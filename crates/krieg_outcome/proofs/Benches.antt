-- What becomes of the bench where a game is led.
use Rattle.std.proofs.Common.{◌≡◌, inr, ℕ, true, List, Result, Ok, Err, refl}
use Rattle.std.proofs.lemmas.Bool.{both_ways}
use Rattle.krieg_outcome.proofs.Common.{Account, Sides, Command, Guidance, LeadsFrom, HasLed, HasBegunBy, is_live, Decides, ending_of, LeavesSeats, Ending, Refused}
use Rattle.krieg_outcome.specs.declared.ending.Ending.TheVariants.{NoMemory}
use Rattle.krieg_outcome.specs.declared.refusal.Refusal.TheVariants as refusal

module _ {X V : Type 0} (account : X → Account) (entry now : Sides X) (view : V → List ℕ) (c : Command) (text : List ℕ) (asks number : ℕ) (g : Guidance) where
  -- the guide that the text of a command spells led a game, or not
  pub seats_led : (r : Result V Ending) → is_live c ≡ true → (HasLed account asks number entry now g → HasBegunBy account c text entry now) → Decides view r (LeadsFrom account asks number entry now g) →
      (r ≡ Err NoMemory → HasLed account asks number entry now g) → LeavesSeats account c (ending_of r) text entry now
  seats_led (Ok x) live begun h memory = λ called. absurd (both_ways (is_live c) called live)
  seats_led (Err NoMemory) live begun h memory = inr (begun (memory refl))
  seats_led (Err (Refused refusal.NoSuchPosition)) live begun h memory = λ _. h.1
  seats_led (Err (Refused (refusal.NoSeat who))) live begun h memory = λ _. h.3
  seats_led (Err (Refused (refusal.SeatFault who))) live begun h memory = λ called. absurd (both_ways (is_live c) called live)
  seats_led (Err (Refused _)) live begun h memory = absurd h
  seats_led (Err _) live begun h memory = absurd h
