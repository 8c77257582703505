-- A game that was led against the first of White's seats, as the answer to a guide.
use Rattle.std.proofs.Common.{◌≡◌, ℕ, ◌<◌, ◌≤◌, ◌-◌, List, length, inl, Some, Result, Ok, Err, sym, ap, subst, ◌∙◌}
use Rattle.std.specs.Prelude.{slice_get, slice_set, slice_index_or, IfOk, IfErr}
use Rattle.std.proofs.lemmas.Option.{same_Some}
use Rattle.krieg_outcome.proofs.Common.{other, Pos, Side, session_text, Account, FirstChanges, Sides, Guidance, LedFrom, BrokenFrom, IsWon, Led, LeadFault, IsLedTo, IsGivenUp, Leads, LeadsFrom, HasLed, Decides, of_lead, Ending}
use Rattle.krieg_play.proofs.FirstSeats.{first_written}
use Rattle.krieg_robot.specs.Laws.{Mates}
use Rattle.krieg_robot.specs.declared.led.LeadFault.TheVariants.{Seat, NoMemory}
use Rattle.krieg_outcome.specs.Recorded.{session_of}
use Rattle.krieg_outcome.specs.declared.ending.Ending.TheVariants as ending

-- ---- the first seat

pub ok_written : {A E X : Type 0} (r : Result A E) (R : A → X → X → Type 0) (xs : List X) (x y : X) → 0 < length xs → x ≡ slice_index_or xs 0 x → IfOk r (λ a. R a x y) → IfOk r (λ a. FirstChanges (R a) xs (slice_set xs 0 y))
ok_written (Ok a) R xs x y some is h = first_written (R a) xs x y some is h
ok_written (Err e) R xs x y some is h = tt

pub err_written : {A E X : Type 0} (r : Result A E) (R : E → X → X → Type 0) (xs : List X) (x y : X) → 0 < length xs → x ≡ slice_index_or xs 0 x → IfErr r (λ e. R e x y) → IfErr r (λ e. FirstChanges (R e) xs (slice_set xs 0 y))
err_written (Ok a) R xs x y some is h = tt
err_written (Err e) R xs x y some is h = first_written (R e) xs x y some is h

-- ---- the whole bench

module _ {X : Type 0} (account : X → Account) (g : Guidance) (asks number : ℕ) (before after : Sides X) (out : after.white.out ≡ before.white.out) (black : after.black ≡ before.black) where
  abbrev pub led_to : (led : Led) → FirstChanges (λ x y. LedFrom g number asks (account x) (account y) led) before.white.seats after.white.seats → (Mates g → IsWon g led.game led.stop) →
      IsLedTo account asks number before after g led
  led_to led seats won = record { opponent = record { seats = seats; out = out; black = black }; won = won }

  pub given_up : (fault : LeadFault) → FirstChanges (λ x y. BrokenFrom g number asks (account x) (account y) fault) before.white.seats after.white.seats → IsGivenUp account asks number before after g fault
  given_up fault seats = record { seats = seats; out = out; black = black }

  -- the session of the game that was led
  pub leads : (led : Led) (start : Pos) (answer : List ℕ) (seats : FirstChanges (λ x y. LedFrom g number asks (account x) (account y) led) before.white.seats after.white.seats) →
      (Mates g → IsWon g led.game led.stop) → slice_get g.list (number - 1) ≡ Some start → answer ≡ session_text (session_of g.dialect start led.game led.stop) →
      Leads account asks number before after g answer
  leads led start answer seats won listed is = record {
    led = led;
    is_led = led_to led seats won;
    is_session = is ∙ ap (λ (p : Pos). session_text (session_of g.dialect p led.game led.stop)) (same_Some start seats.changes.start (sym listed ∙ seats.changes.listed));
  }

  -- the ending of a game that was given up
  pub broken : {V : Type 0} (view : V → List ℕ) (who : Side) (fault : LeadFault) (e : Ending) → number ≤ length g.list → who ≡ other g.side → e ≡ of_lead who fault →
      FirstChanges (λ x y. BrokenFrom g number asks (account x) (account y) fault) before.white.seats after.white.seats → Decides view (Err e) (LeadsFrom account asks number before after g)
  broken view who fault e listed who_is e_is seats = subst (λ (x : Ending). Decides view (Err x) (LeadsFrom account asks number before after g)) (sym e_is) (by_fault fault seats)
    where
      by_fault : (fault : LeadFault) → FirstChanges (λ x y. BrokenFrom g number asks (account x) (account y) fault) before.white.seats after.white.seats →
          Decides view (Err (of_lead who fault)) (LeadsFrom account asks number before after g)
      by_fault Seat seats = (listed, who_is, given_up Seat seats)
      by_fault NoMemory seats = tt

  -- it found no memory only where the game was begun
  pub has_led : {V : Type 0} (who : Side) (fault : LeadFault) (e : Ending) → e ≡ of_lead who fault → FirstChanges (λ x y. BrokenFrom g number asks (account x) (account y) fault) before.white.seats after.white.seats →
      ◌≡◌ {A = Result V Ending} (Err e) (Err ending.NoMemory) → HasLed account asks number before after g
  has_led who Seat e e_is seats short = absurd cc
  has_led who NoMemory e e_is seats short = inl (given_up NoMemory seats)
