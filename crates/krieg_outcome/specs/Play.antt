-- What `play` answers to a start, and what becomes of the bench: the session of the game that its seats play.
use Rattle.std.specs.Prelude.{◌≡◌, ◌⊎◌, ℕ, List, Result, Ok, Err}
use Rattle.krieg_board.specs.Pos.{Pos}
use Rattle.krieg_text.specs.Lines.{lines}
use Rattle.krieg_text.specs.Reading.{whole}
use Rattle.krieg_text.specs.declared.fault.TextFault.{TextFault}
use Rattle.krieg_text.specs.declared.fault.TextFault.TheVariants as fault
use Rattle.krieg_words.specs.declared.dialects.Dialect.TheVariants.{Wild16}
use Rattle.krieg_umpire.specs.Games.{GameState}
use Rattle.krieg_umpire.specs.declared.verdict.Stop.{Stop}
use Rattle.krieg_umpire.specs.SessionReading.{start_at}
use Rattle.krieg_umpire.specs.SessionText.{session_text}
use Rattle.krieg_seats.specs.Accounts.{Account}
use Rattle.krieg_play.specs.Played.{Sides, IsPlayed}
use Rattle.krieg_play.specs.Broken.{IsBroken, Refuses}
use Rattle.krieg_play.specs.declared.outcome.PlayFault.TheVariants.{Vacant, Seat}
use Rattle.krieg_play.specs.declared.outcome.PlayFault.TheVariants as played
use Rattle.krieg_outcome.specs.Recorded.{session_of}
use Rattle.krieg_outcome.specs.declared.refusal.Refusal.{Refusal}
use Rattle.krieg_outcome.specs.declared.refusal.Refusal.TheVariants.{BadText, NoSeat, SeatFault}

-- the seats played a game from this start, and the answer is its session
pub record Records {X : Type 0} (account : X → Account) (asks : ℕ) (before after : Sides X) (start : Pos) (answer : List ℕ) : Type 0 where
  pub game : GameState
  pub stop : Stop
  pub is_played : IsPlayed account start asks before after game stop
  pub is_session : answer ≡ session_text (session_of Wild16 start game stop)

-- what comes of a start: the session, or that a side has no seat, or that the last seat of a side failed
abbrev pub PlaysFrom : {X : Type 0} → (X → Account) → ℕ → Sides X → Sides X → Pos → Result (List ℕ) Refusal → Type 0
PlaysFrom account asks before after start (Ok answer) = Records account asks before after start answer
PlaysFrom account asks before after start (Err (NoSeat who)) = Refuses account start asks before after (Vacant who)
PlaysFrom account asks before after start (Err (SeatFault who)) = Refuses account start asks before after (Seat who)
PlaysFrom account asks before after start (Err _) = ⊥

-- where the text spells no start, no seat is called
abbrev pub PlaysWhole : {X : Type 0} → (X → Account) → ℕ → Sides X → Sides X → Result Pos TextFault → Result (List ℕ) Refusal → Type 0
PlaysWhole account asks before after (Ok start) outcome = PlaysFrom account asks before after start outcome
PlaysWhole account asks before after (Err (fault.At line kind)) outcome = (outcome ≡ Err (BadText line kind)) × (after ≡ before)
PlaysWhole account asks before after (Err fault.NoMemory) outcome = ⊥

-- the same of a text that may spell a start
abbrev pub Plays : {X : Type 0} → (X → Account) → Sides X → Sides X → ℕ → List ℕ → Result (List ℕ) Refusal → Type 0
Plays account before after asks text outcome = PlaysWhole account asks before after (whole start_at (lines text)) outcome

-- a game was begun from the start that the text spells: it was given up for want of memory, or played until it stopped
abbrev pub HasBegun : {X : Type 0} → (X → Account) → ℕ → Sides X → Sides X → List ℕ → Type 0
HasBegun account asks before after text =
    (start : Pos) × (whole start_at (lines text) ≡ Ok start)
    × (IsBroken account start asks before after played.NoMemory ⊎ ((game : GameState) × (stop : Stop) × IsPlayed account start asks before after game stop))
