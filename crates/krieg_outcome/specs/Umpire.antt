-- What `umpire` answers to a session: one player's sheet, or the lines of both.
use Rattle.std.specs.Prelude.{◌≡◌, List, ℕ, Option, Result, Ok}
use Rattle.krieg_board.specs.declared.men.Side.{Side}
use Rattle.krieg_text.specs.Lines.{lines}
use Rattle.krieg_text.specs.Reading.{whole}
use Rattle.krieg_umpire.specs.Sessions.{SessionState}
use Rattle.krieg_umpire.specs.SessionReading.{session_at}
use Rattle.krieg_umpire.specs.Telling.{umpire_text}
use Rattle.krieg_outcome.specs.Refusal.{OfText}
use Rattle.krieg_outcome.specs.declared.refusal.Refusal.{Refusal}

-- what is told of a session
abbrev pub told_text : SessionState → Option Side → List ℕ
told_text s who = umpire_text s.dialect s.start s.events who

-- the same of a text that may spell a session
abbrev pub Umpires : Option Side → List ℕ → Result (List ℕ) Refusal → Type 0
Umpires who text outcome = OfText (whole session_at (lines text)) (λ session told. told ≡ Ok (told_text session who)) outcome
