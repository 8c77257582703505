-- What `san` answers to a session: the record of the moves that were made in it.
use Rattle.std.specs.Prelude.{◌≡◌, List, ℕ, Result, Ok}
use Rattle.krieg_text.specs.Lines.{lines}
use Rattle.krieg_text.specs.Reading.{whole}
use Rattle.krieg_umpire.specs.SessionReading.{session_at}
use Rattle.krieg_umpire.specs.Scores.{san_of}
use Rattle.krieg_outcome.specs.Refusal.{OfText}
use Rattle.krieg_outcome.specs.declared.refusal.Refusal.{Refusal}

-- of a text that may spell a session
abbrev pub WritesRecord : List ℕ → Result (List ℕ) Refusal → Type 0
WritesRecord text outcome = OfText (whole session_at (lines text)) (λ session written. written ≡ Ok (san_of session)) outcome
