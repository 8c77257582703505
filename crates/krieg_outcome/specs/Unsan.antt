-- What `unsan` answers to a record: the session in which each of its moves is a try.
use Rattle.std.specs.Prelude.{◌≡◌, List, ℕ, Result, Ok}
use Rattle.krieg_text.specs.Lines.{lines}
use Rattle.krieg_text.specs.Reading.{whole}
use Rattle.krieg_record.specs.RecordReading.{record_at}
use Rattle.krieg_umpire.specs.Scores.{unsan_of}
use Rattle.krieg_outcome.specs.Refusal.{OfText}
use Rattle.krieg_outcome.specs.declared.refusal.Refusal.{Refusal}

-- of a text that may spell a record
abbrev pub WritesSession : List ℕ → Result (List ℕ) Refusal → Type 0
WritesSession text outcome = OfText (whole record_at (lines text)) (λ game written. written ≡ Ok (unsan_of game)) outcome
