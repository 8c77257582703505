-- How a run ends: the status, and the line that err gets.
use Rattle.std.specs.Prelude.{◌≡◌, ℕ, List, [], ◌∷◌, ◌++◌, Option, Some, None, codes}
use Rattle.krieg_text.specs.Decimals.{number_text}
use Rattle.krieg_outcome.specs.Refusal.{refusal_status, refusal_reason}
use Rattle.krieg_outcome.specs.declared.ending.Ending.{Ending}
use Rattle.krieg_outcome.specs.declared.ending.Ending.TheVariants.{Answered, Usage, TooLong, ReadFault, WriteFault, NoMemory, Refused}

-- the status of an ending
abbrev pub status : Ending → ℕ
status Answered = 0
status Usage = 1
status TooLong = 2
status ReadFault = 9
status WriteFault = 10
status NoMemory = 11
status (Refused refusal) = refusal_status refusal

-- the run ended with this status by an ending of which this holds
abbrev pub EndsSo : ℕ → (Ending → Type 0) → Type 0
EndsSo code Holds = (ending : Ending) × (code ≡ status ending) × Holds ending

-- the line of the input at which it is, where it is at one, and what it is; an answer has no reason
abbrev pub reason : Ending → Option ℕ × List ℕ
reason Answered = (None, [])
reason Usage = (None, codes "usage")
reason TooLong = (None, codes "input too long")
reason ReadFault = (None, codes "read fault")
reason WriteFault = (None, codes "write fault")
reason NoMemory = (None, codes "want of memory")
reason (Refused refusal) = refusal_reason refusal

-- which line it was, where a line is told
abbrev pub place_text : Option ℕ → List ℕ
place_text None = []
place_text (Some line) = codes "line " ++ (number_text line ++ codes ": ")

-- the line on standard error
abbrev pub reason_line : Option ℕ × List ℕ → List ℕ
reason_line why = codes "krieg: " ++ (place_text why.0 ++ (why.1 ++ (10 ∷ [])))

-- the line, with its line feed
abbrev pub line_of : Ending → List ℕ
line_of ending = reason_line (reason ending)
