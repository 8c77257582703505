-- What a run has read and written when it ends, and by what cause it ends so.
use Rattle.std.specs.Prelude.{false, ℕ, Bool, ◌≡◌, ◌⊎◌, List, map, String, string_bytes, Option, Some, None, Result, Ok, Err}
use Rattle.std.specs.Io.KnownBytes.{Appends}
use Rattle.krieg_ports.specs.Bytes.{AppendsPrefix}
use Rattle.krieg_args.specs.Command.{command_of, find_of, takes_input}
use Rattle.krieg_args.specs.declared.command.Command.{Command}
use Rattle.krieg_cli.specs.World.{Stream, World, FaultsRose, NoFault}
use Rattle.krieg_cli.specs.Input.{WasTaken, FailsToTake}
use Rattle.krieg_outcome.specs.Outcome.{LiveOutcome, HasOutcome}
use Rattle.krieg_seats.specs.Accounts.{Account}
use Rattle.krieg_play.specs.Played.{Sides}
use Rattle.krieg_outcome.specs.Live.{HasBegunBy, LivesBy, calls_seats}
use Rattle.krieg_outcome.specs.Ending.{status, line_of}
use Rattle.krieg_outcome.specs.declared.refusal.Refusal.{Refusal}
use Rattle.krieg_outcome.specs.declared.ending.Ending.{Ending}
use Rattle.krieg_outcome.specs.declared.ending.Ending.TheVariants.{Answered, Usage, TooLong, ReadFault, WriteFault, NoMemory, Refused}

-- the input was taken, and this is what the command makes of it
abbrev pub ComesTo : LiveOutcome → Command → World → World → Result (List ℕ) Refusal → Type 0
ComesTo live c before after outcome = (text : List ℕ) × WasTaken c before.input after.input text × HasOutcome live c text outcome

-- the whole answer was written, and no write of it failed
abbrev pub Answers : LiveOutcome → Command → World → World → Type 0
Answers live c before after =
    (answer : List ℕ) × ComesTo live c before after (Ok answer) × Appends before.out.bytes after.out.bytes answer × NoFault before.out after.out

-- the sink failed, and got a front part of the answer
abbrev pub BreaksOff : LiveOutcome → Command → World → World → Type 0
BreaksOff live c before after =
    (answer : List ℕ) × ComesTo live c before after (Ok answer) × AppendsPrefix before.out.bytes after.out.bytes answer × FaultsRose before.out after.out

-- what a run of a command shows at each ending
abbrev pub Ends : LiveOutcome → Ending → Command → World → World → Type 0
Ends live Answered c before after = Answers live c before after
Ends live (Refused refusal) c before after = ComesTo live c before after (Err refusal) × (after.out ≡ before.out)
Ends live TooLong c before after = FailsToTake TooLong c before.input after.input × (after.out ≡ before.out)
Ends live ReadFault c before after = FailsToTake ReadFault c before.input after.input × (after.out ≡ before.out)
Ends live WriteFault c before after = BreaksOff live c before after
Ends live NoMemory c before after = FailsToTake NoMemory c before.input after.input × (after.out ≡ before.out)
Ends live Usage c before after = ⊥

-- Words that are no command are usage, before anything is read or written; a command ends by its causes.
abbrev pub Runs : LiveOutcome → Ending → Option Command → World → World → Type 0
Runs live ending None before after = (ending ≡ Usage) × (after ≡ before)
Runs live ending (Some c) before after = Ends live ending c before after

-- the command that the words of a run are
abbrev pub asked_by : {Z : Type 0} → List (String Z) → Option Command
asked_by words = command_of (map string_bytes words)

-- and that of a run of `krieg_find`
abbrev pub asked_to_find : {Z : Type 0} → List (String Z) → Option Command
asked_to_find words = find_of (map string_bytes words)

-- whether anything is read for the words
abbrev pub reads : Option Command → Bool
reads None = false
reads (Some c) = takes_input c

-- a stream got the line without a fault, or a front part of it where it failed
abbrev pub Gets : List ℕ → Stream → Stream → Type 0
Gets line before after = (Appends before.bytes after.bytes line × NoFault before after) ⊎ (AppendsPrefix before.bytes after.bytes line × FaultsRose before after)

-- err stays as it is where the answer was written, and otherwise gets the ending's line
abbrev pub Reports : Ending → Stream → Stream → Type 0
Reports Answered before after = after ≡ before
Reports ending before after = Gets (line_of ending) before after

-- What becomes of the bench: it is as it was, but where seats may have been called. Where memory ran out under `play`,
-- `lead` or `conduct` it is as it was, or the input was read whole, and a game was begun from the start, or by the guide, that it spells.
abbrev pub LeavesBench : {X : Type 0} → (X → Account) → Option Command → Ending → Stream → Stream → Sides X → Sides X → Type 0
LeavesBench account (Some c) NoMemory input input' entry now =
    (now ≡ entry) ⊎ ((text : List ℕ) × WasTaken c input input' text × HasBegunBy account c text entry now)
LeavesBench account asked ending input input' entry now = calls_seats ending asked ≡ false → now ≡ entry

-- A run ended with this status: by an ending whose causes hold, which err tells, with the bench as it was or as the game left it.
pub record IsRun {X : Type 0} (account : X → Account) (entry now : Sides X) (asked : Option Command) (code : ℕ) (before after : World) (err err' : Stream) : Type 0 where
  pub ending : Ending
  pub status_is : code ≡ status ending
  pub runs : Runs (LivesBy account entry now) ending asked before after
  pub reports : Reports ending err err'
  pub bench : LeavesBench account asked ending before.input after.input entry now
