-- What comes of the input: it is read to its end, or no further than one byte more than it may have.
use Rattle.std.specs.Prelude.{ℕ, true, ◌≡◌, ◌≤◌, List, [], length, MatchBool}
use Rattle.std.specs.Io.KnownBytes.{Consumes, IsAtEnd}
use Rattle.krieg_ports.specs.Bytes.{Gave}
use Rattle.krieg_ports.specs.ReadEnd.{CameBefore}
use Rattle.krieg_ports.specs.declared.transfer.ReadEnd.{ReadEnd}
use Rattle.krieg_ports.specs.declared.transfer.ReadEnd.TheVariants as unread
use Rattle.krieg_args.specs.Command.{takes_input}
use Rattle.krieg_args.specs.declared.command.Command.{Command}
use Rattle.krieg_cli.specs.World.{Stream, FaultsRose, NoFault}
use Rattle.krieg_outcome.specs.declared.ending.Ending.{Ending}
use Rattle.krieg_outcome.specs.declared.ending.Ending.TheVariants.{TooLong, ReadFault, NoMemory}
use Rattle.krieg_outcome.specs.declared.limits.TheConstants.{MOST_INPUT}

-- the source gave this text and is at its end, no call of it failed, and the text is not too long
abbrev pub WasRead : Stream → Stream → List ℕ → Type 0
WasRead before after text = Consumes before.bytes after.bytes text × IsAtEnd after.bytes × NoFault before after × (length text ≤ MOST_INPUT)

-- the text that a command has: its input, or none where it takes no input
abbrev pub WasTaken : Command → Stream → Stream → List ℕ → Type 0
WasTaken c before after text = MatchBool (takes_input c) (WasRead before after text) ((text ≡ []) × (after ≡ before))

-- the source gave so many bytes before it was not read to its end: one too many, or no more than there may be
abbrev pub Came : ReadEnd → Stream → Stream → Type 0
Came why before after = Gave before.bytes after.bytes (CameBefore why MOST_INPUT)

-- Why a command has no text: one byte too many came before any fault, or a read failed when no more had come than there may be.
-- No more had come either, and no read had failed, when memory ran out, then or later.
abbrev pub FailsToTake : Ending → Command → Stream → Stream → Type 0
FailsToTake TooLong c before after = (takes_input c ≡ true) × Came unread.TooLong before after × NoFault before after
FailsToTake ReadFault c before after = (takes_input c ≡ true) × Came unread.ReadFault before after × FaultsRose before after
FailsToTake NoMemory c before after = Came unread.NoMemory before after × NoFault before after
FailsToTake _ c before after = ⊥
