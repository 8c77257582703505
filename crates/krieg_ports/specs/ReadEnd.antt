-- How many bytes a source gave before it was not read to its end.
use Rattle.std.specs.Prelude.{◌≡◌, ℕ, ◌+◌, ◌≤◌}
use Rattle.krieg_ports.specs.declared.transfer.ReadEnd.{ReadEnd}
use Rattle.krieg_ports.specs.declared.transfer.ReadEnd.TheVariants.{ReadFault, TooLong, NoMemory}

-- the number of bytes that came before each failure of a read of at most `max` bytes: one too many
-- where it was too long, and no more than were allowed before a fault or want of memory
abbrev pub CameBefore : ReadEnd → ℕ → ℕ → Type 0
CameBefore TooLong max n = n ≡ max + 1
CameBefore ReadFault max n = n ≤ max
CameBefore NoMemory max n = n ≤ max
