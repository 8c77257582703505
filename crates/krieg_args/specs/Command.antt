-- Which command the words after a program's name are.
use Rattle.std.specs.Prelude.{ℕ, ◌≤◌, Bool, true, false, List, Option}
use Rattle.std.specs.Option.{option_or}
use Rattle.krieg_board.specs.declared.limits.TheConstants.{MOST_MOVES}
use Rattle.krieg_fen.specs.declared.forms.TheConstants.{MOST_LISTED}
use Rattle.krieg_args.specs.Kinds.{made_of, find_search}
use Rattle.krieg_args.specs.Rows.{command_in, krieg_rows, find_rows}
use Rattle.krieg_args.specs.declared.command.TheConstants.{MOST_SEED, MOST_FIND_MOVES}
use Rattle.krieg_args.specs.declared.command.Command.{Command}
use Rattle.krieg_args.specs.declared.command.Command.TheVariants.{Solve, Refute, Lead, Find, Keys, Share, Conduct, Make, Job}

-- the command of these words of krieg, where they are one
unfoldable pub command_of : List (List ℕ) → Option Command
command_of words = command_in krieg_rows words

-- the command of these words of krieg_find, where they are one; the three numbers of a search without a name are those of `find`
unfoldable pub find_of : List (List ℕ) → Option Command
find_of words = option_or (command_in find_rows words) (made_of find_search Find words)

-- whether the command reads an input: a made input is not read
abbrev pub takes_input : Command → Bool
takes_input (Make what number) = false
takes_input (Job number) = false
takes_input _ = true

-- What the ranges of its words say of the numbers of a command: those of a search are within the most own moves and the most positions
-- that may be asked for, a refutation is for one own move at least, listed positions are numbered from 1, and the number of a made input
-- is within the greatest.
abbrev pub IsInRange : Command → Type 0
IsInRange (Solve moves budget limit) = (moves ≤ MOST_MOVES) × (limit ≤ MOST_LISTED)
IsInRange (Find moves budget limit) = (moves ≤ MOST_FIND_MOVES) × (limit ≤ MOST_LISTED)
IsInRange (Keys moves budget limit) = (moves ≤ MOST_FIND_MOVES) × (limit ≤ MOST_LISTED)
IsInRange (Share moves budget limit) = (moves ≤ MOST_FIND_MOVES) × (limit ≤ MOST_LISTED)
IsInRange (Refute moves budget limit) = (1 ≤ moves) × (moves ≤ MOST_MOVES) × (limit ≤ MOST_LISTED)
IsInRange (Lead asks number) = 1 ≤ number
IsInRange (Conduct asks number) = 1 ≤ number
IsInRange (Make what number) = number ≤ MOST_SEED
IsInRange (Job number) = number ≤ MOST_SEED
IsInRange _ = Unit {0}
