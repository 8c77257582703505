-- How a program ends, whatever words the system gives.
use Rattle.std.specs.Prelude.{ℕ, ◌≡◌, ◌⊎◌, List, [], ◌∷◌, Option, Some, None, codes}
use Rattle.krieg_seats.specs.Accounts.{Account, new_account}
use Rattle.krieg_play.specs.Teams.{team}
use Rattle.krieg_play.specs.Played.{Sides, sides}
use Rattle.krieg_args.specs.Command.{command_of, find_of}
use Rattle.krieg_args.specs.Files.{Files, seat_files, lead_files, conduct_files}
use Rattle.krieg_args.specs.declared.command.Command.{Command}
use Rattle.krieg_cli.specs.World.{Stream, World}
use Rattle.krieg_cli.specs.Top.{IsRun, Gets}
use Rattle.krieg_cli.specs.declared.shell.Program.{Program}
use Rattle.krieg_cli.specs.declared.shell.Program.TheVariants.{Krieg, Find}

-- the command that the words are of the program
abbrev pub asked_of : Program → List (List ℕ) → Option Command
asked_of Krieg words = command_of words
asked_of Find words = find_of words

-- the files of two players, with the words of `play`
abbrev pub players_of : Program → List (List ℕ) → Option Files
players_of Krieg words = seat_files words
players_of Find words = None

-- the files of an opponent, with the words of `lead` or of `conduct`
abbrev pub opponent_of : Program → List (List ℕ) → Option (List ℕ × List ℕ)
opponent_of Krieg words = lead_files words
opponent_of Find words = conduct_files words

-- what a player is, by the names of the two files that he is made of: where his tries come from, and where he is told
abbrev pub Made : Type 0
Made = List ℕ → List ℕ → Account

-- one player on each side: White's made of the first two files, and Black's of the last two
abbrev pub both_at : Made → Files → Sides Account
both_at made files = sides (team (made files.win files.wout ∷ []) []) (team (made files.bin files.bout ∷ []) [])

-- one player, made of the two files, on White's side
abbrev pub one_at : Made → List ℕ × List ℕ → Sides Account
one_at made files = sides (team (made files.0 files.1 ∷ []) []) (team [] [])

-- Who sits when a run begins: with the words of `play` one player on each side, with those of `lead` or `conduct` the opponent, and
-- nobody otherwise.
abbrev pub seated : Made → Option Files → Option (List ℕ × List ℕ) → Sides Account
seated made (Some files) opponent = both_at made files
seated made None (Some files) = one_at made files
seated made None None = sides (team [] []) (team [] [])

-- a run of what was asked, where these players sit
abbrev pub RunsSo : Sides Account → Option Command → ℕ → World → World → Stream → Stream → Type 0
RunsSo entry asked code before after err err' =
    (now : Sides Account) × IsRun (λ account. account) entry now asked code before after err err'

-- there was no memory for the words or the players, and nothing was read or written but the line that says so
abbrev pub HasNoMemory : ℕ → World → World → Stream → Stream → Type 0
HasNoMemory code before after err err' = (code ≡ 11) × (after ≡ before) × Gets (codes "krieg: want of memory\n") err err'

-- a run of what was asked with these players, or that memory was wanting
abbrev pub StartsAt : Sides Account → Option Command → ℕ → World → World → Stream → Stream → Type 0
StartsAt entry asked code before after err err' = RunsSo entry asked code before after err err' ⊎ HasNoMemory code before after err err'

-- a start of the program with these words: the players sit whom they ask for
abbrev pub StartsWith : Made → Program → List (List ℕ) → ℕ → World → World → Stream → Stream → Type 0
StartsWith made program words = StartsAt (seated made (players_of program words) (opponent_of program words)) (asked_of program words)

-- a start of the program with some words, whose players have said and heard nothing yet
abbrev pub Starts : Program → ℕ → World → World → Stream → Stream → Type 0
Starts program code before after err err' =
    ((words : List (List ℕ)) × StartsWith (λ tries told. new_account) program words code before after err err') ⊎ HasNoMemory code before after err err'
