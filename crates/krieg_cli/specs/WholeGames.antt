-- The umpire and `believe` together: what a player who heard a whole game is told of it.
use Rattle.std.specs.Prelude.{◌≡◌, ℕ, ◌<◌, List, length, Option, Some, Ok}
use Rattle.std.specs.Io.KnownBytes.{Appends}
use Rattle.krieg_board.specs.Pos.{Pos}
use Rattle.krieg_board.specs.declared.men.Side.{Side}
use Rattle.krieg_text.specs.Lines.{lines}
use Rattle.krieg_text.specs.Reading.{whole}
use Rattle.krieg_umpire.specs.Games.{last}
use Rattle.krieg_umpire.specs.Hearing.{strip}
use Rattle.krieg_sheet.specs.Games.{IsConsistent}
use Rattle.krieg_sheet.specs.Sheets.{SheetState}
use Rattle.krieg_sheet.specs.SheetReading.{sheet_at}
use Rattle.krieg_sheet.specs.SheetText.{answer_text}
use Rattle.krieg_theory.specs.Sets.{In}
use Rattle.krieg_belief.specs.Possible.{IsPossible}
use Rattle.krieg_belief.specs.Limits.{AllWithin}
use Rattle.krieg_umpire.specs.Sessions.{SessionState}
use Rattle.krieg_umpire.specs.SessionReading.{session_at}
use Rattle.krieg_umpire.specs.Telling.{sheet_of}
use Rattle.krieg_args.specs.declared.command.Command.{Command}
use Rattle.krieg_args.specs.declared.command.Command.TheVariants.{Believe, Umpire}
use Rattle.krieg_cli.specs.World.{World, FaultsRose}
use Rattle.krieg_cli.specs.Input.{WasRead}
use Rattle.krieg_outcome.specs.Umpire.{told_text}
use Rattle.krieg_outcome.specs.Ending.{EndsSo}
use Rattle.krieg_outcome.specs.declared.refusal.Refusal.TheVariants.{TooMany}
use Rattle.krieg_outcome.specs.declared.ending.Ending.{Ending}
use Rattle.krieg_outcome.specs.declared.ending.Ending.TheVariants.{Answered, TooLong, ReadFault, WriteFault, NoMemory, Refused}
use Rattle.krieg_outcome.specs.declared.limits.TheConstants.{MOST_INPUT}

-- a player's sheet of a session
abbrev pub heard_sheet : SessionState → Side → SheetState
heard_sheet s who = sheet_of s.dialect s.start s.events who

-- the position in which the game of a session stands
abbrev pub standing : SessionState → Pos
standing s = last s.start s.events

-- the session without the other player's tries that are not done
abbrev pub stripped : SessionState → Side → SessionState
stripped s who = record s { events = strip s.start s.events who }

-- `given` spells the session, and the text is what `umpire` tells that player of it
pub record IsUmpired (given : List ℕ) (s : SessionState) (who : Side) (text : List ℕ) : Type 0 where
  pub spelled : whole session_at (lines given) ≡ Ok s
  pub told : text ≡ told_text s (Some who)

-- the text is read as the player's sheet of the session, and the position in which the game stands is consistent with it
pub record IsHeard (s : SessionState) (who : Side) (text : List ℕ) : Type 0 where
  pub read : whole sheet_at (lines text) ≡ Ok (heard_sheet s who)
  pub consistent : IsConsistent (heard_sheet s who) (standing s)

-- `umpire` read a session, and wrote a text that is read as the player's sheet of it; the text is the same for the session
-- without the other player's tries that are not done
pub record TellsGame (who : Side) (before after : World) : Type 0 where
  pub given : List ℕ
  pub session : SessionState
  pub text : List ℕ
  pub was_read : WasRead before.input after.input given
  pub umpired : IsUmpired given session who text
  pub heard : IsHeard session who text
  pub same : text ≡ told_text (stripped session who) (Some who)
  pub written : Appends before.out.bytes after.out.bytes text

-- `believe` wrote a list of what is possible for the player, and the position in which the game stands is in it
pub record ListsStanding (s : SessionState) (who : Side) (before after : World) : Type 0 where
  pub list : List Pos
  pub possible : IsPossible (heard_sheet s who) list
  pub listed : In (standing s) list
  pub written : Appends before.out.bytes after.out.bytes (answer_text s.dialect who list)

-- How `believe` ends on a text that `umpire` wrote: with that list, unless the text is too long for an input, some part of
-- the sheet leaves more positions open than the limit allows, a stream fails, or memory runs out.
abbrev pub EndsOnHeard : Ending → ℕ → SessionState → Side → List ℕ → World → World → Type 0
EndsOnHeard Answered limit s who text before after = ListsStanding s who before after
EndsOnHeard TooLong limit s who text before after = MOST_INPUT < length text
EndsOnHeard (Refused (TooMany line)) limit s who text before after = AllWithin limit (heard_sheet s who) → ⊥
EndsOnHeard ReadFault limit s who text before after = FaultsRose before.input after.input
EndsOnHeard WriteFault limit s who text before after = FaultsRose before.out after.out
EndsOnHeard NoMemory limit s who text before after = Unit {0}
EndsOnHeard _ limit s who text before after = ⊥

-- Of the words that a run was asked by.

-- with the words of `umpire` for a player, status 0 tells him the game
abbrev pub UmpiresGames : Option Command → ℕ → World → World → Type 0
UmpiresGames asked code before after = (who : Side) → asked ≡ Some (Umpire (Some who)) → code ≡ 0 → TellsGame who before after

-- with the words of `believe` a run ends so on every text that `umpire` writes, where the input holds it
abbrev pub BelievesGames : Option Command → ℕ → World → World → Type 0
BelievesGames asked code before after = EndsSo code (λ ending.
    (limit : ℕ) (given : List ℕ) (s : SessionState) (who : Side) (text : List ℕ) →
    asked ≡ Some (Believe limit) → IsUmpired given s who text → before.input.bytes ≡ Some text → EndsOnHeard ending limit s who text before after)
