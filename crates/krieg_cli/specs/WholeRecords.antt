-- `san` and `unsan` together: what comes back of a session.
use Rattle.std.specs.Prelude.{◌≡◌, ℕ, ◌<◌, List, length, Option, Some, None, Ok}
use Rattle.std.specs.Io.KnownBytes.{Appends}
use Rattle.krieg_text.specs.Lines.{lines}
use Rattle.krieg_text.specs.Reading.{whole}
use Rattle.krieg_words.specs.declared.dialects.Dialect.TheVariants.{Wild16}
use Rattle.krieg_umpire.specs.Games.{judge}
use Rattle.krieg_umpire.specs.Sessions.{SessionState}
use Rattle.krieg_umpire.specs.SessionReading.{session_at}
use Rattle.krieg_umpire.specs.SessionText.{session_text}
use Rattle.krieg_umpire.specs.Scores.{done_events, san_of}
use Rattle.krieg_args.specs.declared.command.Command.{Command}
use Rattle.krieg_args.specs.declared.command.Command.TheVariants.{Unsan}
use Rattle.krieg_cli.specs.World.{World, FaultsRose}
use Rattle.krieg_outcome.specs.Ending.{EndsSo}
use Rattle.krieg_outcome.specs.declared.ending.Ending.{Ending}
use Rattle.krieg_outcome.specs.declared.ending.Ending.TheVariants.{Answered, TooLong, ReadFault, WriteFault, NoMemory}
use Rattle.krieg_outcome.specs.declared.limits.TheConstants.{MOST_INPUT}

-- the session of the tries that were done: it begins where that one does, is in wild16, and does not tell why the game stopped
abbrev pub done_session : SessionState → SessionState
done_session s = record { dialect = Wild16; start = s.start; events = done_events (judge s.start s.events); stop = None }

-- `given` spells the session, and the text is what `san` writes of it
pub record IsScored (given : List ℕ) (s : SessionState) (text : List ℕ) : Type 0 where
  pub spelled : whole session_at (lines given) ≡ Ok s
  pub written : text ≡ san_of s

-- `unsan` wrote the session of the tries that were done, and its text is read as that session
pub record WritesDone (s : SessionState) (before after : World) : Type 0 where
  pub written : Appends before.out.bytes after.out.bytes (session_text (done_session s))
  pub again : whole session_at (lines (session_text (done_session s))) ≡ Ok (done_session s)

-- How `unsan` ends on a text that `san` wrote: with that session, unless the text is too long for an input, a stream fails, or
-- memory runs out.
abbrev pub EndsOnRecord : Ending → SessionState → List ℕ → World → World → Type 0
EndsOnRecord Answered s text before after = WritesDone s before after
EndsOnRecord TooLong s text before after = MOST_INPUT < length text
EndsOnRecord ReadFault s text before after = FaultsRose before.input after.input
EndsOnRecord WriteFault s text before after = FaultsRose before.out after.out
EndsOnRecord NoMemory s text before after = Unit {0}
EndsOnRecord _ s text before after = ⊥

-- with the word of `unsan` a run ends so on every text that `san` writes, where the input holds it
abbrev pub ReturnsGames : Option Command → ℕ → World → World → Type 0
ReturnsGames asked code before after = EndsSo code (λ ending.
    (given : List ℕ) (s : SessionState) (text : List ℕ) →
    asked ≡ Some Unsan → IsScored given s text → before.input.bytes ≡ Some text → EndsOnRecord ending s text before after)
