-- What `san` writes of a session is a record of which `unsan` makes the session of the tries that were done.
use Rattle.std.proofs.Common.{◌≡◌, ℕ, List, Option, Some, None, Result, Ok, Err, ap, subst, ◌∙◌, arith}
use Rattle.std.specs.Io.KnownBytes.{Appends}
use Rattle.krieg_cli.proofs.Common.{lines, whole, Wild16, Event, SessionState, session_at, session_text, IsGame, record_at, record_of, unsan_of, Command, Unsan, World, OfText, status, LiveOutcome, ComesTo, Ends, Runs, done_session, IsScored, EndsOnRecord, ReturnsGames, Refusal, Ending}
use Rattle.krieg_umpire.proofs.SessionFormat.{code_game}
use Rattle.krieg_umpire.specs.Scores.{session_of}
use Rattle.krieg_umpire.proofs.DoneMoves.{done_tries, sans_again, unsans_again, record_is}
use Rattle.krieg_outcome.specs.declared.ending.Ending.TheVariants as ending
use Rattle.krieg_cli.proofs.WholeGames.{text_read, given_le, same_answer, not_refused}

-- the session of the record of a session is that of its tries that were done
done : (s : SessionState) → session_of (record_of s) ≡ done_session s
done s = ap (λ (es : List Event). record { dialect = Wild16; start = s.start; events = es; stop = None }) (done_tries s.start s.events)

game : (given : List ℕ) (s : SessionState) (text : List ℕ) → IsScored given s text → IsGame s
game given s text scored = code_game (λ x. x) (Ok s) (lines given) scored.spelled

-- what `unsan` comes to on that text
comes_back : (plays : LiveOutcome) (given : List ℕ) (s : SessionState) (text : List ℕ) (before after : World) (outcome : Result (List ℕ) Refusal) →
    IsScored given s text → before.input.bytes ≡ Some text → ComesTo plays Unsan before after outcome → outcome ≡ Ok (session_text (done_session s))
comes_back plays given s text before after outcome scored holds (read, was, made) =
    subst (λ r. OfText r (λ g written. written ≡ Ok (unsan_of g)) outcome)
    (ap (λ t. whole record_at (lines t)) (text_read before.input after.input text read holds was ∙ scored.written) ∙ sans_again s (game given s text scored).valid)
    made
    ∙ ap (λ (x : SessionState). Ok (session_text x)) (done s)

read_again : (given : List ℕ) (s : SessionState) (text : List ℕ) → IsScored given s text → whole session_at (lines (session_text (done_session s))) ≡ Ok (done_session s)
read_again given s text scored =
    subst (λ (x : SessionState). whole session_at (lines (session_text x)) ≡ Ok x) (done s) (unsans_again (record_of s) (record_is s (game given s text scored).valid))

ends_on_record : (plays : LiveOutcome) (e : Ending) (given : List ℕ) (s : SessionState) (text : List ℕ) (before after : World) →
    IsScored given s text → before.input.bytes ≡ Some text → Ends plays e Unsan before after → EndsOnRecord e s text before after
ends_on_record plays ending.Answered given s text before after scored holds (answer, comes, written, kept) = record {
  written = subst (Appends before.out.bytes after.out.bytes) (same_answer answer _ (comes_back plays given s text before after (Ok answer) scored holds comes)) written;
  again = read_again given s text scored;
}
ends_on_record plays ending.TooLong given s text before after scored holds ((takes, (took, consumed, long), kept), out) =
    omega (arith, long, given_le before.input.bytes after.input.bytes text took holds consumed)
ends_on_record plays ending.ReadFault given s text before after scored holds ((takes, came, rose), out) = rose
ends_on_record plays ending.WriteFault given s text before after scored holds (answer, comes, front, rose) = rose
ends_on_record plays ending.NoMemory given s text before after scored holds e = tt
ends_on_record plays (ending.Refused r) given s text before after scored holds e =
    not_refused r _ (comes_back plays given s text before after (Err r) scored holds e.0)
ends_on_record plays _ given s text before after scored holds e = e

pub returns_games : (plays : LiveOutcome) (e : Ending) (asked : Option Command) (before after : World) (code : ℕ) → Runs plays e asked before after → code ≡ status e → ReturnsGames asked code before after
returns_games plays e asked before after code runs ended =
    (e, ended, λ given s text is scored holds. ends_on_record plays e given s text before after scored holds (subst (λ x. Runs plays e x before after) is runs))
