-- What `umpire` writes for a player is read as his sheet of the game, and `believe` lists where that game stands.
use Rattle.std.proofs.Common.{◌≡◌, ℕ, ◌≤◌, List, [], ◌∷◌, length, map, Option, Some, None, Result, Ok, Err, refl, sym, ap, subst, ◌∙◌, arith, length-append}
use Rattle.std.specs.Prelude.{IfSome}
use Rattle.std.specs.Io.KnownBytes.{Appends, Consumes}
use Rattle.krieg_cli.proofs.Common.{Side, lines, whole, TextFault, TextKind, opening, told, told_line, Line, sheet_at, sheet_text, SessionState, session_at, IsGame, Command, Believe, Umpire, Stream, World, WasRead, text_status, refusal_status, OfText, status, Believed, told_text, LiveOutcome, ComesTo, Answers, Ends, Runs, Reports, heard_sheet, standing, stripped, IsUmpired, IsHeard, TellsGame, EndsOnHeard, UmpiresGames, BelievesGames, Refusal, BadText, TooMany, Ending}
use Rattle.krieg_text.specs.declared.fault.TextFault.TheVariants as fault
use Rattle.krieg_text.specs.declared.fault.TextKind.TheVariants as kind
use Rattle.krieg_umpire.proofs.Stripping.{lines_strip}
use Rattle.krieg_belief.proofs.Prefixes.{excess_not_within}
use Rattle.krieg_umpire.proofs.LastPositions.{last_is_consistent}
use Rattle.krieg_umpire.proofs.SessionFormat.{sheets_again, code_game}
use Rattle.krieg_ports.proofs.ToldBytes.{Consumes_all}
use Rattle.krieg_outcome.specs.declared.ending.Ending.TheVariants as ending

-- Status 0 is that of an answer alone.

bad_text : (k : TextKind) → text_status k ≡ 0 → ⊥
bad_text kind.Syntax h = omega (arith, h)
bad_text _ h = omega (arith, h)

refused : (r : Refusal) → refusal_status r ≡ 0 → ⊥
refused (BadText line k) h = bad_text k h
refused _ h = omega (arith, h)

answered : (e : Ending) → status e ≡ 0 → e ≡ ending.Answered
answered ending.Answered h = refl
answered (ending.Refused r) h = absurd (refused r h)
answered _ h = absurd (omega (arith, h))

pub answers : (plays : LiveOutcome) (e : Ending) (asked : Option Command) (c : Command) (before after : World) (code : ℕ) → Runs plays e asked before after → code ≡ status e → asked ≡ Some c → code ≡ 0 → Answers plays c before after
answers plays e asked c before after code runs is words zero =
    subst (λ x. Ends plays x c before after) (answered e (sym is ∙ zero)) (subst (λ x. Runs plays e x before after) words runs)

-- then err is as it was
pub quiet : (e : Ending) (err err' : Stream) (code : ℕ) → Reports e err err' → code ≡ status e → code ≡ 0 → err' ≡ err
quiet e err err' code reports is zero = subst (λ x. Reports x err err') (answered e (sym is ∙ zero)) reports

-- an answer is that of what the text spells
pub text_spells : {A : Type 0} (Of : A → Result (List ℕ) Refusal → Type 0) (answer : List ℕ) (r : Result A TextFault) → OfText r Of (Ok answer) → (x : A) × (r ≡ Ok x) × Of x (Ok answer)
text_spells Of answer (Ok x) h = (x, refl, h)
text_spells Of answer (Err (fault.At line kind)) h = absurd cc
text_spells Of answer (Err fault.NoMemory) h = absurd h

pub same_answer : (x y : List ℕ) → ◌≡◌ {A = Result (List ℕ) Refusal} (Ok x) (Ok y) → x ≡ y
same_answer x y e = cc

pub not_refused : (r : Refusal) (y : List ℕ) → ◌≡◌ {A = Result (List ℕ) Refusal} (Err r) (Ok y) → ⊥
not_refused r y e = cc

-- What is written.

heard : (given : List ℕ) (s : SessionState) (who : Side) (text : List ℕ) → IsUmpired given s who text → IsHeard s who text
heard given s who text u =
    let game : IsGame s = code_game (λ x. x) (Ok s) (lines given) u.spelled in
    record {
      read = ap (λ t. whole sheet_at (lines t)) u.told ∙ sheets_again s.dialect s.start s.events who game.valid game.tries;
      consistent = last_is_consistent s.dialect s.start s.events who;
    }

-- the player's lines are the same without the other's tries that are not done, and so is his sheet
same : (s : SessionState) (who : Side) → told_text s (Some who) ≡ told_text (stripped s who) (Some who)
same s who =
    ap (λ (ls : List Line). sheet_text (record { dialect = s.dialect; side = who; list = s.start ∷ []; opens = Some (told s.dialect (opening s.start)); entries = map (told_line s.dialect) ls }))
    (lines_strip s.start s.events who)

told_game : (plays : LiveOutcome) (who : Side) (before after : World) → Answers plays (Umpire (Some who)) before after → TellsGame who before after
told_game plays who before after (text, (given, read, comes), written, kept) =
    let (s, spells, told) = text_spells (λ s outcome. outcome ≡ Ok (told_text s (Some who))) text (whole session_at (lines given)) comes in
    let u : IsUmpired given s who text = record { spelled = spells; told = same_answer text (told_text s (Some who)) told } in
    record { given = given; session = s; text = text; was_read = read; umpired = u; heard = heard given s who text u; same = u.told ∙ same s who; written = written }

pub umpires_games : (plays : LiveOutcome) (e : Ending) (asked : Option Command) (before after : World) (code : ℕ) → Runs plays e asked before after → code ≡ status e → UmpiresGames asked code before after
umpires_games plays e asked before after code runs is who words zero = told_game plays who before after (answers plays e asked (Umpire (Some who)) before after code runs is words zero)

-- What is believed.

-- the text that was read is the one that the input held
pub text_read : (before after : Stream) (text read : List ℕ) → before.bytes ≡ Some text → WasRead before after read → read ≡ text
text_read before after text read holds was = sym (subst (λ b. IfSome b (λ bytes. bytes ≡ read)) holds (Consumes_all before.bytes after.bytes read was.0 was.1))

pub given_le : (old new : Option (List ℕ)) (text given : List ℕ) → old ≡ Some text → Consumes old new given → length given ≤ length text
given_le old new text given holds took = within new (subst (λ b. Consumes b new given) holds took)
  where
    within : (new : Option (List ℕ)) → Consumes (Some text) new given → length given ≤ length text
    within None h = absurd h
    within (Some rest) h = omega (arith, ap (λ (t : List ℕ). length t) h, length-append given rest)

-- what `believe` comes to on that text
believed : (plays : LiveOutcome) (limit : ℕ) (given : List ℕ) (s : SessionState) (who : Side) (text : List ℕ) (before after : World) (outcome : Result (List ℕ) Refusal) →
    IsUmpired given s who text → before.input.bytes ≡ Some text → ComesTo plays (Believe limit) before after outcome → Believed limit (heard_sheet s who) outcome
believed plays limit given s who text before after outcome u holds (read, was, made) =
    subst (λ r. OfText r (Believed limit) outcome)
    (ap (λ t. whole sheet_at (lines t)) (text_read before.input after.input text read holds was) ∙ (heard given s who text u).read)
    made

refused_on_heard : (r : Refusal) (limit : ℕ) (s : SessionState) (who : Side) (text : List ℕ) (before after : World) →
    Believed limit (heard_sheet s who) (Err r) → EndsOnHeard (ending.Refused r) limit s who text before after
refused_on_heard (TooMany line) limit s who text before after h = excess_not_within (heard_sheet s who) limit line h
refused_on_heard _ limit s who text before after h = h

ends_on_heard : (plays : LiveOutcome) (e : Ending) (limit : ℕ) (given : List ℕ) (s : SessionState) (who : Side) (text : List ℕ) (before after : World) →
    IsUmpired given s who text → before.input.bytes ≡ Some text → Ends plays e (Believe limit) before after → EndsOnHeard e limit s who text before after
ends_on_heard plays ending.Answered limit given s who text before after u holds (answer, comes, written, kept) =
    let (list, possible, within, is) = believed plays limit given s who text before after (Ok answer) u holds comes in
    record {
      list = list;
      possible = possible;
      listed = (possible.exact (standing s)).1 (heard given s who text u).consistent;
      written = subst (Appends before.out.bytes after.out.bytes) is written;
    }
ends_on_heard plays ending.TooLong limit given s who text before after u holds ((takes, (took, consumed, long), kept), out) =
    omega (arith, long, given_le before.input.bytes after.input.bytes text took holds consumed)
ends_on_heard plays ending.ReadFault limit given s who text before after u holds ((takes, came, rose), out) = rose
ends_on_heard plays ending.WriteFault limit given s who text before after u holds (answer, comes, front, rose) = rose
ends_on_heard plays ending.NoMemory limit given s who text before after u holds e = tt
ends_on_heard plays (ending.Refused r) limit given s who text before after u holds e =
    refused_on_heard r limit s who text before after (believed plays limit given s who text before after (Err r) u holds e.0)
ends_on_heard plays _ limit given s who text before after u holds e = e

pub believes_games : (plays : LiveOutcome) (e : Ending) (asked : Option Command) (before after : World) (code : ℕ) → Runs plays e asked before after → code ≡ status e → BelievesGames asked code before after
believes_games plays e asked before after code runs ended =
    (e, ended, λ limit given s who text is u holds. ends_on_heard plays e limit given s who text before after u holds (subst (λ x. Runs plays e x before after) is runs))
