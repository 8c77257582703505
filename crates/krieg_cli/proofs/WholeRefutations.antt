-- A run of `refute` that answers writes a refutation, and one like those is judged by `deny` with its number of moves.
use Rattle.std.proofs.Common.{◌≡◌, ℕ, ◌<◌, ◌≤◌, List, length, Option, Some, Result, Ok, Err, ap, subst, ◌∙◌, arith}
use Rattle.std.proofs.lemmas.Bool.{both_ways}
use Rattle.std.specs.Io.KnownBytes.{Appends}
use Rattle.krieg_cli.proofs.Common.{Pos, lines, whole, SheetState, RefutationState, refutation_at, Command, Refute, Deny, World, OfText, status, IsDenialText, Claimed, has_no_turn, Judged, LiveOutcome, ComesTo, Ends, Runs, IsRefutation, sheet_file, WritesRefutation, RefutesSheets, EndsOnRefutation, DeniesRefutations, MOST_INPUT, Refusal, BudgetSpent, RefutationFails, Ending}
use Rattle.krieg_refutefile.proofs.Sizes.{read_short}
use Rattle.krieg_outcome.specs.declared.ending.Ending.TheVariants as ending
use Rattle.krieg_cli.proofs.WholeGames.{answers, text_read, given_le}
use Rattle.krieg_cli.proofs.Headline.{sheet_of}

-- ---- refute

-- what is told is what is written
told : (n : ℕ) (s : SheetState) (S : List Pos) (before after : World) (answer : List ℕ) → Appends before.out.bytes after.out.bytes answer → IsDenialText s.dialect s.side S n answer →
    WritesRefutation n s S before after
told n s S before after answer written t = record {
  refutation = record { read = subst (λ text. whole refutation_at (lines text) ≡ Ok (sheet_file n s S)) t.text t.again; holds = t.refutes };
  none_mates = t.none_mates;
  written = subst (Appends before.out.bytes after.out.bytes) t.text written;
  short = subst (λ (text : List ℕ). length text ≤ MOST_INPUT) t.text t.short;
}

pub refutes_sheets : (plays : LiveOutcome) (e : Ending) (asked : Option Command) (before after : World) (code : ℕ) → Runs plays e asked before after → code ≡ status e → RefutesSheets asked code before after
refutes_sheets plays e asked before after code runs is n budget limit words zero =
    let (answer, came, written, kept) = answers plays e asked (Refute n budget limit) before after code runs is words zero in
    let (text, read, searched) = came in
    let (s, S, sheet, claimed) = sheet_of Claimed has_no_turn n budget limit before after text answer read searched in
    (s, S, sheet, told n s S before after answer written claimed.1)

-- ---- deny

-- what `deny` comes to on that text
judged : (plays : LiveOutcome) (budget : ℕ) (f : RefutationState) (text : List ℕ) (before after : World) (outcome : Result (List ℕ) Refusal) → IsRefutation f text → before.input.bytes ≡ Some text →
    ComesTo plays (Deny budget) before after outcome → Judged budget f outcome
judged plays budget f text before after outcome refutation holds (read, was, made) =
    subst (λ r. OfText r (Judged budget) outcome) (ap (λ t. whole refutation_at (lines t)) (text_read before.input after.input text read holds was) ∙ refutation.read) made

refused : (r : Refusal) (budget : ℕ) (f : RefutationState) (text : List ℕ) (before after : World) → IsRefutation f text → Judged budget f (Err r) → EndsOnRefutation (ending.Refused r) budget f text before after
refused BudgetSpent budget f text before after refutation h = h
refused RefutationFails budget f text before after refutation h = both_ways _ h.1 refutation.holds
refused _ budget f text before after refutation h = h

ends_on_refutation : (plays : LiveOutcome) (e : Ending) (budget : ℕ) (f : RefutationState) (text : List ℕ) (before after : World) → IsRefutation f text → before.input.bytes ≡ Some text →
    Ends plays e (Deny budget) before after → EndsOnRefutation e budget f text before after
ends_on_refutation plays ending.Answered budget f text before after refutation holds (answer, comes, written, kept) =
    let is = judged plays budget f text before after (Ok answer) refutation holds comes in
    (subst (Appends before.out.bytes after.out.bytes) is.3 written, is.2)
ends_on_refutation plays ending.TooLong budget f text before after refutation holds ((takes, (took, consumed, long), kept), out) =
    let more : MOST_INPUT < length text = omega (arith, long, given_le before.input.bytes after.input.bytes text took holds consumed) in
    (more, λ own. let few = read_short (lines text) f refutation.read in omega (arith, more, few, ap (λ (t : List ℕ). length t) own))
ends_on_refutation plays ending.ReadFault budget f text before after refutation holds ((takes, came, rose), out) = rose
ends_on_refutation plays ending.WriteFault budget f text before after refutation holds (answer, comes, front, rose) = rose
ends_on_refutation plays ending.NoMemory budget f text before after refutation holds e = tt
ends_on_refutation plays (ending.Refused r) budget f text before after refutation holds e =
    refused r budget f text before after refutation (judged plays budget f text before after (Err r) refutation holds e.0)
ends_on_refutation plays _ budget f text before after refutation holds e = e

pub denies_refutations : (plays : LiveOutcome) (e : Ending) (asked : Option Command) (before after : World) (code : ℕ) → Runs plays e asked before after → code ≡ status e → DeniesRefutations asked code before after
denies_refutations plays e asked before after code runs ended =
    (e, ended, λ budget f text is refutation holds. ends_on_refutation plays e budget f text before after refutation holds (subst (λ x. Runs plays e x before after) is runs))
