-- A run of `solve`, of `find`, of `keys` or of `share` that answers keeps the promise of the headline.
use Rattle.std.proofs.Common.{◌≡◌, ◌⊎◌, inl, inr, ℕ, Bool, List, length, ◌≤◌, Option, Ok, subst}
use Rattle.std.specs.Io.KnownBytes.{Appends}
use Rattle.krieg_cli.proofs.Common.{Pos, lines, whole, SheetState, sheet_at, is_over, plan_at, Command, Solve, Find, Keys, Share, Stream, World, WasRead, status, Search, Searches, OfSheet, Searched, Keyed, SharedBy, Tells, TellsKeys, TellsShared, NoneMates, none_text, strategy_at, LiveOutcome, ComesTo, Runs, Reports, HasSheet, Writing, AnswersBy, WritesPlan, WritesNone, WritesKeys, WritesStrategy, SolvesSheets, FindsSheets, ListsKeys, SharesPlans, MOST_INPUT, Ending}
use Rattle.krieg_outcome.specs.Find.{Found}
use Rattle.krieg_cli.proofs.WholeGames.{answers, quiet, text_spells}

-- ---- what is told is what is written

none_written : (n : ℕ) (s : SheetState) (S : List Pos) (before after : World) (answer : List ℕ) → NoneMates s.dialect s.side S n × (answer ≡ none_text n) → Appends before.out.bytes after.out.bytes answer → WritesNone n s S before after
none_written n s S before after answer (none, text) written = record { none_mates = none; written = subst (Appends before.out.bytes after.out.bytes) text written }

plan_written : (n : ℕ) (s : SheetState) (S : List Pos) (before after : World) (answer : List ℕ) → Tells s.dialect s.side S n answer → Appends before.out.bytes after.out.bytes answer →
    WritesPlan n s S before after ⊎ WritesNone n s S before after
plan_written n s S before after answer (inl t) written = inl (record {
  file = t.file;
  dialect = t.best.dialect;
  side = t.best.side;
  list = t.best.list;
  mates = t.best.mates;
  within = t.best.within;
  least = t.best.least;
  written = subst (Appends before.out.bytes after.out.bytes) t.text written;
  again = subst (λ text. whole plan_at (lines text) ≡ Ok t.file) t.text t.again;
  short = subst (λ (text : List ℕ). length text ≤ MOST_INPUT) t.text t.short;
})
plan_written n s S before after answer (inr none) written = inr (none_written n s S before after answer none written)

keys_written : (n : ℕ) (s : SheetState) (S : List Pos) (before after : World) (answer : List ℕ) → TellsKeys s.dialect s.side S n answer → Appends before.out.bytes after.out.bytes answer →
    WritesKeys n s S before after ⊎ WritesNone n s S before after
keys_written n s S before after answer (inl keys) written = inl (record { answer = answer; keys = keys; written = written })
keys_written n s S before after answer (inr none) written = inr (none_written n s S before after answer none written)

strategy_written : (n : ℕ) (s : SheetState) (S : List Pos) (before after : World) (answer : List ℕ) → TellsShared s.dialect s.side S n answer → Appends before.out.bytes after.out.bytes answer →
    WritesStrategy n s S before after ⊎ WritesNone n s S before after
strategy_written n s S before after answer (inl t) written = inl (record {
  strategy = t.strategy;
  shared = t.shared;
  mates = t.shared.best.best.worst_case.mates_within;
  within = t.shared.best.best.within;
  least = t.shared.best.best.least;
  written = subst (Appends before.out.bytes after.out.bytes) t.text written;
  again = subst (λ text. whole strategy_at (lines text) ≡ Ok t.strategy) t.text t.again;
  short = subst (λ (text : List ℕ). length text ≤ MOST_INPUT) t.text t.short;
})
strategy_written n s S before after answer (inr none) written = inr (none_written n s S before after answer none written)

-- ---- the run

-- the sheet that was searched
pub sheet_of : (By : Search) (rests : SheetState → Bool) (n budget limit : ℕ) (before after : World) (text answer : List ℕ) → WasRead before.input after.input text → Searches By rests n budget limit text (Ok answer) →
    (s : SheetState) × (S : List Pos) × HasSheet s S before after × By s.dialect s.side S n budget (Ok answer)
sheet_of By rests n budget limit before after text answer read searched =
    let (s, spells, found) = text_spells (OfSheet By rests n budget limit) answer (whole sheet_at (lines text)) searched in
    let (S, leaves, goes, told) = found in
    (s, S, record { text = text; was_read = read; spelled = spells; possible = leaves.possible; some = leaves.some }, told)

module _ (By : Search) (Writes : Writing) (command : ℕ → ℕ → ℕ → Command) (writes : (n budget : ℕ) (s : SheetState) (S : List Pos) (before after : World) (answer : List ℕ) → By s.dialect s.side S n budget (Ok answer) →
    Appends before.out.bytes after.out.bytes answer → Writes n s S before after ⊎ WritesNone n s S before after)
    (comes : (plays : LiveOutcome) (n budget limit : ℕ) (before after : World) (answer : List ℕ) → ComesTo plays (command n budget limit) before after (Ok answer) →
    (text : List ℕ) × WasRead before.input after.input text × Searches By is_over n budget limit text (Ok answer)) where
  answers_by : (plays : LiveOutcome) (e : Ending) (asked : Option Command) (before after : World) (err err' : Stream) (code : ℕ) → Runs plays e asked before after → Reports e err err' → code ≡ status e →
      AnswersBy command Writes asked code before after err err'
  answers_by plays e asked before after err err' code runs reports is n budget limit words zero =
      let (answer, came, written, kept) = answers plays e asked (command n budget limit) before after code runs is words zero in
      let (text, read, searched) = comes plays n budget limit before after answer came in
      let (s, S, sheet, told) = sheet_of By is_over n budget limit before after text answer read searched in
      (s, S, sheet, writes n budget s S before after answer told written, quiet e err err' code reports is zero)

-- a promise that a run keeps with status 0
abbrev pub Kept : (Option Command → ℕ → World → World → Stream → Stream → Type 0) → Type 1
Kept Promise = (plays : LiveOutcome) (e : Ending) (asked : Option Command) (before after : World) (err err' : Stream) (code : ℕ) → Runs plays e asked before after → Reports e err err' → code ≡ status e →
    Promise asked code before after err err'

pub solves_sheets : Kept SolvesSheets
solves_sheets = answers_by Searched WritesPlan Solve (λ n budget s S before after answer told. plan_written n s S before after answer told.1) (λ plays n budget limit before after answer came. came)

pub finds_sheets : Kept FindsSheets
finds_sheets = answers_by Found WritesPlan Find (λ n budget. plan_written n) (λ plays n budget limit before after answer came. came)

pub lists_keys : Kept ListsKeys
lists_keys = answers_by Keyed WritesKeys Keys (λ n budget. keys_written n) (λ plays n budget limit before after answer came. came)

pub shares_plans : Kept SharesPlans
shares_plans = answers_by SharedBy WritesStrategy Share (λ n budget. strategy_written n) (λ plays n budget limit before after answer came. came)
