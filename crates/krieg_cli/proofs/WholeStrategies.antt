-- What a run of `judge` that answers has written.
use Rattle.std.proofs.Common.{◌≡◌, ℕ, Option, subst}
use Rattle.std.specs.Io.KnownBytes.{Appends}
use Rattle.krieg_cli.proofs.Common.{lines, whole, Command, Judge, Stream, World, status, LiveOutcome, Runs, Reports, Ending, strategy_at, JudgedSo, JudgesStrategies}
use Rattle.krieg_cli.proofs.WholeGames.{answers, quiet, text_spells}

pub judges_strategies : (plays : LiveOutcome) (e : Ending) (asked : Option Command) (before after : World) (err err' : Stream) (code : ℕ) → Runs plays e asked before after → Reports e err err' → code ≡ status e →
    JudgesStrategies asked code before after err err'
judges_strategies plays e asked before after err err' code runs reports is budget words zero =
    let (answer, came, written, kept) = answers plays e asked (Judge budget) before after code runs is words zero in
    let (text, read, judged) = came in
    let (s, spells, found) = text_spells (JudgedSo budget) answer (whole strategy_at (lines text)) judged in
    let (enough, w, worst, told) = found in
    (s, record { text = text; was_read = read; spelled = spells; worst = w; is_worst = worst; written = subst (Appends before.out.bytes after.out.bytes) told written }, quiet e err err' code reports is zero)
