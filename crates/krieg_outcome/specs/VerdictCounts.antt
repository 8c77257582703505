-- How many tries of a game were judged so, and how many so.
use Rattle.std.specs.Prelude.{ℕ, Bool, true, false, List, [], ◌∷◌, length, codes}
use Rattle.std.specs.List.{count_by}
use Rattle.krieg_text.specs.Decimals.{number_text}
use Rattle.krieg_text.specs.Writing.{Pieces}
use Rattle.krieg_umpire.specs.declared.verdict.Judged.{Judged}
use Rattle.krieg_umpire.specs.declared.verdict.Verdict.{Verdict}
use Rattle.krieg_umpire.specs.declared.verdict.Verdict.TheVariants as verdict
use Rattle.krieg_outcome.specs.declared.commands.job.verdict_counts.VerdictCounts.{VerdictCounts}
use Rattle.krieg_outcome.specs.declared.commands.job.verdict_counts.VerdictKind.{VerdictKind}
use Rattle.krieg_outcome.specs.declared.commands.job.verdict_counts.VerdictKind.TheVariants as kind

-- the try was done
abbrev pub is_done : Verdict → Bool
is_done (verdict.Done words) = true
is_done _ = false

-- it was illegal
abbrev pub is_illegal : Verdict → Bool
is_illegal verdict.Illegal = true
is_illegal _ = false

-- it was early
abbrev pub is_early : Verdict → Bool
is_early verdict.Early = true
is_early _ = false

-- the game was over
abbrev pub is_over : Verdict → Bool
is_over verdict.Over = true
is_over _ = false

-- it was judged so
abbrev pub is_judged : VerdictKind → Verdict → Bool
is_judged kind.Done v = is_done v
is_judged kind.Illegal v = is_illegal v
is_judged kind.Early v = is_early v
is_judged kind.Over v = is_over v

-- how many of the tries were judged so
abbrev pub count_judged : (Verdict → Bool) → List Judged → ℕ
count_judged so log = count_by (λ j. so j.verdict) log

-- how many tries there are, and of each verdict
abbrev pub verdict_counts : List Judged → VerdictCounts
verdict_counts log = record {
  tries = length log;
  done = count_judged is_done log;
  illegal = count_judged is_illegal log;
  early = count_judged is_early log;
  over = count_judged is_over log;
}

-- the line that tells them
abbrev pub verdicts_line : VerdictCounts → Pieces
verdicts_line t =
    codes "tries " ∷ number_text t.tries
    ∷ codes " done " ∷ number_text t.done
    ∷ codes " illegal " ∷ number_text t.illegal
    ∷ codes " early " ∷ number_text t.early
    ∷ codes " over " ∷ number_text t.over ∷ []
