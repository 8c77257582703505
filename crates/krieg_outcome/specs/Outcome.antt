-- What a command makes of its input: an answer, or a refusal.
use Rattle.std.specs.Prelude.{ℕ, List, Result}
use Rattle.krieg_sheet.specs.Turns.{is_over}
use Rattle.krieg_args.specs.declared.command.Command.{Command}
use Rattle.krieg_args.specs.declared.command.Command.TheVariants.{Solve, Check, Refute, Deny, Believe, Why, Umpire, San, Unsan, Play, Lead, Next, Find, Keys, Share, Judge, Advise, Conduct, Make, Job}
use Rattle.krieg_outcome.specs.Asked.{Searches, has_no_turn}
use Rattle.krieg_outcome.specs.Solve.{Searched}
use Rattle.krieg_outcome.specs.Find.{Found}
use Rattle.krieg_outcome.specs.Keys.{Keyed}
use Rattle.krieg_outcome.specs.Share.{SharedBy}
use Rattle.krieg_outcome.specs.Check.{Checks}
use Rattle.krieg_outcome.specs.Judge.{Judges}
use Rattle.krieg_outcome.specs.Refute.{Claimed}
use Rattle.krieg_outcome.specs.Deny.{Denies}
use Rattle.krieg_outcome.specs.Believe.{Believes}
use Rattle.krieg_outcome.specs.Why.{ShowsWhy}
use Rattle.krieg_outcome.specs.Umpire.{Umpires}
use Rattle.krieg_outcome.specs.Next.{SaysNext, Advises}
use Rattle.krieg_outcome.specs.San.{WritesRecord}
use Rattle.krieg_outcome.specs.Unsan.{WritesSession}
use Rattle.krieg_outcome.specs.Make.{Makes}
use Rattle.krieg_outcome.specs.Job.{Summarizes}
use Rattle.krieg_outcome.specs.declared.refusal.Refusal.{Refusal}

-- what a command that calls seats makes of a text, at the bench that it has
abbrev pub LiveOutcome : Type 1
LiveOutcome = Command → List ℕ → Result (List ℕ) Refusal → Type 0

-- what a command makes of the text that it takes
abbrev pub HasOutcome : LiveOutcome → Command → List ℕ → Result (List ℕ) Refusal → Type 0
HasOutcome live (Solve moves budget limit) text outcome = Searches Searched is_over moves budget limit text outcome
HasOutcome live (Find moves budget limit) text outcome = Searches Found is_over moves budget limit text outcome
HasOutcome live (Keys moves budget limit) text outcome = Searches Keyed is_over moves budget limit text outcome
HasOutcome live (Share moves budget limit) text outcome = Searches SharedBy is_over moves budget limit text outcome
HasOutcome live (Check budget) text outcome = Checks budget text outcome
HasOutcome live (Judge budget) text outcome = Judges budget text outcome
HasOutcome live (Refute moves budget limit) text outcome = Searches Claimed has_no_turn moves budget limit text outcome
HasOutcome live (Deny budget) text outcome = Denies budget text outcome
HasOutcome live (Believe limit) text outcome = Believes limit text outcome
HasOutcome live (Why limit) text outcome = ShowsWhy limit text outcome
HasOutcome live (Umpire who) text outcome = Umpires who text outcome
HasOutcome live San text outcome = WritesRecord text outcome
HasOutcome live Unsan text outcome = WritesSession text outcome
HasOutcome live (Play asks) text outcome = live (Play asks) text outcome
HasOutcome live (Lead asks number) text outcome = live (Lead asks number) text outcome
HasOutcome live Next text outcome = SaysNext text outcome
HasOutcome live Advise text outcome = Advises text outcome
HasOutcome live (Conduct asks number) text outcome = live (Conduct asks number) text outcome
HasOutcome live (Make what number) text outcome = Makes what number outcome
HasOutcome live (Job number) text outcome = Summarizes number outcome
