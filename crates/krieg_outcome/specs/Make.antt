-- What `make` answers: the made session, or the made sheet, of a number.
use Rattle.std.specs.Prelude.{◌≡◌, ℕ, List, Result, Ok}
use Rattle.krieg_args.specs.declared.command.MadeInput.{MadeInput}
use Rattle.krieg_args.specs.declared.command.MadeInput.TheVariants as made
use Rattle.krieg_make.specs.MadeTexts.{made_text}
use Rattle.krieg_make.specs.declared.text.MakeKind.{MakeKind}
use Rattle.krieg_make.specs.declared.text.MakeKind.TheVariants as kind
use Rattle.krieg_outcome.specs.declared.refusal.Refusal.{Refusal}

-- which input the words ask for
abbrev pub make_kind : MadeInput → MakeKind
make_kind made.Session = kind.Session
make_kind made.Sheet = kind.Sheet

-- the answer is its text
abbrev pub Makes : MadeInput → ℕ → Result (List ℕ) Refusal → Type 0
Makes what number outcome = outcome ≡ Ok (made_text number (make_kind what))
