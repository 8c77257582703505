-- `refute` and `deny` together: what one writes of a sheet, and how the other judges it.
use Rattle.std.specs.Prelude.{◌≡◌, ◌<◌, ◌≤◌, ℕ, true, List, length, Option, Some, Ok}
use Rattle.std.specs.Io.KnownBytes.{Appends}
use Rattle.krieg_board.specs.Pos.{Pos}
use Rattle.krieg_text.specs.Lines.{lines}
use Rattle.krieg_text.specs.Reading.{whole}
use Rattle.krieg_sheet.specs.Sheets.{SheetState}
use Rattle.krieg_refutefile.specs.Refutations.{RefutationState, is_refutation, NoneMates, refutation_price}
use Rattle.krieg_refutefile.specs.RefutationFormat.{refutation_at}
use Rattle.krieg_refutefile.specs.RefutationText.{refutation_text}
use Rattle.krieg_args.specs.declared.command.Command.{Command}
use Rattle.krieg_args.specs.declared.command.Command.TheVariants.{Refute, Deny}
use Rattle.krieg_cli.specs.World.{World, FaultsRose}
use Rattle.krieg_outcome.specs.Ending.{EndsSo}
use Rattle.krieg_cli.specs.Headline.{HasSheet}
use Rattle.krieg_outcome.specs.Refute.{denial_file}
use Rattle.krieg_outcome.specs.Deny.{refuted_text}
use Rattle.krieg_outcome.specs.declared.refusal.Refusal.TheVariants.{BudgetSpent}
use Rattle.krieg_outcome.specs.declared.ending.Ending.{Ending}
use Rattle.krieg_outcome.specs.declared.ending.Ending.TheVariants.{Answered, TooLong, ReadFault, WriteFault, NoMemory, Refused}
use Rattle.krieg_outcome.specs.declared.limits.TheConstants.{MOST_INPUT}

-- the text is read as a file like those that `refute` writes: it holds
pub record IsRefutation (f : RefutationState) (text : List ℕ) : Type 0 where
  pub read : whole refutation_at (lines text) ≡ Ok f
  pub holds : is_refutation f ≡ true

-- the file that `refute` writes of a sheet that leaves these positions
abbrev pub sheet_file : ℕ → SheetState → List Pos → RefutationState
sheet_file n s S = denial_file s.dialect s.side S n

-- The answer is the text of that file, which is such a file, and is short enough to be the input of `deny`; and no plan mates from
-- each of these positions within n own moves.
pub record WritesRefutation (n : ℕ) (s : SheetState) (S : List Pos) (before after : World) : Type 0 where
  pub refutation : IsRefutation (sheet_file n s S) (refutation_text (sheet_file n s S))
  pub none_mates : NoneMates (sheet_file n s S)
  pub written : Appends before.out.bytes after.out.bytes (refutation_text (sheet_file n s S))
  pub short : length (refutation_text (sheet_file n s S)) ≤ MOST_INPUT

-- with the words of `refute`, status 0 answers a sheet so
abbrev pub RefutesSheets : Option Command → ℕ → World → World → Type 0
RefutesSheets asked code before after =
    (n budget limit : ℕ) → asked ≡ Some (Refute n budget limit) → code ≡ 0 →
    (s : SheetState) × (S : List Pos) × HasSheet s S before after × WritesRefutation n s S before after

-- How `deny` ends on such a text: with the number of moves of the file, within which no plan mates, unless the budget is less than
-- its look takes, the text is too long for an input, as none is that `refute` writes, a stream fails, or memory runs out.
abbrev pub EndsOnRefutation : Ending → ℕ → RefutationState → List ℕ → World → World → Type 0
EndsOnRefutation Answered budget f text before after = Appends before.out.bytes after.out.bytes (refuted_text f.moves) × NoneMates f
EndsOnRefutation (Refused BudgetSpent) budget f text before after = budget < refutation_price f
EndsOnRefutation TooLong budget f text before after = (MOST_INPUT < length text) × (text ≡ refutation_text f → ⊥)
EndsOnRefutation ReadFault budget f text before after = FaultsRose before.input after.input
EndsOnRefutation WriteFault budget f text before after = FaultsRose before.out after.out
EndsOnRefutation NoMemory budget f text before after = Unit {0}
EndsOnRefutation _ budget f text before after = ⊥

-- with the words of `deny` a run ends so on every such text, where the input holds it
abbrev pub DeniesRefutations : Option Command → ℕ → World → World → Type 0
DeniesRefutations asked code before after = EndsSo code (λ ending.
    (budget : ℕ) (f : RefutationState) (text : List ℕ) →
    asked ≡ Some (Deny budget) → IsRefutation f text → before.input.bytes ≡ Some text → EndsOnRefutation ending budget f text before after)
