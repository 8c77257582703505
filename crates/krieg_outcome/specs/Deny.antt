-- What `deny` answers to a refutation: that no plan mates within its moves, or that it does not show this.
use Rattle.std.specs.Prelude.{◌≡◌, ℕ, ◌<◌, ◌≤◌, true, false, List, [], ◌∷◌, Result, Ok, Err, codes}
use Rattle.krieg_text.specs.Decimals.{number_text}
use Rattle.krieg_text.specs.Lines.{lines}
use Rattle.krieg_text.specs.Reading.{whole}
use Rattle.krieg_text.specs.Writing.{Pieces, put_lines}
use Rattle.krieg_refutefile.specs.Refutations.{RefutationState, is_refutation, NoneMates, refutation_price}
use Rattle.krieg_refutefile.specs.RefutationFormat.{refutation_at}
use Rattle.krieg_outcome.specs.Refusal.{OfText}
use Rattle.krieg_outcome.specs.declared.refusal.Refusal.{Refusal}
use Rattle.krieg_outcome.specs.declared.refusal.Refusal.TheVariants.{BudgetSpent, RefutationFails}

-- the line that no plan mates within n moves
abbrev pub refuted_line : ℕ → Pieces
refuted_line n = codes "refuted " ∷ number_text n ∷ []

-- with a line feed
unfoldable pub refuted_text : ℕ → List ℕ
refuted_text n = put_lines [] (refuted_line n ∷ [])

-- The answer is the number of moves of a refutation that holds, so that no plan mates within it. The refutation fails just where
-- it does not hold, and the budget is spent just where it is less than the look at all claims takes.
abbrev pub Judged : ℕ → RefutationState → Result (List ℕ) Refusal → Type 0
Judged budget f (Ok answer) = (refutation_price f ≤ budget) × (is_refutation f ≡ true) × NoneMates f × (answer ≡ refuted_text f.moves)
Judged budget f (Err RefutationFails) = (refutation_price f ≤ budget) × (is_refutation f ≡ false)
Judged budget f (Err BudgetSpent) = budget < refutation_price f
Judged budget f (Err _) = ⊥

-- the same of a text that may spell a refutation
abbrev pub Denies : ℕ → List ℕ → Result (List ℕ) Refusal → Type 0
Denies budget text outcome = OfText (whole refutation_at (lines text)) (Judged budget) outcome
