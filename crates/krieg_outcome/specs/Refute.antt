-- What `refute` answers to a sheet: claims that show that no plan mates within the moves that were asked, or that some plan does.
use Rattle.std.specs.Prelude.{◌≡◌, ℕ, ◌<◌, ◌≤◌, true, false, All, List, length, Result, Ok, Err}
use Rattle.krieg_board.specs.Pos.{Pos}
use Rattle.krieg_board.specs.Validity.{IsValid}
use Rattle.krieg_board.specs.declared.men.Side.{Side}
use Rattle.krieg_fen.specs.declared.forms.TheConstants.{MOST_LISTED}
use Rattle.krieg_theory.specs.Sets.{is_nil}
use Rattle.krieg_belief.specs.Possible.{HaveOneHand}
use Rattle.krieg_parting.specs.Turns.{IsOwnTurn}
use Rattle.krieg_text.specs.Lines.{lines}
use Rattle.krieg_text.specs.Reading.{whole}
use Rattle.krieg_words.specs.declared.dialects.Dialect.{Dialect}
use Rattle.krieg_game.specs.Chess.{chess}
use Rattle.krieg_game.specs.Outset.{outset}
use Rattle.krieg_claims.specs.Sizes.{AreMany}
use Rattle.krieg_claims.specs.Written.{denial}
use Rattle.krieg_plan.specs.Trees.{PlanTrees}
use Rattle.krieg_refutation.specs.Refutations.{most_claims, most_claimed}
use Rattle.krieg_refutefile.specs.Refutations.{RefutationState, file_of, is_refutation}
use Rattle.krieg_refutefile.specs.RefutationFormat.{refutation_at}
use Rattle.krieg_refutefile.specs.RefutationText.{refutation_text}
use Rattle.krieg_outcome.specs.Solve.{mates_all, NoneMates, least_units, fresh_units}
use Rattle.krieg_outcome.specs.declared.limits.TheConstants.{MOST_INPUT}
use Rattle.krieg_outcome.specs.declared.refusal.Refusal.{Refusal}
use Rattle.krieg_outcome.specs.declared.refusal.Refusal.TheVariants.{BudgetSpent, PlanTooLarge, PlanExists}

-- the positions can be listed in a file of the player, who is to move in each of them
pub record CanBeListed (who : Side) (S : List Pos) : Type 0 where
  pub some : is_nil S ≡ false
  pub few : length S ≤ MOST_LISTED
  pub valid : All IsValid S
  pub hand : HaveOneHand who S
  pub turn : IsOwnTurn who S

module _ (d : Dialect) (who : Side) (S : List Pos) where
  -- the file that no plan mates within n own moves: its claims are those of the first opening set that cannot be won
  abbrev pub denial_file : ℕ → RefutationState
  denial_file n = file_of d who n S (denial (chess d) (outset d who) n S)

  -- the answer is the text of that file, is read as that file again, and may be an input; the file is a refutation, and no plan mates
  pub record IsDenialText (n : ℕ) (answer : List ℕ) : Type 0 where
    pub text : answer ≡ refutation_text (denial_file n)
    pub again : whole refutation_at (lines answer) ≡ Ok (denial_file n)
    pub short : length answer ≤ MOST_INPUT
    pub refutes : is_refutation (denial_file n) ≡ true
    pub none_mates : NoneMates d who S n

  -- some plan mates within n own moves
  abbrev pub SomeMates : ℕ → Type 0
  SomeMates n = (plan : PlanTrees) × (mates_all d who S plan n ≡ true)

  -- the claims are more than a file may have, or have more positions or more reasons
  abbrev pub AreTooMany : ℕ → Type 0
  AreTooMany n = AreMany (chess d) most_claims most_claimed (denial (chess d) (outset d who) n S)

  -- A search tells the claims, or that they are too many, or that a plan mates; the budget is spent only where it is less than a
  -- search may take.
  abbrev pub Claimed : ℕ → ℕ → Result (List ℕ) Refusal → Type 0
  Claimed n budget (Ok answer) = (least_units d who S n ≤ budget) × IsDenialText n answer
  Claimed n budget (Err PlanExists) = (least_units d who S n ≤ budget) × SomeMates n
  Claimed n budget (Err PlanTooLarge) = NoneMates d who S n × AreTooMany n
  Claimed n budget (Err BudgetSpent) = budget < fresh_units d who S n
  Claimed n budget (Err _) = ⊥
