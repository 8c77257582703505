-- Which refutations have a text.
use Rattle.std.specs.Prelude.{◌≡◌, ◌≤◌, ◌<◌, ℕ, ◌+◌, true, List, [], ◌∷◌, map, length}
use Rattle.std.specs.List.{All}
use Rattle.krieg_board.specs.Men.{is_same_side}
use Rattle.krieg_board.specs.Order.{move_lt}
use Rattle.krieg_board.specs.Pos.{Pos}
use Rattle.krieg_board.specs.Validity.{IsValid}
use Rattle.krieg_board.specs.declared.limits.TheConstants.{MOST_MOVES}
use Rattle.krieg_board.specs.declared.men.Side.{Side}
use Rattle.krieg_fen.specs.MoveText.{IsOnBoard}
use Rattle.krieg_fen.specs.declared.forms.TheConstants.{MOST_LISTED}
use Rattle.krieg_words.specs.declared.dialects.Dialect.{Dialect}
use Rattle.krieg_pack.specs.Members.{IsAscending}
use Rattle.krieg_theory.specs.Sets.{Ascending}
use Rattle.krieg_costs.specs.Sums.{total}
use Rattle.krieg_planfile.specs.NodeText.{IsToldIn}
use Rattle.krieg_planfile.specs.PlanFiles.{AreAlike}
use Rattle.krieg_refutation.specs.declared.refutation.TheConstants.{MOST_CLAIMS, MOST_CLAIMED}
use Rattle.krieg_refutation.specs.declared.refutation.Why.{Why}
use Rattle.krieg_refutation.specs.declared.refutation.Why.TheVariants.{Lives, Stale, Class, Refused}
use Rattle.krieg_refutation.specs.declared.refutation.Reason.{Reason}
use Rattle.krieg_refutefile.specs.Refutations.{ClaimState, RefutationState}

-- ---- reasons

-- it cites no claim but those before the one with that number
abbrev pub CitesBelow : ℕ → Why → Type 0
CitesBelow own Lives = Unit {0}
CitesBelow own Stale = Unit {0}
CitesBelow own (Class heard place) = (1 ≤ place) × (place < own)
CitesBelow own (Refused place) = (1 ≤ place) × (place < own)

-- its words can be said, and the dialect can tell them
abbrev pub IsToldWhy : Dialect → Why → Type 0
IsToldWhy d Lives = Unit {0}
IsToldWhy d Stale = Unit {0}
IsToldWhy d (Class heard place) = IsToldIn d heard.0 × IsToldIn d heard.1
IsToldWhy d (Refused place) = Unit {0}

-- a reason that can be written in the claim with that number
pub record IsToldReason (d : Dialect) (own : ℕ) (r : Reason) : Type 0 where
  pub on_board : IsOnBoard r.mv
  pub told : IsToldWhy d r.why
  pub cites : CitesBelow own r.why

-- ---- claims

-- a claim that can be written as the one with that number: its positions ascend, and so do the moves of its reasons
pub record IsToldClaim (d : Dialect) (own : ℕ) (c : ClaimState) : Type 0 where
  pub least_moves : 1 ≤ c.moves
  pub most_moves : c.moves ≤ MOST_MOVES
  pub some : 1 ≤ length c.set
  pub valid : All IsValid c.set
  pub ascending : IsAscending c.set
  pub reasons : All (IsToldReason d own) c.reasons
  pub in_order : Ascending move_lt (map (λ (r : Reason). r.mv) c.reasons)

-- the first of the claims has that number
abbrev pub AreToldClaims : Dialect → ℕ → List ClaimState → Type 0
AreToldClaims d own [] = Unit {0}
AreToldClaims d own (c ∷ cs) = IsToldClaim d own c × AreToldClaims d (own + 1) cs

-- the positions of all claims
abbrev pub positions_in : List ClaimState → ℕ
positions_in cs = total (λ (c : ClaimState). length c.set) cs

-- the reasons of all claims
abbrev pub reasons_in : List ClaimState → ℕ
reasons_in cs = total (λ (c : ClaimState). length c.reasons) cs

-- ---- the file

-- the side is to move in the first position
abbrev pub IsTurnOf : Side → List Pos → Type 0
IsTurnOf who [] = Unit {0}
IsTurnOf who (p ∷ ps) = is_same_side p.side who ≡ true

-- It can be written: it is within the limits, the side is to move in its listed positions and they have one hand, and its
-- claims can be written, numbered from 1.
pub record CanBeWritten (s : RefutationState) : Type 0 where
  pub least_moves : 1 ≤ s.moves
  pub most_moves : s.moves ≤ MOST_MOVES
  pub some_listed : 1 ≤ length s.list
  pub few_listed : length s.list ≤ MOST_LISTED
  pub valid : All IsValid s.list
  pub turn : IsTurnOf s.side s.list
  pub alike : AreAlike s.side s.list
  pub some_claims : 1 ≤ length s.claims
  pub few_claims : length s.claims ≤ MOST_CLAIMS
  pub few_positions : positions_in s.claims ≤ MOST_CLAIMED
  pub few_reasons : reasons_in s.claims ≤ MOST_CLAIMED
  pub told : AreToldClaims s.dialect 1 s.claims
