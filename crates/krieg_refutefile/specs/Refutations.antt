-- A refutation as contracts see it, and what it means that it refutes.
use Rattle.std.specs.Prelude.{◌≡◌, ℕ, Bool, false, ◌&&◌, List, map}
use Rattle.std.specs.List.{list_all}
use Rattle.krieg_board.specs.Men.{is_same_side}
use Rattle.krieg_board.specs.Pos.{Pos}
use Rattle.krieg_board.specs.declared.men.Move.{Move}
use Rattle.krieg_board.specs.declared.men.Side.{Side}
use Rattle.krieg_words.specs.declared.dialects.Dialect.{Dialect}
use Rattle.krieg_theory.specs.Plans.{Plan, mates}
use Rattle.krieg_costs.specs.Sums.{total}
use Rattle.krieg_costs.specs.Cost.{price}
use Rattle.krieg_costs.specs.Refutation as theory
use Rattle.krieg_costs.specs.Refutation.{ByLife, ByStalemate, ByClass, ByRefused}
use Rattle.krieg_game.specs.Keys.{Key}
use Rattle.krieg_game.specs.Chess.{chess}
use Rattle.krieg_game.specs.Outset.{outset}
use Rattle.krieg_refutation.specs.Refutations.{reason_of}
use Rattle.krieg_refutation.specs.declared.refutation.Why.{Why}
use Rattle.krieg_refutation.specs.declared.refutation.Why.TheVariants.{Lives, Stale, Class, Refused}
use Rattle.krieg_refutation.specs.declared.refutation.Reason.{Reason}
use Rattle.krieg_refutation.specs.declared.refutation.Claim.{Claim}
use Rattle.krieg_refutation.specs.declared.refutation.Refutation.{Refutation}
use Rattle.krieg_refutefile.specs.declared.writing.Denial.{Denial}

-- the number of moves, the set, and the reasons why no try wins all of it within them
pub record ClaimState : Type 0 where
  pub moves : ℕ
  pub set : List Pos
  pub reasons : List Reason

-- the dialect, the player's side, the number of own moves that is denied, the listed positions, and the claims
pub record RefutationState : Type 0 where
  pub dialect : Dialect
  pub side : Side
  pub moves : ℕ
  pub list : List Pos
  pub claims : List ClaimState

-- what a claim is to contracts
abbrev pub claim_state_of : Claim → ClaimState
claim_state_of c = record { moves = c.moves; set = c.set; reasons = c.reasons.items }

-- what these parts of a refutation are to contracts
abbrev pub state_from : Dialect → Side → ℕ → List Pos → List Claim → RefutationState
state_from d who n L cs = record { dialect = d; side = who; moves = n; list = L; claims = map claim_state_of cs }

-- what a refutation is to contracts
abbrev pub state_of : Refutation → RefutationState
state_of f = state_from f.dialect f.side f.moves f.list.items f.claims.items

-- what a refutation that lists the members of a set is to contracts
abbrev pub state_of_denial : Denial → RefutationState
state_of_denial f = state_from f.dialect f.side f.moves f.set f.claims.items

-- ---- in the words of the theory

-- a claim
abbrev pub claim_in : (d : Dialect) → ClaimState → theory.Claim (chess d)
claim_in d c = record { number = c.moves; set = c.set; reasons = map reason_of c.reasons }

-- all claims in order
abbrev pub claims_in : (d : Dialect) → List ClaimState → List (theory.Claim (chess d))
claims_in d cs = map (claim_in d) cs

-- It refutes: the side is to move in each listed position, each claim holds by those before it, and the last one denies that
-- some plan mates the listed positions within the number.
abbrev pub is_refutation : RefutationState → Bool
is_refutation s =
    list_all (λ p. is_same_side p.side s.side) s.list && theory.refutes (chess s.dialect) (outset s.dialect s.side) s.moves s.list (claims_in s.dialect s.claims)

-- no plan of the side mates all listed positions within the number
abbrev pub NoneMates : RefutationState → Type 0
NoneMates s = (plan : Plan (chess s.dialect) (outset s.dialect s.side)) → mates (chess s.dialect) (outset s.dialect s.side) plan s.list s.moves ≡ false

-- what it takes to look at all claims: the splits of each claim's set by all tries that are legal in some member
abbrev pub refutation_price : RefutationState → ℕ
refutation_price s = total (λ (c : ClaimState). price (chess s.dialect) c.set) s.claims

-- ---- a file of claims of the theory

-- why a try does not win, as a file says it
abbrev pub why_from : theory.Reason Key → Why
why_from ByLife = Lives
why_from ByStalemate = Stale
why_from (ByClass key place) = Class key place
why_from (ByRefused place) = Refused place

-- a try with why it does not win
abbrev pub reason_from : Move × theory.Reason Key → Reason
reason_from r = record { mv = r.0; why = why_from r.1 }

-- a claim as a file says it
abbrev pub claim_from : (d : Dialect) → theory.Claim (chess d) → ClaimState
claim_from d c = record { moves = c.number; set = c.set; reasons = map reason_from c.reasons }

-- the file of these claims, that no plan of the side mates the listed positions within the number
abbrev pub file_of : (d : Dialect) → Side → ℕ → List Pos → List (theory.Claim (chess d)) → RefutationState
file_of d who n S cs = record { dialect = d; side = who; moves = n; list = S; claims = map (claim_from d) cs }
