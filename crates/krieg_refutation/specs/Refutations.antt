-- A refutation in the words of the theory.
use Rattle.std.specs.Prelude.{ℕ, Bool, ◌&&◌, List, map}
use Rattle.std.specs.List.{list_all}
use Rattle.krieg_board.specs.Men.{is_same_side}
use Rattle.krieg_board.specs.declared.men.Move.{Move}
use Rattle.krieg_words.specs.declared.dialects.Dialect.{Dialect}
use Rattle.krieg_costs.specs.Sums.{total}
use Rattle.krieg_costs.specs.Cost.{price}
use Rattle.krieg_costs.specs.Refutation as theory
use Rattle.krieg_costs.specs.Refutation.{ByLife, ByStalemate, ByClass, ByRefused}
use Rattle.krieg_game.specs.Keys.{Key}
use Rattle.krieg_game.specs.Chess.{chess}
use Rattle.krieg_game.specs.Outset.{outset}
use Rattle.krieg_refutation.specs.declared.refutation.TheConstants.{MOST_CLAIMS, MOST_CLAIMED}
use Rattle.krieg_refutation.specs.declared.refutation.Why.{Why}
use Rattle.krieg_refutation.specs.declared.refutation.Why.TheVariants.{Lives, Stale, Class, Refused}
use Rattle.krieg_refutation.specs.declared.refutation.Reason.{Reason}
use Rattle.krieg_refutation.specs.declared.refutation.Claim.{Claim}
use Rattle.krieg_refutation.specs.declared.refutation.Refutation.{Refutation}

-- why a try does not win
abbrev pub why_of : Why → theory.Reason Key
why_of Lives = ByLife
why_of Stale = ByStalemate
why_of (Class heard place) = ByClass heard place
why_of (Refused place) = ByRefused place

-- a try with its reason
abbrev pub reason_of : Reason → Move × theory.Reason Key
reason_of r = (r.mv, why_of r.why)

-- a claim
abbrev pub claim_of : (d : Dialect) → Claim → theory.Claim (chess d)
claim_of d c = record { number = c.moves; set = c.set; reasons = map reason_of c.reasons.items }

-- all claims in order
abbrev pub claims_of : (d : Dialect) → List Claim → List (theory.Claim (chess d))
claims_of d cs = map (claim_of d) cs

-- in each listed position the side of the refutation is to move
abbrev pub is_own_turn : Refutation → Bool
is_own_turn f = list_all (λ p. is_same_side p.side f.side) f.list.items

-- The side is to move in each listed position, each claim holds by those before it, and the last one denies that some plan
-- mates the listed positions within the number.
abbrev pub refutes : Refutation → Bool
refutes f = is_own_turn f && theory.refutes (chess f.dialect) (outset f.dialect f.side) f.moves f.list.items (claims_of f.dialect f.claims.items)

-- what it takes to look at all claims: the splits of each claim's set by all tries that are legal in some member
abbrev pub claims_price : Dialect → List Claim → ℕ
claims_price d cs = total (λ (c : Claim). price (chess d) c.set) cs

-- the most claims that are written
abbrev pub most_claims : ℕ
most_claims = MOST_CLAIMS

-- the most positions that they have in all, and the most reasons
abbrev pub most_claimed : ℕ
most_claimed = MOST_CLAIMED
