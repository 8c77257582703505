-- What is answered where claims are asked for, and what it takes.
use Rattle.std.specs.Prelude.{◌≡◌, ℕ, ◌<◌, ◌⊎◌, true, false, List, [], ◌∷◌, Result, Ok, Err, ⊤}
use Rattle.krieg_board.specs.Pos.{Pos}
use Rattle.krieg_board.specs.declared.men.Side.{Side}
use Rattle.krieg_board.specs.declared.men.Side.TheVariants.{White}
use Rattle.krieg_words.specs.declared.dialects.Dialect.{Dialect}
use Rattle.krieg_theory.specs.Plans.{Plan, mates, can_plan}
use Rattle.krieg_costs.specs.Reach.{fresh}
use Rattle.krieg_costs.specs.Refutation as theory
use Rattle.krieg_claims.specs.Written.{denial}
use Rattle.krieg_claims.specs.Sizes.{AreFew, AreMany}
use Rattle.krieg_game.specs.Chess.{chess}
use Rattle.krieg_game.specs.Outset.{outset}
use Rattle.krieg_parting.specs.Turns.{IsOwnTurn, IsOthersTurn}
use Rattle.krieg_search.specs.declared.stop.SearchStop.{SearchStop}
use Rattle.krieg_search.specs.declared.stop.SearchStop.TheVariants.{Spent, Large, NoMemory}
use Rattle.krieg_search.specs.Decision.{IsAccount, IsBetween}
use Rattle.krieg_refutation.specs.declared.refutation.Claim.{Claim}
use Rattle.krieg_refute.specs.declared.refuting.Denied.{Denied}
use Rattle.krieg_refute.specs.declared.refuting.Denied.TheVariants.{Denial, Exists}
use Rattle.krieg_refutation.specs.Refutations.{claims_of, most_claims, most_claimed}

-- the side that is to move in the first member
abbrev pub side_of : List Pos → Side
side_of [] = White
side_of (p ∷ B) = p.side

-- the same side is to move in all members
abbrev pub IsOneSide : List Pos → Type 0
IsOneSide B = (who : Side) → IsOwnTurn who B ⊎ IsOthersTurn who B

module _ (d : Dialect) (who : Side) (S : List Pos) (n : ℕ) where
  -- No plan mates within n; these are the claims of the first opening set that cannot be won; they are not too many, and they
  -- refute.
  pub record IsDenial (cs : List Claim) : Type 0 where
    pub cannot : can_plan (chess d) (outset d who) n S ≡ false
    pub no_plan : (plan : Plan (chess d) (outset d who)) → mates (chess d) (outset d who) plan S n ≡ false
    pub claims_part : claims_of d cs ≡ denial (chess d) (outset d who) n S
    pub few : AreFew (chess d) most_claims most_claimed (claims_of d cs)
    pub refute : theory.refutes (chess d) (outset d who) n S (claims_of d cs) ≡ true

  -- no plan mates within n, and the claims are too many
  pub record IsTooLarge : Type 0 where
    pub cannot : can_plan (chess d) (outset d who) n S ≡ false
    pub many : AreMany (chess d) most_claims most_claimed (denial (chess d) (outset d who) n S)

  -- some plan mates within n
  pub record IsMated : Type 0 where
    pub can : can_plan (chess d) (outset d who) n S ≡ true
    pub plan : Plan (chess d) (outset d who)
    pub mates_all : mates (chess d) (outset d who) plan S n ≡ true

  -- What each answer says. Since no two of the first three can hold at once, each comes exactly where it holds and nothing
  -- was wanting.
  abbrev pub IsDenied : Result Denied SearchStop → Type 0
  IsDenied (Ok (Denial cs)) = IsDenial cs.items
  IsDenied (Ok Exists) = IsMated
  IsDenied (Err Large) = IsTooLarge
  IsDenied (Err Spent) = ⊤
  IsDenied (Err NoMemory) = ⊤

  -- An answer takes what its account says, which is at least the floor and at most what is fresh. An error takes none, and
  -- Spent comes only where fewer units are left than are fresh.
  abbrev pub IsTaken : Result Denied SearchStop → ℕ → ℕ → Type 0
  IsTaken (Ok x) had has = IsAccount d who S n false had has × IsBetween d who S n had has
  IsTaken (Err Spent) had has = (had < fresh (chess d) (outset d who) n S) × (has ≡ had)
  IsTaken (Err Large) had has = has ≡ had
  IsTaken (Err NoMemory) had has = has ≡ had
