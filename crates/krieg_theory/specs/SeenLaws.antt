-- The laws, each a statement that a function of this crate has as its contract.
use Rattle.std.specs.Prelude.{◌≡◌, ℕ, suc, true, false, List}
use Rattle.krieg_theory.specs.Sets.{In}
use Rattle.krieg_theory.specs.Tree.{Tree}
use Rattle.krieg_theory.specs.Game.{Game}
use Rattle.krieg_theory.specs.Wins.{wins}
use Rattle.krieg_theory.specs.Can.{can, begins}
use Rattle.krieg_theory.specs.Seen.{sees, escapes_in_some}

module _ (G : Game) where
  -- what a tree wins, a player who sees the position mates within as many moves
  abbrev pub WinsIsSeen : Type 0
  WinsIsSeen = (n : Tree G.Move G.Key) (p : G.Position) (j : ℕ) → wins G n p j ≡ true → sees G j p ≡ true

  -- and so each member of a set that can be won
  abbrev pub CanIsSeen : Type 0
  CanIsSeen = (B : List G.Position) (j : ℕ) (p : G.Position) → can G j B ≡ true → In p B → sees G j p ≡ true

  -- one move more does no harm
  abbrev pub MoreMovesSee : Type 0
  MoreMovesSee = (p : G.Position) (j : ℕ) → sees G j p ≡ true → sees G (suc j) p ≡ true

  -- a try after which some reply escapes, even from a player who sees the position, wins nothing
  abbrev pub EscapeFails : Type 0
  EscapeFails = (B : List G.Position) (j : ℕ) (t : G.Move) → escapes_in_some G j B t ≡ true → begins G (suc j) B t ≡ false
