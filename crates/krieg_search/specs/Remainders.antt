-- What a try leaves to be won.
use Rattle.std.specs.Prelude.{◌≡◌, ℕ, ◌+◌, Bool, true, false, List, map, Option, Some, None, Result, Ok, Err, ◌⊎◌}
use Rattle.krieg_board.specs.Pos.{Pos}
use Rattle.krieg_board.specs.declared.men.Move.{Move}
use Rattle.krieg_words.specs.declared.dialects.Dialect.{Dialect}
use Rattle.krieg_theory.specs.Split.{refused, stale_in_some, keys, class}
use Rattle.krieg_theory.specs.Can.{begins}
use Rattle.krieg_costs.specs.Block.{block_pair, lives_in_some}
use Rattle.krieg_game.specs.Chess.{chess}
use Rattle.krieg_game.specs.Classes.{class_pair}
use Rattle.krieg_parting.specs.declared.stop.PartStop.{PartStop}
use Rattle.krieg_split.specs.Units.{IsPaid}
use Rattle.krieg_search.specs.declared.remainder.Remainder.{Remainder}

module _ (d : Dialect) where
  -- the try fails at once: it begins no win, and where tries may not be cut no pair of a set and a number is to blame
  pub record FailsAtOnce (cut : Bool) (B : List Pos) (t : Move) (j : ℕ) : Type 0 where
    pub fails : begins (chess d) j B t ≡ false
    pub no_pair : cut ≡ false → block_pair (chess d) j B t ≡ None

  -- it stalemates in no member and, where one move is left, lives in none; these are the class of each key that occurs, and
  -- the members that refuse it
  pub record Leaves (B : List Pos) (t : Move) (j : ℕ) (l : Remainder) : Type 0 where
    pub none_lives : j ≡ 1 → lives_in_some (chess d) B t ≡ false
    pub none_stale : stale_in_some (chess d) B t ≡ false
    pub classes_part : map class_pair l.classes.items ≡ map (λ key. (key, class (chess d) B t key)) (keys (chess d) B t)
    pub refused_part : l.refused ≡ refused (chess d) B t

  -- the try fails at once; or this is what it leaves to be won
  abbrev pub IsRemainder : Bool → List Pos → Move → ℕ → Option Remainder → Type 0
  IsRemainder cut B t j None = FailsAtOnce cut B t j
  IsRemainder cut B t j (Some l) = Leaves B t j l

-- A try takes what its split takes, and an error takes nothing. But where tries may be cut, one that fails at once may
-- take nothing as well.
abbrev pub IsPaidUnlessCut : Bool → Result (Option Remainder) PartStop → ℕ → ℕ → ℕ → Type 0
IsPaidUnlessCut cut (Ok o) cost old new = (new + cost ≡ old) ⊎ ((cut ≡ true) × (o ≡ None) × (new ≡ old))
IsPaidUnlessCut cut (Err e) cost old new = IsPaid {A = Option Remainder} (Err e) cost old new
