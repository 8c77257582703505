-- What a try makes of a set, as far as a reason may ask.
use Rattle.std.specs.Prelude.{◌≡◌, ℕ, List}
use Rattle.krieg_board.specs.Pos.{Pos}
use Rattle.krieg_board.specs.declared.men.Move.{Move}
use Rattle.krieg_words.specs.declared.dialects.Dialect.{Dialect}
use Rattle.krieg_costs.specs.Block.{lives_in_some}
use Rattle.krieg_game.specs.Chess.{chess}
use Rattle.krieg_split.specs.Parts.{IsParted}
use Rattle.krieg_refutation.specs.declared.try_result.LastTry.{LastTry}
use Rattle.krieg_refutation.specs.declared.try_result.TryResult.{TryResult}
use Rattle.krieg_refutation.specs.declared.try_result.TryResult.TheVariants.{Parts, Last}

-- the set and the try, and whether it lives in some member
pub record IsLast (d : Dialect) (B : List Pos) (t : Move) (l : LastTry) : Type 0 where
  pub set_part : l.set.now ≡ B
  pub move_part : l.mv ≡ t
  pub lives_part : l.lives ≡ lives_in_some (chess d) B t

-- the parts of the set, or with one move left the last try
unfoldable pub IsTryResult : Dialect → ℕ → List Pos → Move → TryResult → Type 0
IsTryResult d fewer B t (Parts p) = IsParted d B t p
IsTryResult d fewer B t (Last l) = (fewer ≡ 0) × IsLast d B t l
