-- What comes of the opponent's first moves in a set.
use Rattle.std.specs.Prelude.{◌≡◌, ℕ, suc, List, length, map, Some}
use Rattle.std.specs.List.{list_any}
use Rattle.krieg_board.specs.Pos.{Pos}
use Rattle.krieg_board.specs.declared.men.Side.{Side}
use Rattle.krieg_moves.specs.Moves.{moves, is_ended}
use Rattle.krieg_words.specs.declared.dialects.Dialect.{Dialect}
use Rattle.krieg_theory.specs.Plans.{is_over}
use Rattle.krieg_costs.specs.Sums.{total}
use Rattle.krieg_game.specs.Keys.{Key, RootKey}
use Rattle.krieg_game.specs.Chess.{chess}
use Rattle.krieg_game.specs.Outset.{outset}
use Rattle.krieg_game.specs.Classes.{classes_in}
use Rattle.krieg_game.specs.ClassLaws.{first_outcomes, opening_sets}
use Rattle.krieg_split.specs.declared.firsts.First.{First}
use Rattle.krieg_split.specs.declared.firsts.Firsts.{Firsts}

-- one unit for each member, and one for each of its moves
abbrev pub first_cost : List Pos → ℕ
first_cost B = total (λ p. suc (length (moves p))) B

-- a class by the words of the opening and of the move
abbrev pub first_pair : First → Key × List Pos
first_pair c = ((c.opens, c.reply), c.belief)

-- the same as an opening set
abbrev pub first_set : First → RootKey × List Pos
first_set c = ((c.opens, Some c.reply), c.belief)

-- whether some member has no move, and the classes of the moves, ascending
pub record AreFirsts (d : Dialect) (B : List Pos) (r : Firsts) : Type 0 where
  pub ended_part : r.ended ≡ list_any is_ended B
  pub classes_part : map first_pair r.classes.items ≡ classes_in (first_outcomes d B)

-- whether some member is over, and each opening that occurs with its set: what the player meets on the first own turn
pub record AreOpeningSets (d : Dialect) (who : Side) (B : List Pos) (r : Firsts) : Type 0 where
  pub over_part : r.ended ≡ list_any (is_over (chess d) (outset d who)) B
  pub sets_part : map first_set r.classes.items ≡ opening_sets d who B
