-- What a try does in a set where one move is left.
use Rattle.std.specs.Prelude.{◌≡◌, ◌+◌, ◌||◌, List, map}
use Rattle.std.specs.List.{list_any}
use Rattle.krieg_board.specs.Pos.{Pos}
use Rattle.krieg_board.specs.declared.men.Move.{Move}
use Rattle.krieg_words.specs.declared.dialects.Dialect.{Dialect}
use Rattle.krieg_theory.specs.Split as theory
use Rattle.krieg_costs.specs.Sums.{total}
use Rattle.krieg_game.specs.Chess.{chess}
use Rattle.krieg_parting.specs.Mating.{lives, replies}
use Rattle.krieg_split.specs.declared.tallies.Tally.{Tally}

-- how many replies there are to it in all members, and whether in some it is legal and does not mate
abbrev pub tally_of : List Pos → Move → Tally
tally_of B t = record { mv = t; replies = total (replies t) B; lives = list_any (lives t) B }

-- the same once one member more is counted
abbrev pub tally_with : Pos → Tally → Tally
tally_with p y = record { mv = y.mv; replies = y.replies + replies y.mv p; lives = y.lives || lives y.mv p }

-- the tallies of all tries of the set B, in the members C
abbrev pub AreTallies : List Pos → List Pos → List Tally → Type 0
AreTallies B C ys = (d : Dialect) → ys ≡ map (tally_of C) (theory.tries (chess d) B)
