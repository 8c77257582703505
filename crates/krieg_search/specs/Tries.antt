-- A try of a set, and what is told of it where one move is left.
use Rattle.std.specs.Prelude.{◌≡◌, ℕ, List, ⊤}
use Rattle.krieg_board.specs.Pos.{Pos}
use Rattle.krieg_board.specs.declared.men.Move.{Move}
use Rattle.krieg_split.specs.Tallies.{tally_of}
use Rattle.krieg_search.specs.declared.try_list.Try.{Try}
use Rattle.krieg_search.specs.declared.try_list.Try.TheVariants.{Plain, Counted}

abbrev pub move_of : Try → Move
move_of (Plain t) = t
move_of (Counted y) = y.mv

-- nothing, or its tally in the set with one move left
abbrev pub IsTold : List Pos → ℕ → Try → Type 0
IsTold B j (Plain t) = ⊤
IsTold B j (Counted y) = (j ≡ 1) × (y ≡ tally_of B y.mv)
