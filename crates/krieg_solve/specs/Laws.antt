-- What keys are over trees: a statement that a function of this crate has as its contract.
use Rattle.std.specs.Prelude.{◌≡◌, ℕ, true, ◌↔◌, List}
use Rattle.krieg_board.specs.Pos.{Pos}
use Rattle.krieg_board.specs.declared.men.Move.{Move}
use Rattle.krieg_words.specs.declared.dialects.Dialect.{Dialect}
use Rattle.krieg_theory.specs.Sets.{In}
use Rattle.krieg_theory.specs.Split.{legal_in_some}
use Rattle.krieg_theory.specs.Tree.{Try, Maybe, Edges}
use Rattle.krieg_theory.specs.Wins.{WinsAll}
use Rattle.krieg_game.specs.Keys.{Key}
use Rattle.krieg_game.specs.Chess.{chess}
use Rattle.krieg_solve.specs.KeyTries.{key_try, key_tries}

-- a try is a key of a set with a number exactly where it is legal in some member and begins a tree that wins all of the set within that
abbrev pub KeysAreWon : Dialect → Type 0
KeysAreWon d = (B : List Pos) (j : ℕ) (t : Move) → In (key_try d B t) (key_tries d j B)
    ↔ ((legal_in_some (chess d) B t ≡ true) × (other : Maybe Move Key) × (es : Edges Move Key) × WinsAll (chess d) (Try t other es) B j)
