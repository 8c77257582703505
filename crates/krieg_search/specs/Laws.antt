-- What an account says of the units: a statement that a function of this crate has as its contract.
use Rattle.std.specs.Prelude.{ℕ, false, List}
use Rattle.krieg_board.specs.Pos.{Pos}
use Rattle.krieg_board.specs.declared.men.Side.{Side}
use Rattle.krieg_words.specs.declared.dialects.Dialect.{Dialect}
use Rattle.krieg_search.specs.Decision.{IsAccount, IsBetween}

-- what an account comes to is at least the floor and at most what is fresh
abbrev pub AccountIsBetween : Dialect → Side → Type 0
AccountIsBetween d who = (S : List Pos) (n had has : ℕ) → IsAccount d who S n false had has → IsBetween d who S n had has
