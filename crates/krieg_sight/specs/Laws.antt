-- The same as in the theory, whatever the dialect.
use Rattle.std.specs.Prelude.{◌≡◌, ℕ, List}
use Rattle.std.specs.List.{list_any}
use Rattle.krieg_board.specs.Pos.{Pos}
use Rattle.krieg_board.specs.declared.men.Move.{Move}
use Rattle.krieg_words.specs.declared.dialects.Dialect.{Dialect}
use Rattle.krieg_theory.specs.Seen.{sees, escapes_in_some}
use Rattle.krieg_game.specs.Chess.{chess}
use Rattle.krieg_nets.specs.Seen.{mates_within, flees}

-- mate by a player who sees the position is the same here and in the theory
abbrev pub SeesIsMates : Type 0
SeesIsMates = (d : Dialect) (j : ℕ) (p : Pos) → sees (chess d) j p ≡ mates_within j p

-- so is a reply that escapes
abbrev pub EscapesIsFlees : Type 0
EscapesIsFlees = (d : Dialect) (j : ℕ) (B : List Pos) (t : Move) → escapes_in_some (chess d) j B t ≡ list_any (flees j t) B
