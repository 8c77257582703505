-- What a try makes of a set.
use Rattle.std.specs.Prelude.{◌≡◌, true, false, List, Option, Some, None}
use Rattle.krieg_board.specs.Pos.{Pos}
use Rattle.krieg_board.specs.declared.men.Move.{Move}
use Rattle.krieg_words.specs.declared.dialects.Dialect.{Dialect}
use Rattle.krieg_theory.specs.Split.{stale_in_some}
use Rattle.krieg_game.specs.Chess.{chess}
use Rattle.krieg_parting.specs.declared.parts.Parted.{Parted}
pub use Rattle.krieg_parting.specs.Parts.{IsParted}

-- nothing where the try stalemates in some member, and the parts where it does in none
abbrev pub IsUnlessStale : Dialect → List Pos → Move → Option Parted → Type 0
IsUnlessStale d B t None = stale_in_some (chess d) B t ≡ true
IsUnlessStale d B t (Some r) = (stale_in_some (chess d) B t ≡ false) × IsParted d B t r
