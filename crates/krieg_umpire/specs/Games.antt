-- A game: the tries of both players, in the order in which they came, judged one after another.
use Rattle.std.specs.Prelude.{ℕ, List, [], ◌∷◌}
use Rattle.krieg_board.specs.Pos.{Pos}
use Rattle.krieg_umpire.specs.declared.verdict.Event.{Event}
use Rattle.krieg_umpire.specs.declared.verdict.Judged.{Judged}
use Rattle.krieg_umpire.specs.Verdicts.{verdict, next}

-- a try with its verdict
abbrev pub judged : Pos → Event → Judged
judged p e = record { event = e; verdict = verdict p e.who e.mv }

-- each try with its verdict
abbrev pub judge : Pos → List Event → List Judged
judge p [] = []
judge p (e ∷ es) = judged p e ∷ judge (next p e.who e.mv) es

-- the position after all tries
abbrev pub last : Pos → List Event → Pos
last p [] = p
last p (e ∷ es) = last (next p e.who e.mv) es

-- a game as contracts see it: where it stands, the tries so far with their verdicts, and how many more have their place already
pub record GameState : Type 0 where
  pub position : Pos
  pub log : List Judged
  pub spare : ℕ
