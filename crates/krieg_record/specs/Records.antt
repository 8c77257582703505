-- A record as contracts see it.
use Rattle.std.specs.Prelude.{◌≡◌, true, List, [], ◌∷◌}
use Rattle.krieg_board.specs.Pos.{Pos}
use Rattle.krieg_board.specs.Validity.{IsValid}
use Rattle.krieg_board.specs.declared.men.Move.{Move}
use Rattle.krieg_moves.specs.After.{after}
use Rattle.krieg_moves.specs.Legal.{is_legal}
use Rattle.krieg_record.specs.declared.record.Record.{Record}

-- the position in which the game began, and the moves of both players in their order
pub record RecordState : Type 0 where
  pub start : Pos
  pub moves : List Move

-- what a record is to contracts
abbrev pub state_of : Record → RecordState
state_of r = record { start = r.start; moves = r.moves.items }

-- the position after the moves
abbrev pub after_all : Pos → List Move → Pos
after_all p [] = p
after_all p (m ∷ ms) = after_all (after p m) ms

-- each move is legal where it stands
abbrev pub AreLegal : Pos → List Move → Type 0
AreLegal p [] = Unit {0}
AreLegal p (m ∷ ms) = (is_legal p m ≡ true) × AreLegal (after p m) ms

-- it begins in a valid position, and its moves are legal
pub record IsRecord (r : RecordState) : Type 0 where
  pub valid : IsValid r.start
  pub legal : AreLegal r.start r.moves
