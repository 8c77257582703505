-- The position that a text spells, or the first fault of the text (PGN standard, section 16.1).
use Rattle.std.specs.Prelude.{ℕ, List, [], ◌∷◌, Option, Some, None, Result, Ok, Err, if◌then◌else◌}
use Rattle.krieg_board.specs.Pos.{Pos}
use Rattle.krieg_board.specs.Validity.{first_fault}
use Rattle.krieg_faults.specs.declared.position.BadPosition.{BadPosition}
use Rattle.krieg_fen.specs.declared.fen.FenFault.{FenFault}
use Rattle.krieg_fen.specs.declared.fen.FenFault.TheVariants.{Fields, Field, Bad}
use Rattle.krieg_text.specs.Outcomes.{◌>>=◌}
use Rattle.krieg_text.specs.Pieces.{pieces}
use Rattle.krieg_fen.specs.Ranks.{board_of}
use Rattle.krieg_fen.specs.Fields.{side_of, rights_of, mark_of, is_clock}

-- the value of field n, or that it is outside its grammar
abbrev pub field : {A : Type 0} → ℕ → Option A → Result A FenFault
field n None = Err (Field n)
field n (Some x) = Ok x

-- a clock is read and dropped
abbrev pub clock : ℕ → List ℕ → Result (Unit {0}) FenFault
clock n text = if is_clock text then Ok tt else Err (Field n)

-- what the first four fields say, valid or not
abbrev pub parts_at : List ℕ → List ℕ → List ℕ → List ℕ → Result Pos FenFault
parts_at a b c d = do
  board ← field 1 (board_of a)
  side ← field 2 (side_of b)
  rights ← field 3 (rights_of c)
  mark ← field 4 (mark_of d)
  Ok (record { board = board; side = side; rights = rights; mark = mark })

-- both clocks are numbers in their fields
abbrev pub clocks_at : List ℕ → List ℕ → Result (Unit {0}) FenFault
clocks_at half full = do
  h ← clock 5 half
  clock 6 full

-- the position, unless it has that fault
abbrev pub unless : Pos → Option BadPosition → Result Pos FenFault
unless p None = Ok p
unless p (Some fault) = Err (Bad fault)

-- a position that is valid
abbrev pub checked : Pos → Result Pos FenFault
checked p = unless p (first_fault p)

-- four or six fields, from left to right, and then the position that they make
abbrev pub position_at : List (List ℕ) → Result Pos FenFault
position_at (a ∷ b ∷ c ∷ d ∷ []) = do
  parts ← parts_at a b c d
  checked parts
position_at (a ∷ b ∷ c ∷ d ∷ e ∷ f ∷ []) = do
  parts ← parts_at a b c d
  clocks ← clocks_at e f
  checked parts
position_at _ = Err Fields

-- the fields are cut at each space, byte 32
unfoldable pub position_of : List ℕ → Result Pos FenFault
position_of text = position_at (pieces 32 text)
