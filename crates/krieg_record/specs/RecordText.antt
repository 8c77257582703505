-- The one written form of a record.
use Rattle.std.specs.Prelude.{ℕ, List, [], ◌∷◌, ◌++◌, codes}
use Rattle.krieg_board.specs.Pos.{Pos}
use Rattle.krieg_board.specs.declared.men.Move.{Move}
use Rattle.krieg_fen.specs.FenText.{position_text}
use Rattle.krieg_text.specs.Writing.{Pieces, alone, put_lines}
use Rattle.krieg_moves.specs.After.{after}
use Rattle.krieg_record.specs.Records.{RecordState}
use Rattle.krieg_record.specs.San.{san_text}
use Rattle.krieg_fen.specs.Forms.{side_mark}

-- the mark of the side to move, and the text of its move
abbrev pub move_line : Pos → Move → Pieces
move_line p m = side_mark p.side ∷ san_text p m ∷ []

-- a line for each move, where the moves before it have been made
abbrev pub move_lines : Pos → List Move → List Pieces
move_lines p [] = []
move_lines p (m ∷ ms) = move_line p m ∷ move_lines (after p m) ms

-- the version, the start, a line for each move, the last line
abbrev pub record_lines : RecordState → List Pieces
record_lines r =
    alone (codes "krieg record 1")
    ∷ (codes "start " ∷ position_text r.start ∷ [])
    ∷ (move_lines r.start r.moves ++ (alone (codes "end") ∷ []))

-- a line feed stands after every line
unfoldable pub record_text : RecordState → List ℕ
record_text r = put_lines [] (record_lines r)
