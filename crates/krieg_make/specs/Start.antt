-- The position in which a game begins (FIDE Laws, article 2.3).
use Rattle.std.specs.Prelude.{true, List, [], ◌∷◌, ◌++◌, Some, None, map, replicate}
use Rattle.krieg_board.specs.Board.{Board}
use Rattle.krieg_board.specs.Pos.{Pos}
use Rattle.krieg_board.specs.declared.men.Side.{Side}
use Rattle.krieg_board.specs.declared.men.Side.TheVariants.{White, Black}
use Rattle.krieg_board.specs.declared.men.Kind.{Kind}
use Rattle.krieg_board.specs.declared.men.Kind.TheVariants.{Pawn, Knight, Bishop, Rook, Queen, King}

-- a side's men of these kinds, one beside the other
abbrev pub row_of : Side → List Kind → Board
row_of side kinds = map (λ which. Some (record { side = side; kind = which })) kinds

-- the men of a home rank, from the a-file to the h-file
abbrev pub officers : List Kind
officers = Rook ∷ Knight ∷ Bishop ∷ Queen ∷ King ∷ Bishop ∷ Knight ∷ Rook ∷ []

-- White's officers and pawns, four empty ranks, Black's pawns and officers
abbrev pub start_board : Board
start_board =
    row_of White officers
    ++ row_of White (replicate 8 Pawn)
    ++ replicate 32 None
    ++ row_of Black (replicate 8 Pawn)
    ++ row_of Black officers

-- White is to move, and all castling rights are held
unfoldable pub start_position : Pos
start_position = record {
  board = start_board;
  side = White;
  rights = record { white_short = true; white_long = true; black_short = true; black_long = true };
  mark = None;
}
