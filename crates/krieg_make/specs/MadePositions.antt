-- The made positions: 1380 of them by number, in which White mates by g1g8 and sees no difference.
use Rattle.std.specs.Prelude.{ℕ, ◌+◌, ◌-◌, ◌/◌, ◌%◌, false, List, [], ◌∷◌, Some, None, map, fold, slice_set, slice_index_or}
use Rattle.std.specs.List.{range_with_len}
use Rattle.krieg_board.specs.Squares.{square_at, gathered}
use Rattle.krieg_board.specs.Board.{Board}
use Rattle.krieg_board.specs.Boards.{empty_board}
use Rattle.krieg_board.specs.Pos.{Pos}
use Rattle.krieg_board.specs.declared.men.Side.{Side}
use Rattle.krieg_board.specs.declared.men.Side.TheVariants.{White, Black}
use Rattle.krieg_board.specs.declared.men.Kind.{Kind}
use Rattle.krieg_board.specs.declared.men.Kind.TheVariants.{Pawn, Rook, King}
use Rattle.krieg_board.specs.declared.men.Man.{Man}
use Rattle.krieg_make.specs.Named.{c1, g1, h7}

-- the 24 places for pawns, numbered from 0: the files a to f of the third rank, then those of the fourth, fifth and sixth
abbrev pub pawn_place : ℕ → ℕ
pawn_place u = square_at (u % 6) (2 + u / 6)

-- the pairs of places of which u is the lower one, by the higher one
abbrev pub pairs_above : ℕ → List (ℕ × ℕ)
pairs_above u = map (λ v. (u, v)) (range_with_len (u + 1) (23 - u))

-- all 276 pairs of places: (0, 1), (0, 2) to (0, 23), then (1, 2) to (1, 23), and so on to (22, 23)
unfoldable pub pairs : List (ℕ × ℕ)
pairs = gathered pairs_above 23

-- the pair with that number, from 0 to 275
unfoldable pub pair_at : ℕ → ℕ × ℕ
pair_at q = slice_index_or pairs q (0, 1)

-- the board with these men on these squares, and no others
abbrev pub board_with : List (ℕ × Man) → Board
board_with men = fold (λ b on. slice_set b on.0 (Some on.1)) empty_board men

-- a man of that side and kind
abbrev pub man : Side → Kind → Man
man side which = record { side = side; kind = which }

-- White's king on c1 and rooks on g1 and h7; Black's king on a file of the last rank, and pawns on a pair of places
unfoldable pub made_board : ℕ → ℕ × ℕ → Board
made_board file pair = board_with (
    (c1, man White King)
    ∷ (g1, man White Rook)
    ∷ (h7, man White Rook)
    ∷ (square_at file 7, man Black King)
    ∷ (pawn_place pair.0, man Black Pawn)
    ∷ (pawn_place pair.1, man Black Pawn) ∷ [])

-- The position with that number, from 0 on: with the black king on the files a to e, for each pair of places. White is to move, and nobody may castle
unfoldable pub made_position : ℕ → Pos
made_position i = record {
  board = made_board (i % 5) (pair_at (i / 5));
  side = White;
  rights = record { white_short = false; white_long = false; black_short = false; black_long = false };
  mark = None;
}
