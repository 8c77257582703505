-- The two wings on which a king may castle, and the squares of its king and its rook there (FIDE Laws, article 3.8.2).
use Rattle.std.specs.Prelude.{ℕ}
use Rattle.krieg_board.specs.Squares.{square_at, home_rank}
use Rattle.krieg_board.specs.declared.men.Side.{Side}
use Rattle.krieg_moves.specs.declared.wing.Wing.{Wing}
use Rattle.krieg_moves.specs.declared.wing.Wing.TheVariants.{Short, Long}

-- the file on which the rook begins: the h-file, or the a-file
abbrev pub rook_file : Wing → ℕ
rook_file Short = 7
rook_file Long = 0

-- the file on which the king arrives: the g-file, or the c-file
abbrev pub arrival_file : Wing → ℕ
arrival_file Short = 6
arrival_file Long = 2

-- the file that the king crosses, and on which the rook arrives: the f-file, or the d-file
abbrev pub crossing_file : Wing → ℕ
crossing_file Short = 5
crossing_file Long = 3

-- the square where a side's king begins: e1, or e8
abbrev pub king_square : Side → ℕ
king_square side = square_at 4 (home_rank side)

-- the corner where the wing's rook begins
abbrev pub corner : Wing → Side → ℕ
corner wing side = square_at (rook_file wing) (home_rank side)

-- the square where the king arrives
abbrev pub arrival : Wing → Side → ℕ
arrival wing side = square_at (arrival_file wing) (home_rank side)

-- the square that the king crosses, and where the rook arrives
abbrev pub crossing : Wing → Side → ℕ
crossing wing side = square_at (crossing_file wing) (home_rank side)
