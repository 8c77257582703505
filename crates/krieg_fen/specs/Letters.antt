-- The letters of men, and what stands for what in the text of a position.
use Rattle.std.specs.Prelude.{ℕ, ◌==◌, Option, Some, None, is_some, if◌then◌else◌}
use Rattle.krieg_board.specs.declared.men.Side.{Side}
use Rattle.krieg_board.specs.declared.men.Side.TheVariants.{White, Black}
use Rattle.krieg_board.specs.declared.men.Kind.{Kind}
use Rattle.krieg_board.specs.declared.men.Kind.TheVariants.{Pawn, Knight, Bishop, Rook, Queen, King}
use Rattle.krieg_board.specs.declared.men.Man.{Man}

-- a white man's letter: P, N, B, R, Q, K
abbrev pub capital : Kind → ℕ
capital Pawn = 80
capital Knight = 78
capital Bishop = 66
capital Rook = 82
capital Queen = 81
capital King = 75

-- a black man's letter: p, n, b, r, q, k
abbrev pub small_letter : Kind → ℕ
small_letter Pawn = 112
small_letter Knight = 110
small_letter Bishop = 98
small_letter Rook = 114
small_letter Queen = 113
small_letter King = 107

-- the letter of a man
abbrev pub letter : Side → Kind → ℕ
letter White kind = capital kind
letter Black kind = small_letter kind

-- the kind whose letter in that alphabet this is
abbrev pub kind_by : (Kind → ℕ) → ℕ → Option Kind
kind_by alphabet b =
    if b == alphabet Pawn then Some Pawn
    else (if b == alphabet Knight then Some Knight
    else (if b == alphabet Bishop then Some Bishop
    else (if b == alphabet Rook then Some Rook
    else (if b == alphabet Queen then Some Queen
    else (if b == alphabet King then Some King else None)))))

-- a man of that kind, where it is one
abbrev pub man_as : Side → Option Kind → Option Man
man_as side None = None
man_as side (Some kind) = Some (record { side = side; kind = kind })

-- the man whose letter this is
abbrev pub man_of : ℕ → Option Man
man_of b = if is_some (kind_by capital b) then man_as White (kind_by capital b) else man_as Black (kind_by small_letter b)
