-- The least that tells an officer's move from those of its rivals (PGN standard, section 8.2.3.4).
use Rattle.std.specs.Prelude.{ℕ, Bool, true, Option, Some, None, not, ◌&&◌, ◌==◌, if◌then◌else◌}
use Rattle.krieg_board.specs.Pos.{Pos}
use Rattle.krieg_board.specs.Squares.{file_of, rank_of, some_square}
use Rattle.krieg_board.specs.declared.men.Move.{Move}
use Rattle.krieg_moves.specs.Legal.{is_legal}
use Rattle.krieg_moves.specs.Moves.{plain_move}
use Rattle.krieg_record.specs.declared.notation.Officer.{Officer}
use Rattle.krieg_record.specs.declared.notation.Origin.{Origin}
use Rattle.krieg_record.specs.MoveTraits.{kind_of, is_own}
use Rattle.krieg_record.specs.NotationText.{told}

-- the file or the rank that is told is this one, where one is told
abbrev pub agrees : Option ℕ → ℕ → Bool
agrees None n = true
agrees (Some k) n = n == k

-- what is told of the origin is true of the square
abbrev pub fits : Origin → ℕ → Bool
fits o s = agrees o.file (file_of s) && agrees o.rank (rank_of s)

-- a rival: another officer of that kind, on s, may go to the same square
abbrev pub is_rival : Pos → Officer → Move → ℕ → Bool
is_rival p officer m s = not (s == m.from) && (is_own p (kind_of officer) s && is_legal p (plain_move s m.to))

-- what is told is true of the square of some rival too
unfoldable pub is_shared : Pos → Officer → Move → Origin → Bool
is_shared p officer m o = some_square (λ s. fits o s && is_rival p officer m s)

-- the first of these that is not shared: nothing, the file, the rank; and where each is shared, both
unfoldable pub origin : Pos → Officer → Move → Origin
origin p officer m =
    if not (is_shared p officer m (told None None)) then told None None
    else if not (is_shared p officer m (told (Some (file_of m.from)) None)) then told (Some (file_of m.from)) None
    else if not (is_shared p officer m (told None (Some (rank_of m.from)))) then told None (Some (rank_of m.from))
    else told (Some (file_of m.from)) (Some (rank_of m.from))
