-- What a number stands for: the way back from the codes.
use Rattle.std.specs.Prelude.{ℕ, ◌-◌, ◌/◌, ◌%◌, ◌==◌, Option, Some, None, nat_le, if◌then◌else◌}
use Rattle.krieg_board.specs.declared.men.Side.{Side}
use Rattle.krieg_board.specs.declared.men.Side.TheVariants.{White, Black}
use Rattle.krieg_board.specs.declared.men.Kind.{Kind}
use Rattle.krieg_board.specs.declared.men.Kind.TheVariants.{Pawn, Knight, Bishop, Rook, Queen, King}
use Rattle.krieg_board.specs.declared.men.Man.{Man}
use Rattle.krieg_board.specs.declared.men.Rights.{Rights}

-- the kinds by 1 to 5, and a king by any other number
abbrev pub kind_of : ℕ → Kind
kind_of n = if n == 1 then Pawn else if n == 2 then Knight else if n == 3 then Bishop else if n == 4 then Rook else if n == 5 then Queen else King

-- nothing by 0, a white man by 1 to 6, a black one by a greater number
abbrev pub man_of : ℕ → Option Man
man_of n =
    if n == 0 then None
    else if nat_le n 6 then Some (record { side = White; kind = kind_of n })
    else Some (record { side = Black; kind = kind_of (n - 6) })

-- White by 0, Black by any other number
abbrev pub side_of : ℕ → Side
side_of n = if n == 0 then White else Black

-- no mark by 0, else the square before the number
abbrev pub mark_of : ℕ → Option ℕ
mark_of n = if n == 0 then None else Some (n - 1)

-- the rights by their bits
abbrev pub rights_of : ℕ → Rights
rights_of n = record { white_short = n % 2 == 1; white_long = n / 2 % 2 == 1; black_short = n / 4 % 2 == 1; black_long = n / 8 == 1 }
