-- The fields of a position after the first: the side to move, the rights, the mark and the two clocks.
use Rattle.std.specs.Prelude.{ℕ, ◌==◌, Bool, true, false, ◌&&◌, ◌||◌, List, [], ◌∷◌, length, Option, Some, None, nat_le, if◌then◌else◌}
use Rattle.std.specs.List.{list_all}
use Rattle.std.specs.Char.{is_ascii_digit}
use Rattle.krieg_board.specs.Men.{no_rights}
use Rattle.krieg_board.specs.declared.men.Side.{Side}
use Rattle.krieg_board.specs.declared.men.Side.TheVariants.{White, Black}
use Rattle.krieg_board.specs.declared.men.Rights.{Rights}
use Rattle.krieg_fen.specs.MoveText.{square_of}

-- `w` is byte 119 and `b` is 98
abbrev pub side_of : List ℕ → Option Side
side_of (b ∷ []) = if b == 119 then Some White else (if b == 98 then Some Black else None)
side_of _ = None

-- whether the letter is at the front, and what stands after it where it is
abbrev pub letter_at : ℕ → List ℕ → Bool × List ℕ
letter_at c [] = (false, [])
letter_at c (b ∷ bs) = if b == c then (true, bs) else (false, b ∷ bs)

-- those of `K` 75, `Q` 81, `k` 107 and `q` 113 that stand at the front in this order, and what stands after them
abbrev pub letters_of : List ℕ → Rights × List ℕ
letters_of text =
    let a = letter_at 75 text in let b = letter_at 81 a.1 in let c = letter_at 107 b.1 in let d = letter_at 113 c.1 in
    (record { white_short = a.0; white_long = b.0; black_short = c.0; black_long = d.0 }, d.1)

-- a dash, byte 45, or one or more of the letters in their order
abbrev pub rights_of : List ℕ → Option Rights
rights_of [] = None
rights_of (b ∷ bs) =
    if length bs == 0 && b == 45 then Some no_rights
    else (if length (letters_of (b ∷ bs)).1 == 0 then Some (letters_of (b ∷ bs)).0 else None)

-- a mark on that square, where the square is one
abbrev pub mark_at : Option ℕ → Option (Option ℕ)
mark_at None = None
mark_at (Some s) = Some (Some s)

-- a dash, or the letter of a file with `3`, byte 51, or `6`, byte 54
abbrev pub mark_of : List ℕ → Option (Option ℕ)
mark_of (b ∷ []) = if b == 45 then Some None else None
mark_of (file ∷ rank ∷ []) = if rank == 51 || rank == 54 then mark_at (square_of file rank) else None
mark_of _ = None

-- one to ten digits
abbrev pub is_clock : List ℕ → Bool
is_clock text = list_all is_ascii_digit text && (nat_le 1 (length text) && nat_le (length text) 10)
