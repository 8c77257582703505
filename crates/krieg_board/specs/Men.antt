-- Sides, kinds and rights, and when two of them are the same.
use Rattle.std.specs.Prelude.{ℕ, Bool, true, false, ◌+◌, if◌then◌else◌}
use Rattle.krieg_board.specs.declared.men.Side.{Side}
use Rattle.krieg_board.specs.declared.men.Side.TheVariants.{White, Black}
use Rattle.krieg_board.specs.declared.men.Rights.{Rights}
use Rattle.krieg_board.specs.declared.men.Kind.{Kind}
use Rattle.krieg_board.specs.declared.men.Kind.TheVariants.{Pawn, Knight, Bishop, Rook, Queen, King}

-- the opponent's side
abbrev pub other : Side → Side
other White = Black
other Black = White

-- both are White, or both are Black
abbrev pub is_same_side : Side → Side → Bool
is_same_side White White = true
is_same_side Black Black = true
is_same_side _ _ = false

-- both are men of one kind
abbrev pub is_same_kind : Kind → Kind → Bool
is_same_kind Pawn Pawn = true
is_same_kind Knight Knight = true
is_same_kind Bishop Bishop = true
is_same_kind Rook Rook = true
is_same_kind Queen Queen = true
is_same_kind King King = true
is_same_kind _ _ = false

-- both are true, or both are false
abbrev pub is_same_bool : Bool → Bool → Bool
is_same_bool true true = true
is_same_bool false false = true
is_same_bool _ _ = false

-- nobody may castle
abbrev pub no_rights : Rights
no_rights = record { white_short = false; white_long = false; black_short = false; black_long = false }

-- the rights as a number: White short 1, White long 2, Black short 4, Black long 8
abbrev pub bits_of : Rights → ℕ
bits_of r = (if r.white_short then 1 else 0) + (if r.white_long then 2 else 0) + (if r.black_short then 4 else 0) + (if r.black_long then 8 else 0)
