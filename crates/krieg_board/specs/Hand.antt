-- When two positions look the same to one side: its own men, its own castling rights and whose turn it is.
use Rattle.std.specs.Prelude.{Bool, true, false, Option, Some, None, not, ◌&&◌, if◌then◌else◌}
use Rattle.krieg_board.specs.Men.{is_same_side, is_same_kind, is_same_bool}
use Rattle.krieg_board.specs.Squares.{every_square}
use Rattle.krieg_board.specs.Board.{Board, man_at, is_of}
use Rattle.krieg_board.specs.Pos.{Pos}
use Rattle.krieg_board.specs.declared.men.Side.{Side}
use Rattle.krieg_board.specs.declared.men.Side.TheVariants.{White, Black}
use Rattle.krieg_board.specs.declared.men.Man.{Man}
use Rattle.krieg_board.specs.declared.men.Rights.{Rights}

-- both are the same man of the same side, or neither is a man
abbrev pub is_same_man : Option Man → Option Man → Bool
is_same_man None None = true
is_same_man None (Some b) = false
is_same_man (Some a) None = false
is_same_man (Some a) (Some b) = is_same_side a.side b.side && is_same_kind a.kind b.kind

-- both hold men of one kind, or neither holds a man
abbrev pub is_alike : Option Man → Option Man → Bool
is_alike None None = true
is_alike None (Some b) = false
is_alike (Some a) None = false
is_alike (Some a) (Some b) = is_same_kind a.kind b.kind

-- both hold the same man of that side, or neither holds one
abbrev pub is_same_of : Side → Option Man → Option Man → Bool
is_same_of who a b = if is_of who a then is_same_man a b else not (is_of who b)

-- the same men of that side on the same squares
unfoldable pub has_same_men : Side → Board → Board → Bool
has_same_men who a b = every_square (λ s. is_same_of who (man_at a s) (man_at b s))

-- the same rights of that side
abbrev pub has_same_rights : Side → Rights → Rights → Bool
has_same_rights White a b = is_same_bool a.white_short b.white_short && is_same_bool a.white_long b.white_long
has_same_rights Black a b = is_same_bool a.black_short b.black_short && is_same_bool a.black_long b.black_long

-- marks and the other side's men and rights are not compared
unfoldable pub same_hand : Pos → Pos → Side → Bool
same_hand a b who = has_same_men who a.board b.board && (has_same_rights who a.rights b.rights && is_same_side a.side b.side)
