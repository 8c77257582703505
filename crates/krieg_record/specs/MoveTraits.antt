-- What is told of a move: which man goes, whether it castles, whether it captures.
use Rattle.std.specs.Prelude.{ℕ, Bool, false, Option, Some, None, not, ◌||◌, if◌then◌else◌}
use Rattle.krieg_board.specs.Pos.{Pos}
use Rattle.krieg_board.specs.Board.{man_at, is_man, is_empty}
use Rattle.krieg_board.specs.declared.men.Kind.{Kind}
use Rattle.krieg_board.specs.declared.men.Kind.TheVariants as kind
use Rattle.krieg_board.specs.declared.men.Man.{Man}
use Rattle.krieg_board.specs.declared.men.Move.{Move}
use Rattle.krieg_moves.specs.After.{is_castling, is_en_passant}
use Rattle.krieg_moves.specs.declared.wing.Wing.{Wing}
use Rattle.krieg_moves.specs.declared.wing.Wing.TheVariants.{Short, Long}
use Rattle.krieg_record.specs.declared.notation.Officer.{Officer}
use Rattle.krieg_record.specs.declared.notation.Officer.TheVariants.{King, Queen, Rook, Bishop, Knight}

-- an officer is a man that is no pawn
abbrev pub kind_of : Officer → Kind
kind_of King = kind.King
kind_of Queen = kind.Queen
kind_of Rook = kind.Rook
kind_of Bishop = kind.Bishop
kind_of Knight = kind.Knight

-- the officer of that kind: every man but a pawn is one
abbrev pub officer_of : Kind → Option Officer
officer_of kind.Pawn = None
officer_of kind.Knight = Some Knight
officer_of kind.Bishop = Some Bishop
officer_of kind.Rook = Some Rook
officer_of kind.Queen = Some Queen
officer_of kind.King = Some King

-- the officer that a man is, if he is one
abbrev pub officer_by : Option Man → Option Officer
officer_by None = None
officer_by (Some man) = officer_of man.kind

-- the officer on the square, where one stands there
abbrev pub officer_at : Pos → ℕ → Option Officer
officer_at p s = officer_by (man_at p.board s)

-- a man of that kind and of the side to move stands on the square
abbrev pub is_own : Pos → Kind → ℕ → Bool
is_own p which s = is_man p.side which (man_at p.board s)

-- the wing to which the man castles by the move, if he does
abbrev pub castling_by : Option Man → Move → Option Wing
castling_by None m = None
castling_by (Some man) m = if is_castling Short man m then Some Short else if is_castling Long man m then Some Long else None

-- the wing on which the move castles, where it does
abbrev pub castling : Pos → Move → Option Wing
castling p m = castling_by (man_at p.board m.from) m

-- the man captures by the move, perhaps in passing
abbrev pub captures_by : Pos → Option Man → Move → Bool
captures_by p None m = false
captures_by p (Some man) m = not (is_empty p.board m.to) || is_en_passant p.mark man m

-- the move captures: a man stands where it arrives, or a pawn captures in passing
abbrev pub captures : Pos → Move → Bool
captures p m = captures_by p (man_at p.board m.from) m
