-- The kinds of check that the side to move is in.
use Rattle.std.specs.Prelude.{ℕ, Bool, true, false, ◌+◌, Option, ◌&&◌, ◌||◌, ◌==◌, if◌then◌else◌}
use Rattle.krieg_board.specs.Men.{other}
use Rattle.krieg_board.specs.Squares.{file_of, rank_of, some_square}
use Rattle.krieg_board.specs.Board.{Board, man_at, is_of, is_man}
use Rattle.krieg_board.specs.Attacks.{attacks}
use Rattle.krieg_board.specs.Pos.{Pos}
use Rattle.krieg_board.specs.declared.men.Man.{Man}
use Rattle.krieg_board.specs.declared.men.Side.{Side}
use Rattle.krieg_board.specs.declared.men.Side.TheVariants.{White, Black}
use Rattle.krieg_board.specs.declared.men.Kind.TheVariants.{King, Knight}
use Rattle.krieg_words.specs.Diagonals.{is_long_diagonal}
use Rattle.krieg_words.specs.declared.kinds.Kinds.{Kinds}

-- how a man attacks a king: along a file, a rank, the longer or the shorter of the two diagonals through the king's square, or by a knight's leap
pub data CheckKind : Type 0 where
  File Rank Long Short Leap : CheckKind

-- a knight of either side
abbrev pub is_knight : Option Man → Bool
is_knight m = is_man White Knight m || is_man Black Knight m

-- the kind of check that this man gives from s to a king on k, where it attacks that square
abbrev pub kind_from : Option Man → ℕ → ℕ → CheckKind
kind_from man k s =
    if is_knight man then Leap
    else if file_of s == file_of k then File
    else if rank_of s == rank_of k then Rank
    else if is_long_diagonal k s then Long
    else Short

-- both are checks of one kind
abbrev pub is_same_check : CheckKind → CheckKind → Bool
is_same_check File File = true
is_same_check Rank Rank = true
is_same_check Long Long = true
is_same_check Short Short = true
is_same_check Leap Leap = true
is_same_check _ _ = false

-- an enemy man on s gives the king on k a check of that kind
unfoldable pub checks_from : Board → Side → CheckKind → ℕ → ℕ → Bool
checks_from b side which k s =
    is_of (other side) (man_at b s) && (attacks b s k && is_same_check (kind_from (man_at b s) k s) which)

-- some enemy man gives the king on k a check of that kind
unfoldable pub is_checked_at : Board → Side → CheckKind → ℕ → Bool
is_checked_at b side which k = some_square (checks_from b side which k)

-- that side's king is in a check of that kind
unfoldable pub is_checked : Board → Side → CheckKind → Bool
is_checked b side which = some_square (λ k. is_man side King (man_at b k) && is_checked_at b side which k)

-- the kinds of check that the side to move is in
unfoldable pub kinds : Pos → Kinds
kinds p = record {
  knight = is_checked p.board p.side Leap;
  short = is_checked p.board p.side Short;
  long = is_checked p.board p.side Long;
  rank = is_checked p.board p.side Rank;
  file = is_checked p.board p.side File;
}

-- the kinds as a number: file 1, rank 2, long diagonal 4, short diagonal 8, knight 16
abbrev pub bits_of : Kinds → ℕ
bits_of k = (if k.file then 1 else 0) + (if k.rank then 2 else 0) + (if k.long then 4 else 0) + (if k.short then 8 else 0) + (if k.knight then 16 else 0)
