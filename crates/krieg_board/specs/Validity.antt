-- Valid positions, and the first fault of one that is not.
use Rattle.std.specs.Prelude.{ℕ, Bool, true, ◌≡◌, Option, Some, None, not, ◌&&◌, ◌||◌, ◌==◌, nat_le, count_by, length, if◌then◌else◌}
use Rattle.krieg_board.specs.Men.{other}
use Rattle.krieg_board.specs.Squares.{file_of, rank_of, square_at, home_rank, pawn_rank, crossed_rank, landing_rank, every_square}
use Rattle.krieg_board.specs.Board.{Board, man_at, is_empty, is_of, is_man}
use Rattle.krieg_board.specs.Attacks.{is_king_attacked}
use Rattle.krieg_board.specs.Pos.{Pos}
use Rattle.krieg_board.specs.declared.men.Side.{Side}
use Rattle.krieg_board.specs.declared.men.Side.TheVariants.{White, Black}
use Rattle.krieg_board.specs.declared.men.Kind.{Kind}
use Rattle.krieg_board.specs.declared.men.Kind.TheVariants.{Pawn, Rook, King}
use Rattle.krieg_board.specs.declared.men.Man.{Man}
use Rattle.krieg_board.specs.declared.men.Rights.{Rights}
use Rattle.krieg_faults.specs.declared.position.BadPosition.{BadPosition}
use Rattle.krieg_faults.specs.declared.position.BadPosition.TheVariants as bad

-- how many men of that side and kind there are
abbrev pub count_kind : Board → Side → Kind → ℕ
count_kind b side which = count_by (is_man side which) b

-- how many men of that side there are
abbrev pub count_side : Board → Side → ℕ
count_side b side = count_by (is_of side) b

-- each side has exactly one king
abbrev pub has_kings : Board → Bool
has_kings b = count_kind b White King == 1 && count_kind b Black King == 1

-- a pawn of either side
abbrev pub is_pawn : Option Man → Bool
is_pawn m = is_man White Pawn m || is_man Black Pawn m

-- no pawn stands on the first or the last rank
unfoldable pub has_pawns_inside : Board → Bool
has_pawns_inside b = every_square (λ s. not (is_pawn (man_at b s) && (rank_of s == 0 || rank_of s == 7)))

-- a side has at most 16 men and at most 8 pawns
abbrev pub is_small : Board → Side → Bool
is_small b side = nat_le (count_side b side) 16 && nat_le (count_kind b side Pawn) 8

-- a right that is held has that side's king on the e-file and its rook on that file, both on the home rank
abbrev pub has_castle : Board → Bool → Side → ℕ → Bool
has_castle b held side rook_file =
    not held || (is_man side King (man_at b (square_at 4 (home_rank side))) && is_man side Rook (man_at b (square_at rook_file (home_rank side))))

-- the rooks of the short rights stand on the h-file, those of the long ones on the a-file
abbrev pub has_castles : Board → Rights → Bool
has_castles b r =
    has_castle b r.white_short White 7
    && (has_castle b r.white_long White 0
    && (has_castle b r.black_short Black 7
    && has_castle b r.black_long Black 0))

-- a pawn of that side may just have crossed the square: it stands where a two-square advance ends, and the two squares behind it are empty
abbrev pub is_crossed : Board → Side → ℕ → Bool
is_crossed b pawn_side s =
    rank_of s == crossed_rank pawn_side
    && (is_man pawn_side Pawn (man_at b (square_at (file_of s) (landing_rank pawn_side)))
    && (is_empty b s && is_empty b (square_at (file_of s) (pawn_rank pawn_side))))

-- the mark, where there is one, was crossed by a pawn of the side that is not to move
abbrev pub has_mark : Board → Side → Option ℕ → Bool
has_mark b to_move None = true
has_mark b to_move (Some s) = is_crossed b (other to_move) s

-- the first fault, in their order
unfoldable pub first_fault : Pos → Option BadPosition
first_fault p =
    if not (has_kings p.board) then Some bad.Kings
    else if not (has_pawns_inside p.board) then Some bad.PawnRank
    else if not (is_small p.board White && is_small p.board Black) then Some bad.TooManyMen
    else if is_king_attacked p.board (other p.side) then Some bad.IdleInCheck
    else if not (has_castles p.board p.rights) then Some bad.Rights
    else if not (has_mark p.board p.side p.mark) then Some bad.Mark
    else None

-- a board of 64 squares without a fault
pub record IsValid (p : Pos) : Type 0 where
  pub squares : length p.board ≡ 64
  pub no_fault : first_fault p ≡ None
