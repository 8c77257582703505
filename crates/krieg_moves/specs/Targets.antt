-- Where a king steps, and which men have but one way to go.
use Rattle.std.specs.Prelude.{ℕ, Bool, ◌≡◌, ◌<◌, ◌==◌, true, false, Option, Some, None, ◌&&◌, ◌||◌, not, slice_set}
use Rattle.krieg_board.specs.Men.{other, is_same_side}
use Rattle.krieg_board.specs.Pos.{Pos}
use Rattle.krieg_board.specs.Board.{Board, man_at, is_of, is_man}
use Rattle.krieg_board.specs.Attacks.{attacks, man_attacks, is_attacked}
use Rattle.krieg_board.specs.declared.men.Side.{Side}
use Rattle.krieg_board.specs.declared.men.Side.TheVariants.{White}
use Rattle.krieg_board.specs.declared.men.Kind.{Kind}
use Rattle.krieg_board.specs.declared.men.Kind.TheVariants.{Pawn, Knight, Bishop, Rook, Queen, King}
use Rattle.krieg_board.specs.declared.men.Man.{Man}
use Rattle.krieg_rays.specs.Rays.{goes}
use Rattle.krieg_rays.specs.Pinned.{is_pinned}
use Rattle.krieg_moves.specs.After.{is_marked}
use Rattle.krieg_moves.specs.Legal.{is_legal}
use Rattle.krieg_moves.specs.Moves.{plain_move}
use Rattle.krieg_moves.specs.Guarding.{is_answered}

-- a knight, bishop, rook or queen
abbrev pub is_officer : Kind → Bool
is_officer Pawn = false
is_officer Knight = true
is_officer Bishop = true
is_officer Rook = true
is_officer Queen = true
is_officer King = false

-- a knight, bishop, rook or queen of that side
abbrev pub is_officer_of : Side → Option Man → Bool
is_officer_of side None = false
is_officer_of side (Some m) = is_same_side m.side side && is_officer m.kind

-- a knight, bishop, rook or queen of the side to move on k who is not pinned
abbrev pub is_free_officer : Pos → ℕ → Bool
is_free_officer p k = is_officer_of p.side (man_at p.board k) && not (is_pinned p.board p.side k)

-- the king on f attacks t, where no own man stands and which no enemy man attacks once the king has left
abbrev pub is_king_step : Pos → ℕ → Man → ℕ → Bool
is_king_step p f man t =
    (man_attacks p.board (Some man) f t && not (is_of p.side (man_at p.board t))) && not (is_attacked (slice_set p.board f None) t (other p.side))

-- a pawn on f captures on t, with its king on k: an enemy man stands there, and the attacks on the king are answered, or it captures in passing
abbrev pub is_capture : Pos → ℕ → ℕ → ℕ → Bool
is_capture p f k t =
    ((attacks p.board f t && is_of (other p.side) (man_at p.board t)) && is_answered (slice_set p.board f None) (other p.side) k t)
    || (is_marked p.mark t && (attacks p.board f t && is_legal p (plain_move f t)))

-- a pawn of the side to move on k of which no move needs to be made to see that its king is safe: it is not pinned, and nothing may be captured in passing
pub record IsFreePawn (p : Pos) (k : ℕ) : Type 0 where
  pub pawn : is_man p.side Pawn (man_at p.board k) ≡ true
  pub free : is_pinned p.board p.side k ≡ false
  pub unmarked : p.mark ≡ None

-- a king of that side on f steps to t, where no man of his side stands and which no enemy man attacks once he has left
abbrev pub is_step_of_king : Board → Side → ℕ → ℕ → Bool
is_step_of_king b side f t = (goes King White f t && not (is_of side (man_at b t))) && not (is_attacked (slice_set b f None) t (other side))

-- the king of that side stands there, and its other men are pawns
pub record HasOnlyPawns (b : Board) (side : Side) (king : ℕ) : Type 0 where
  pub stands : is_man side King (man_at b king) ≡ true
  pub others : (k : ℕ) → k < 64 → is_of side (man_at b k) ≡ (k == king || is_man side Pawn (man_at b k))

-- the king of that side stands there, and is its only man
pub record IsAlone (b : Board) (side : Side) (king : ℕ) : Type 0 where
  pub stands : is_man side King (man_at b king) ≡ true
  pub alone : (k : ℕ) → k < 64 → is_of side (man_at b k) ≡ (k == king)
