-- A king who is alone against officers, wherever he stands: sets of his squares, each with all that is so of the positions with him there.
use Rattle.std.specs.Prelude.{ℕ, ◌≡◌, ◌<◌, ◌⊎◌, true, false, List, None, Option, Some, Vec, slice_get}
use Rattle.std.specs.declared.alloc.Global.{Global}
use Rattle.krieg_board.specs.Board.{Board, man_at}
use Rattle.krieg_board.specs.Men.{other}
use Rattle.krieg_board.specs.Pos.{Pos}
use Rattle.krieg_board.specs.Sets.{has}
use Rattle.krieg_board.specs.Validity.{IsValid}
use Rattle.krieg_board.specs.declared.men.Move.{Move}
use Rattle.krieg_board.specs.declared.men.Side.{Side}
use Rattle.krieg_moves.specs.After.{after}
use Rattle.krieg_moves.specs.Legal.{is_legal}
use Rattle.krieg_moves.specs.Moves.{is_stalemate}
use Rattle.krieg_nets.specs.LoneKings.{with_king}
use Rattle.krieg_nets.specs.Others.{lone_of, men_of}
use Rattle.krieg_nets.specs.Seen.{is_met, leaves_none, mates_within}
use Rattle.krieg_nets.specs.declared.men.Men.{Men}
use Rattle.krieg_nets.specs.declared.kept.Net.{Net}
use Rattle.krieg_nets.specs.declared.others.Others.{Others}

-- the men against whom a king is alone, and whose king he is
pub record Against : Type 0 where
  pub board : Board
  pub lone : Side

-- the board of these men, and the side of the king against whom they are
abbrev pub against : Men → Against
against men = record { board = men.bits; lone = lone_of men.others }

-- and of these sets
abbrev pub against_by : Others → Against
against_by o = record { board = men_of o; lone = lone_of o }

-- the position is that of the men with the lone king on an empty square
pub record IsWith (men : Against) (king : ℕ) (p : Pos) : Type 0 where
  pub empty : man_at men.board king ≡ None
  pub is : with_king men.board men.lone king p.side ≡ p

-- with him on any of the squares, where it is empty, and the others to move, these do not mate within so many moves
abbrev pub AreNone : Board → Side → ℕ → ℕ → Type 0
AreNone men lone moves set =
    (k : ℕ) → k < 64 → has set k ≡ true → man_at men k ≡ None → IsValid (with_king men lone k (other lone)) → mates_within moves (with_king men lone k (other lone)) ≡ false

-- with him on any of the squares, where it is empty, and to move, some move of his leaves them no mate within so many
abbrev pub AreFled : Board → Side → ℕ → ℕ → Type 0
AreFled men lone moves set = (k : ℕ) → k < 64 → has set k ≡ true → man_at men k ≡ None → IsValid (with_king men lone k lone) → leaves_none moves (with_king men lone k lone) ≡ true

-- with him on any of the squares and to move he is stalemated
abbrev pub AreStale : Board → Side → ℕ → Type 0
AreStale men lone set = (k : ℕ) → k < 64 → has set k ≡ true → IsValid (with_king men lone k lone) → is_stalemate (with_king men lone k lone) ≡ true

-- with him on the square, where it is empty, and the others to move, the move is illegal, or they do not mate within so many more behind it
abbrev pub Fails : Against → ℕ → ℕ → Move → Type 0
Fails men fewer k t =
    man_at men.board k ≡ None → IsValid (with_king men.board men.lone k (other men.lone)) → is_legal (with_king men.board men.lone k (other men.lone)) t ≡ true →
    is_met (mates_within fewer) (after (with_king men.board men.lone k (other men.lone)) t) ≡ false

-- with him on any of the squares each move from the one to the other fails
abbrev pub AllFailBetween : Against → ℕ → ℕ → ℕ → ℕ → Type 0
AllFailBetween men fewer from to set = (k : ℕ) → k < 64 → has set k ≡ true → (t : Move) → t.from ≡ from → t.to ≡ to → Fails men fewer k t

-- with him on any of the squares each move of the man on that square fails
abbrev pub AllFailFrom : Against → ℕ → ℕ → ℕ → Type 0
AllFailFrom men fewer from set = (k : ℕ) → k < 64 → has set k ≡ true → (t : Move) → t.from ≡ from → Fails men fewer k t

-- all of that for one number of moves
pub record IsNet (men : Against) (moves : ℕ) (net : Net) : Type 0 where
  pub none : AreNone men.board men.lone moves net.none
  pub fled : AreFled men.board men.lone moves net.fled
  pub stale : AreStale men.board men.lone net.stale

-- the net of so many moves stands in the row of men for whom it is right
pub record IsKept (rows : List Others) (moves row : ℕ) (net : Net) : Type 0 where
  pub others : Others
  pub stand : slice_get rows row ≡ Some others
  pub right : IsNet (against_by others) moves net

-- each net that is kept does: the levels are lists by rows, one for each number of moves
abbrev pub AreKept : List Others → List (Vec (Option Net) Global) → Type 0
AreKept rows levels = (moves row : ℕ) (level : Vec (Option Net) Global) (net : Net) → slice_get levels moves ≡ Some level → slice_get level.items row ≡ Some (Some net) → IsKept rows moves row net

-- each net of the new level is the one that was put in that row, or stood in its own before
abbrev pub IsPut : List (Option Net) → List (Option Net) → ℕ → Net → Type 0
IsPut old new row net = (n : ℕ) (x : Net) → slice_get new n ≡ Some (Some x) → ((n ≡ row) × (net ≡ x)) ⊎ (slice_get old n ≡ Some (Some x))
