-- The one written form of a position: four fields, each run of empty squares as one digit.
use Rattle.std.specs.Prelude.{ℕ, zero, suc, ◌+◌, ◌*◌, List, [], ◌∷◌, ◌++◌, Option, Some, None, take, drop, length, slice_index_or, ◌≡◌, ◌<◌, if◌then◌else◌}
use Rattle.krieg_board.specs.Board.{Board}
use Rattle.krieg_board.specs.Pos.{Pos}
use Rattle.krieg_board.specs.declared.men.Side.{Side}
use Rattle.krieg_board.specs.declared.men.Side.TheVariants.{White, Black}
use Rattle.krieg_board.specs.declared.men.Rights.{Rights}
use Rattle.krieg_fen.specs.MoveText.{square_text}
use Rattle.krieg_fen.specs.Letters.{letter}
use Rattle.krieg_fen.specs.Ranks.{Row}

-- a run of empty squares: its digit, and nothing where there is none
abbrev pub run : ℕ → List ℕ
run zero = []
run (suc n) = (49 + n) ∷ []

-- the squares after a run of n empty ones
abbrev pub row_text : ℕ → Row → List ℕ
row_text n [] = run n
row_text n (None ∷ row) = row_text (suc n) row
row_text n (Some man ∷ row) = run n ++ (letter man.side man.kind ∷ row_text 0 row)

-- the text of a rank, from its first file on
abbrev pub rank_text : Row → List ℕ
rank_text row = row_text 0 row

-- the squares of a rank, where 0 is the first rank
abbrev pub rank_at : Board → ℕ → Row
rank_at board rank = take 8 (drop (8 * rank) board)

-- the n lowest ranks, the highest of them first, joined by `/`
abbrev pub ranks_text : ℕ → Board → List ℕ
ranks_text zero board = []
ranks_text (suc zero) board = rank_text (rank_at board 0)
ranks_text (suc (suc n)) board = rank_text (rank_at board (suc n)) ++ (47 ∷ ranks_text (suc n) board)

-- these are the texts of the eight ranks
pub record AreRanks (texts : List (List ℕ)) (board : Board) : Type 0 where
  pub size : length board ≡ 64
  pub each : (k : ℕ) → k < 8 → slice_index_or texts k [] ≡ rank_text (rank_at board k)

-- the text of a board: its ranks from the eighth on
unfoldable pub board_text : Board → List ℕ
board_text board = ranks_text 8 board

-- the letter of the side to move
abbrev pub side_text : Side → List ℕ
side_text White = 119 ∷ []
side_text Black = 98 ∷ []

-- the letters of the rights that are held: K, Q, k, q
abbrev pub held_text : Rights → List ℕ
held_text r =
    (if r.white_short then 75 ∷ [] else [])
    ++ ((if r.white_long then 81 ∷ [] else [])
    ++ ((if r.black_short then 107 ∷ [] else [])
    ++ (if r.black_long then 113 ∷ [] else [])))

-- a dash where nothing is to be said
abbrev pub or_dash : List ℕ → List ℕ
or_dash [] = 45 ∷ []
or_dash (b ∷ bs) = b ∷ bs

-- the letters of the rights, or a dash
unfoldable pub rights_text : Rights → List ℕ
rights_text r = or_dash (held_text r)

-- the square of the mark, or a dash
abbrev pub mark_text : Option ℕ → List ℕ
mark_text None = 45 ∷ []
mark_text (Some s) = square_text s

-- the fields after the first, each after a space, which is byte 32
unfoldable pub state_text : Side → Rights → Option ℕ → List ℕ
state_text side rights mark = 32 ∷ (side_text side ++ (32 ∷ (rights_text rights ++ (32 ∷ mark_text mark))))

-- the four fields
unfoldable pub position_text : Pos → List ℕ
position_text p = board_text p.board ++ state_text p.side p.rights p.mark
