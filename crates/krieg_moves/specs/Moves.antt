-- The legal moves in their order, and the ends of a game (FIDE Laws, articles 5.1.1 and 5.2.1).
use Rattle.std.specs.Prelude.{ℕ, Bool, true, false, List, [], ◌∷◌, filter, not, ◌&&◌, ◌==◌, if◌then◌else◌}
use Rattle.krieg_board.specs.Squares.{gathered, rank_of, last_rank}
use Rattle.krieg_board.specs.Board.{man_at, is_man}
use Rattle.krieg_board.specs.Pos.{Pos}
use Rattle.krieg_board.specs.Sets.{has}
use Rattle.krieg_board.specs.Attacks.{is_king_attacked}
use Rattle.krieg_board.specs.declared.men.Kind.TheVariants.{Pawn}
use Rattle.krieg_board.specs.declared.men.Promo.TheVariants as promo
use Rattle.krieg_board.specs.declared.men.Move.{Move}
use Rattle.std.specs.List.{list_any}
use Rattle.krieg_moves.specs.Legal.{is_legal}

-- the move between two squares that names no promotion
abbrev pub plain_move : ℕ → ℕ → Move
plain_move f t = record { from = f; to = t; promo = promo.Plain }

-- the four promotions between two squares, in order
abbrev pub promotions : ℕ → ℕ → List Move
promotions f t =
    record { from = f; to = t; promo = promo.Queen }
    ∷ record { from = f; to = t; promo = promo.Rook }
    ∷ record { from = f; to = t; promo = promo.Bishop }
    ∷ record { from = f; to = t; promo = promo.Knight } ∷ []

-- the five moves between two squares, in order
abbrev pub moves_between : ℕ → ℕ → List Move
moves_between f t = plain_move f t ∷ promotions f t

-- a pawn of the side to move reaches the last rank
abbrev pub promotes : Pos → ℕ → ℕ → Bool
promotes p f t = is_man p.side Pawn (man_at p.board f) && rank_of t == last_rank p.side

-- the man on f may go to t: one of the five moves is legal, the plain one or that with one of the four promotions
unfoldable pub can_go : Pos → ℕ → ℕ → Bool
can_go p f t = list_any (is_legal p) (moves_between f t)

-- the moves from a square, by to-square and then by promotion
unfoldable pub moves_from : ℕ → List Move
moves_from f = gathered (moves_between f) 64

-- all 64 times 64 times 5 moves: by from-square, then by to-square, then by promotion
unfoldable pub all_moves : List Move
all_moves = gathered moves_from 64

-- the legal moves of the men on the squares of a set, in order
unfoldable pub moves_of : Pos → ℕ → List Move
moves_of p men = gathered (λ f. if has men f then filter (is_legal p) (moves_from f) else []) 64

-- the legal moves, in order
unfoldable pub moves : Pos → List Move
moves p = filter (is_legal p) all_moves

-- the side to move is in check
unfoldable pub in_check : Pos → Bool
in_check p = is_king_attacked p.board p.side

-- nothing stands in the list
abbrev pub is_nil : {X : Type 0} → List X → Bool
is_nil [] = true
is_nil (x ∷ xs) = false

-- the side to move has no legal move
unfoldable pub is_ended : Pos → Bool
is_ended p = is_nil (moves p)

-- the side to move is in check and has no legal move
unfoldable pub is_mate : Pos → Bool
is_mate p = in_check p && is_ended p

-- the side to move is not in check and has no legal move
unfoldable pub is_stalemate : Pos → Bool
is_stalemate p = not (in_check p) && is_ended p
