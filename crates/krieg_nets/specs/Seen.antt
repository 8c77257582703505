-- Mate by a player who sees the position, in the words of chess.
use Rattle.std.specs.Prelude.{ℕ, zero, suc, Bool, false, not, ◌&&◌}
use Rattle.std.specs.List.{list_all, list_any}
use Rattle.krieg_board.specs.Pos.{Pos}
use Rattle.krieg_board.specs.declared.men.Move.{Move}
use Rattle.krieg_moves.specs.Legal.{is_legal}
use Rattle.krieg_moves.specs.After.{after}
use Rattle.krieg_moves.specs.Moves.{moves, is_stalemate}

-- the opponent, who is to move, is mated, or he is not stalemated and each of his moves leaves a position that passes
abbrev pub is_met : (Pos → Bool) → Pos → Bool
is_met less q = not (is_stalemate q) && list_all (λ r. less (after q r)) (moves q)

-- some move mates within j own moves, whatever the opponent does
abbrev pub mates_within : ℕ → Pos → Bool
mates_within zero p = false
mates_within (suc j) p = list_any (λ t. is_met (mates_within j) (after p t)) (moves p)

-- some move leaves the other side no mate within j
abbrev pub leaves_none : ℕ → Pos → Bool
leaves_none j q = list_any (λ r. not (mates_within j (after q r))) (moves q)

-- some reply to the legal move leaves no mate within j
abbrev pub flees : ℕ → Move → Pos → Bool
flees j t p = is_legal p t && leaves_none j (after p t)
