-- The theory's theorems on winning, for chess.
use Rattle.krieg_game.proofs.Common.{Side, Dialect, MoreMovesWin, MoreMovesMate, WorstIsThere, chess, outset}
use Rattle.krieg_theory.proofs.Theorems as theory
use Rattle.krieg_game.proofs.ChessLaws.{chess_is_game, outset_is_lawful}

pub more_moves_win : (d : Dialect) → MoreMovesWin (chess d)
more_moves_win d = theory.more_moves_win (chess d)

pub more_moves_mate : (d : Dialect) (who : Side) → MoreMovesMate (chess d) (outset d who)
more_moves_mate d who = theory.more_moves_mate (chess d) (chess_is_game d) (outset d who) (outset_is_lawful d who)

pub worst_is_there : (d : Dialect) (who : Side) → WorstIsThere (chess d) (outset d who)
worst_is_there d who = theory.worst_is_there (chess d) (chess_is_game d) (outset d who) (outset_is_lawful d who)
