use Rattle.krieg_game.proofs.ChessLaws.{chess_is_game}
use Rattle.krieg_game.proofs.laws.chess_is_game.Goals as goal

pub returns : goal.returns
returns c = chess_is_game
