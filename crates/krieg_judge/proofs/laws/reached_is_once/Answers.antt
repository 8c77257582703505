use Rattle.krieg_judge.proofs.Common.{chess, outset}
use Rattle.krieg_game.proofs.ChessLaws.{chess_is_game}
use Rattle.krieg_judge.proofs.Reaching.{reached_is_once}
use Rattle.krieg_judge.proofs.laws.reached_is_once.Goals as goal

pub returns : goal.returns
returns c d who = reached_is_once (chess d) (chess_is_game d) (outset d who)
