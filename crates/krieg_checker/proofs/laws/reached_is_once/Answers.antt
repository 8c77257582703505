use Rattle.krieg_checker.proofs.Common.{chess, outset}
use Rattle.krieg_game.proofs.ChessLaws.{chess_is_game, outset_is_lawful}
use Rattle.krieg_checker.proofs.Once.{reached_is_once}
use Rattle.krieg_checker.proofs.laws.reached_is_once.Goals as goal

pub returns : goal.returns
returns c d who = reached_is_once (chess d) (outset d who) (chess_is_game d) (outset_is_lawful d who)
