use Rattle.krieg_game.proofs.ChessLaws.{outset_is_lawful}
use Rattle.krieg_game.proofs.laws.outset_is_lawful.Goals as goal

pub returns : goal.returns
returns c = outset_is_lawful
