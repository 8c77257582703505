use Rattle.krieg_game.specs.Chess.{chess}
use Rattle.krieg_game.specs.Outset.{outset}
use Rattle.krieg_game.proofs.ChessLaws.{chess_is_game}
use Rattle.krieg_share.proofs.Sharing.{shared_unfolds}
use Rattle.krieg_share.proofs.laws.shared_unfolds.Goals as goal

pub returns : goal.returns
returns c d who S plan k = shared_unfolds (chess d) (chess_is_game d) (outset d who) S plan k.roots
