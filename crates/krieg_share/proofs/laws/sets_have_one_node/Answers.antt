use Rattle.krieg_game.specs.Chess.{chess}
use Rattle.krieg_game.specs.Outset.{outset}
use Rattle.krieg_game.proofs.ChessLaws.{chess_is_game}
use Rattle.krieg_share.specs.Sharing.{nothing_shared}
use Rattle.krieg_share.proofs.Sharing.{none_shared, roots_shared}
use Rattle.krieg_share.proofs.laws.sets_have_one_node.Goals as goal

pub returns : goal.returns
returns c d who S plan k = (roots_shared (chess d) (chess_is_game d) (outset d who) plan S (nothing_shared (chess d)) k.roots (none_shared (chess d) (chess_is_game d))).0
