-- The umpire's game meets the laws of the theory, in every dialect and for either side.
use Rattle.krieg_game.proofs.Common.{Side, Dialect, IsGame, IsOutset, chess, outset}
use Rattle.krieg_pack.proofs.PositionSets.{position_order}
use Rattle.krieg_game.proofs.KeyLaws.{key_order, root_order}
use Rattle.krieg_game.proofs.MoveOrder.{legal_listed, moves_up, move_order}

pub chess_is_game : (d : Dialect) → IsGame (chess d)
chess_is_game d = record {
  listed = legal_listed;
  in_order = moves_up;
  position_order = position_order;
  move_order = move_order;
  key_order = key_order;
}

pub outset_is_lawful : (d : Dialect) (who : Side) → IsOutset (chess d) (outset d who)
outset_is_lawful d who = record { root_order = root_order }
