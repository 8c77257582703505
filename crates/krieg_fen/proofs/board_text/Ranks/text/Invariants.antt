use Rattle.std.proofs.Common.{◌≡◌, ◌≤◌, ◌-◌, ◌*◌, ◌++◌, length}
use Rattle.krieg_fen.proofs.Common.{ranks_text, board_text}
use Rattle.krieg_fen.proofs.board_text.Ranks.text.Given as goal

abbrev pub invariant-loop-rank : goal.invariant-loop-rank
invariant-loop-rank l = record {
  short : length l.text ≤ 9 * l.rank;
  wrote : l.text ++ ranks_text (8 - l.rank) l.self-inside.board ≡ board_text l.self-inside.board;
}
