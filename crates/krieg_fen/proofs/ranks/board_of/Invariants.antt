use Rattle.std.proofs.Common.{drop}
use Rattle.krieg_fen.proofs.Common.{ranks_of, pieces}
use Rattle.krieg_fen.proofs.RankReading.{Reads}
use Rattle.krieg_fen.proofs.ranks.board_of.Given as goal

abbrev pub invariant-loop-b : goal.invariant-loop-b
invariant-loop-b l = Reads l.bits l.rank l.file (drop l.b-index l.field) (ranks_of 8 (pieces 47 l.field))
