use Rattle.std.proofs.Common.{◌≡◌, ◌++◌, drop}
use Rattle.krieg_fen.proofs.Common.{row_text, rank_at}
use Rattle.krieg_fen.proofs.RankWriting.{Men}
use Rattle.krieg_fen.proofs.rank_text.rank_text.Given as goal

-- what is written, and the rest of the rank, with the men that stand there
abbrev pub invariant-loop-left : goal.invariant-loop-left
invariant-loop-left l = record {
  men : Men l.left l.file (rank_at l.bits l.rank);
  wrote : l.text ++ row_text 0 (drop l.file (rank_at l.bits l.rank)) ≡ row_text 0 (rank_at l.bits l.rank);
}

abbrev pub decreases-loop-left : goal.decreases-loop-left
decreases-loop-left l = l.left
