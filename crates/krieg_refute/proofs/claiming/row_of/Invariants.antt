use Rattle.std.proofs.Common.{false}
use Rattle.krieg_refute.proofs.Common.{set_at, AddsSets}
use Rattle.krieg_search.proofs.Noted.{IsRowTo}
use Rattle.krieg_refute.proofs.claiming.row_of.Given as goal

abbrev pub invariant-loop-mv : goal.invariant-loop-mv
invariant-loop-mv l = record {
  sets : AddsSets l.initial.table l.table;
  row : IsRowTo l.way.d false l.table (set_at l.initial.table l.asked.set) l.asked.moves l.mv-items l.mv-index l.row.items;
}
