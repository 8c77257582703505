use Rattle.std.proofs.Common.{drop}
use Rattle.krieg_solve.proofs.Common.{set_at, IsAtWork}
use Rattle.krieg_solve.proofs.Keying.{IsKeying}
use Rattle.krieg_solve.proofs.set_keys.keys_of_set.Given as goal

abbrev pub invariant-loop-mv : goal.invariant-loop-mv
invariant-loop-mv l = record {
  keying : IsKeying l.way.d l.way.cut (set_at l.initial.search.table l.set) l.win.moves l.win.mv l.initial.search.table l.search.table l.mv-items (drop l.mv-index l.mv-items) l.keys.items l.initial.search.units l.search.units;
  ready : IsAtWork l.way l.search;
}
