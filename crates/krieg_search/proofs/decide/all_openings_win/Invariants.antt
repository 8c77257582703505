use Rattle.std.proofs.Common.{◌≡◌, drop}
use Rattle.krieg_search.proofs.Common.{sets_in, IsAtWork}
use Rattle.krieg_search.proofs.Checking.{IsChecking}
use Rattle.krieg_search.proofs.decide.all_openings_win.Given as goal

abbrev pub invariant-loop-o : goal.invariant-loop-o
invariant-loop-o l = record {
  checking : IsChecking l.way.d l.way.cut l.initial.search.table l.search.table (sets_in l.initial.search.table l.openings) (sets_in l.initial.search.table (drop l.o-index l.openings)) l.moves l.initial.search.units l.search.units;
  ready : IsAtWork l.way l.search;
  most : l.search.notes.most ≡ l.initial.search.notes.most;
}
