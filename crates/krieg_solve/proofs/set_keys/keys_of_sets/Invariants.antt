use Rattle.std.proofs.Common.{drop}
use Rattle.krieg_solve.proofs.Common.{IsAtWork}
use Rattle.krieg_solve.proofs.KeySets.{AreKeying}
use Rattle.krieg_solve.proofs.set_keys.keys_of_sets.Given as goal

abbrev pub invariant-loop-number : goal.invariant-loop-number
invariant-loop-number l = record {
  keying : AreKeying l.way.d l.way.cut l.moves l.initial.search.table l.search.table l.sets (drop l.number-index l.sets) l.found.items l.initial.search.units l.search.units;
  ready : IsAtWork l.way l.search;
}
