use Rattle.std.proofs.Common.{drop, map}
use Rattle.krieg_solve.proofs.Common.{root_of, MOST_ON_PATH, opening_in}
use Rattle.krieg_solve.proofs.Rooting.{IsRooting}
use Rattle.krieg_solve.proofs.roots.build_roots.Given as goal

abbrev pub invariant-loop-o : goal.invariant-loop-o
invariant-loop-o l = IsRooting l.d l.moves l.initial.builder.table l.builder.table (map root_of l.roots.items) l.worst (map (opening_in l.initial.builder.table) (drop l.o-index l.openings)) (map (opening_in l.initial.builder.table) l.openings) l.initial.builder.left l.builder.left MOST_ON_PATH
