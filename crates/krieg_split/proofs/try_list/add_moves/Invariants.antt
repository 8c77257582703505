use Rattle.krieg_split.proofs.TryLists.{IsAdding}
use Rattle.krieg_split.proofs.try_list.add_moves.Given as goal

abbrev pub invariant-loop-mv : goal.invariant-loop-mv
invariant-loop-mv l = IsAdding l.initial.found.items l.moves l.found.items l.mv-index l.place
