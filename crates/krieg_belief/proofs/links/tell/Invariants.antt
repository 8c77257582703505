use Rattle.std.proofs.Common.{[], ◌≤◌, length, take, flat_map}
use Rattle.krieg_belief.proofs.Common.{Adds, tales_of, tales_after}
use Rattle.krieg_belief.proofs.links.tell.Given as goal

abbrev pub invariant-loop-i : goal.invariant-loop-i
invariant-loop-i l = record {
  adds : Adds l.setting.starts l.fn.links.items l.links.items [] l.after.entries (flat_map (tales_after l.setting.dialect l.setting.who l.line) (take l.i (tales_of l.setting.starts l.fn.links.items l.tales.entries)));
  small : length l.after.entries ≤ l.setting.limit;
}
