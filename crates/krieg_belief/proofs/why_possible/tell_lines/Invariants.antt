use Rattle.std.proofs.Common.{◌≡◌, ◌≤◌, ℕ, length, map, take}
use Rattle.krieg_belief.proofs.Common.{AreKept, tales_of, begun, tell_all, run}
use Rattle.krieg_belief.proofs.why_possible.tell_lines.Given as goal

abbrev pub invariant-loop-i : goal.invariant-loop-i
invariant-loop-i l = record {
  kept : AreKept l.setting.starts l.links.items l.tales.entries;
  tales : tales_of l.setting.starts l.links.items l.tales.entries ≡ tell_all l.setting.dialect l.setting.who (take l.i l.entries) (map begun l.setting.starts);
  within : (m : ℕ) → m ≤ l.i → length (run l.setting.dialect l.setting.who (take m l.entries) l.setting.starts) ≤ l.setting.limit;
}
