use Rattle.std.proofs.Common.{◌≡◌, ◌≤◌, ℕ, length, take}
use Rattle.krieg_belief.proofs.Common.{run}
use Rattle.krieg_belief.proofs.beliefs.go_through.Given as goal

abbrev pub invariant-loop-i : goal.invariant-loop-i
invariant-loop-i l = record {
  value : l.b ≡ run l.hearing.dialect l.hearing.side (take l.i l.lines) l.fn.start;
  within : (m : ℕ) → m ≤ l.i → length (run l.hearing.dialect l.hearing.side (take m l.lines) l.fn.start) ≤ l.limit;
}
