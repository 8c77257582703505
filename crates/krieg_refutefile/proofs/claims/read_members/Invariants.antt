use Rattle.std.proofs.Common.{◌≡◌, ◌-◌, Some}
use Rattle.krieg_refutefile.proofs.Common.{repeated, member_at, set_at, last_in}
use Rattle.krieg_format.proofs.Repeats.{with_front}
use Rattle.krieg_refutefile.proofs.claims.read_members.Given as goal

-- the rest, read after the positions that are there, gives the whole
abbrev pub invariant-loop-i : goal.invariant-loop-i
invariant-loop-i l = record {
  read : with_front l.set.items (repeated (l.n - l.i) member_at (λ last x. Some x) (last_in l.set.items) l.from) ≡ set_at l.n l.initial.from;
}
