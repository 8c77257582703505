use Rattle.std.proofs.Common.{◌≡◌, ◌-◌, Some}
use Rattle.std.specs.Prelude.{unwrap_or}
use Rattle.krieg_refutefile.proofs.Common.{repeated, listed_at, list_at}
use Rattle.krieg_format.proofs.Repeats.{with_front}
use Rattle.krieg_refutefile.proofs.reading.read_list.Given as goal

-- the rest, read after the positions that are there, gives the whole
abbrev pub invariant-loop-i : goal.invariant-loop-i
invariant-loop-i l = record {
  read : with_front l.list.items (repeated (l.n - l.i) (listed_at l.who) (λ first x. Some (unwrap_or first x)) l.first l.from) ≡ list_at l.who l.n l.initial.from;
}
