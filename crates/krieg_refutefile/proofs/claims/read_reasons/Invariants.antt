use Rattle.std.proofs.Common.{◌≡◌, ◌-◌, Some}
use Rattle.krieg_refutefile.proofs.Common.{repeated, reason_at, reasons_at, last_move}
use Rattle.krieg_format.proofs.Repeats.{with_front}
use Rattle.krieg_refutefile.proofs.claims.read_reasons.Given as goal

-- the rest, read after the reasons that are there, gives the whole
abbrev pub invariant-loop-i : goal.invariant-loop-i
invariant-loop-i l = record {
  read : with_front l.reasons.items (repeated (l.n - l.i) (reason_at l.d l.own) (λ last r. Some r.mv) (last_move l.reasons.items) l.from) ≡ reasons_at l.d l.own l.n l.initial.from;
}
