use Rattle.std.proofs.Common.{◌≡◌, ◌-◌, None}
use Rattle.std.specs.Prelude.{slice_get}
use Rattle.krieg_fen.proofs.Common.{Passed, positions_at}
use Rattle.krieg_fen.proofs.Listing.{with_front}
use Rattle.krieg_fen.proofs.list.list_at.Given as goal

-- the rest, read after the positions that are there, gives the whole
abbrev pub invariant-loop-i : goal.invariant-loop-i
invariant-loop-i g l = record {
  read :
      with_front l.list.items (positions_at l.turn l.who (slice_get l.list.items 0) (l.n - l.i) (g.S.LineSource.place l.from))
      ≡ positions_at l.turn l.who None l.n (g.S.LineSource.place l.initial.from);
  rest : Passed (g.S.LineSource.place l.initial.from) (g.S.LineSource.place l.from);
}
