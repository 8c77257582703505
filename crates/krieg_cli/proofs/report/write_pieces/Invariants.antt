use Rattle.std.proofs.Common.{◌≡◌, take}
use Rattle.std.specs.List.{flat_map}
use Rattle.std.specs.Io.KnownBytes.{Appends}
use Rattle.krieg_cli.proofs.report.write_pieces.Given as goal

-- the pieces so far were written, without a fault
abbrev pub invariant-loop-piece : goal.invariant-loop-piece
invariant-loop-piece g l =
    (g.E.Sink.faults l.err ≡ g.E.Sink.faults l.initial.err)
    × Appends (g.E.Sink.got l.initial.err) (g.E.Sink.got l.err) (flat_map (λ p. p.now) (take l.piece-index l.pieces))
