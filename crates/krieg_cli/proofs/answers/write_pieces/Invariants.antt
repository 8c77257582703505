use Rattle.std.proofs.Common.{◌≡◌, take}
use Rattle.std.specs.List.{flat_map}
use Rattle.std.specs.Io.KnownBytes.{Appends}
use Rattle.krieg_cli.proofs.answers.write_pieces.Given as goal

-- the pieces so far were written, without a fault
abbrev pub invariant-loop-piece : goal.invariant-loop-piece
invariant-loop-piece g l =
    (g.O.Sink.faults l.out ≡ g.O.Sink.faults l.initial.out)
    × Appends (g.O.Sink.got l.initial.out) (g.O.Sink.got l.out) (flat_map (λ p. p.items) (take l.piece-index l.pieces))
