use Rattle.std.proofs.Common.{arith}
use Rattle.krieg_cli.proofs.Pieces.{on_err, fails_within}
use Rattle.krieg_cli.proofs.report.write_pieces.Goals as goal

-- the pieces before it, and a front part of the one that failed
pub returns-in_err-write_all-clause-part : goal.returns-in_err-write_all-clause-part
returns-in_err-write_all-clause-part g c =
    on_err c.from_residual.result
    (fails_within _ _ _ (λ p. p.now) c.args.pieces.now c.loop-piece.piece-index _ (omega (arith, c.loop-piece-test.true)) c.loop-piece.invariant.1 c.in_err-write_all.ensures.prefix)
