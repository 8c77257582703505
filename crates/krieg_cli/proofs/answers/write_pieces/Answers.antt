use Rattle.std.proofs.Common.{ℕ, Vec, Global, subst, arith}
use Rattle.krieg_cli.proofs.Common.{AppendsPrefix}
use Rattle.krieg_cli.proofs.Pieces.{on_err, fails_within}
use Rattle.krieg_cli.proofs.answers.write_pieces.Goals as goal

-- the pieces before it, and a front part of the one that failed
pub returns-in_err-write_all-clause-part : goal.returns-in_err-write_all-clause-part
returns-in_err-write_all-clause-part g c =
    let part = subst (λ (piece : Vec ℕ Global). AppendsPrefix (g.O.Sink.got c.loop-piece.out) (g.O.Sink.got c.write_all.new.sink) piece.items) c.piece-item.is (rw c.deref.ensures.value at c.in_err-write_all.ensures.prefix) in
    on_err c.from_residual.result
    (fails_within _ _ _ (λ (p : Vec ℕ Global). p.items) c.args.pieces.now c.loop-piece.piece-index c.piece-item.result (omega (arith, c.loop-piece-test.true)) c.loop-piece.invariant.1 part)
