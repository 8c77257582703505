use Rattle.std.proofs.Common.{[], ◌∷◌}
use Rattle.std.specs.Prelude.{codes}
use Rattle.krieg_refutefile.proofs.Common.{alone}
use Rattle.krieg_refutefile.proofs.InPieces.{added}
use Rattle.krieg_refutefile.proofs.writing.end.Goals as goal

pub returns : goal.returns
returns c = added c.put_back.result c.line-done.result c.args.text.now c.take_last.new.self c.put_back.new.self c.in_ok-last.last c.line-done.new.self (alone (codes "end") ∷ []) c.in_ok-last.ensures c.line-done.ensures c.put_back.ensures
