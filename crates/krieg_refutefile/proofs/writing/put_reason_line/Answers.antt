use Rattle.std.proofs.Common.{[], ◌∷◌}
use Rattle.krieg_refutefile.proofs.Common.{reason_line}
use Rattle.krieg_refutefile.proofs.InPieces.{added}
use Rattle.krieg_refutefile.proofs.writing.put_reason_line.Goals as goal

pub returns : goal.returns
returns c = added c.put_back.result c.put_reason-done.result c.args.text.now c.take_last.new.self c.put_back.new.self c.in_ok-last.last c.put_reason-done.new.text (reason_line c.args.d c.args.reason.now ∷ []) c.in_ok-last.ensures c.put_reason-done.ensures c.put_back.ensures
