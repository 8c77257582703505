use Rattle.std.proofs.Common.{[], ◌∷◌}
use Rattle.krieg_refutefile.proofs.Common.{numbered}
use Rattle.krieg_refutefile.proofs.InPieces.{added}
use Rattle.krieg_refutefile.proofs.writing.put_number_line.Goals as goal

pub returns : goal.returns
returns c = added c.put_back.result c.put_numbered-done.result c.args.text.now c.take_last.new.self c.put_back.new.self c.in_ok-last.last c.put_numbered-done.new.text (numbered c.args.name.now c.args.n ∷ []) c.in_ok-last.ensures c.put_numbered-done.ensures c.put_back.ensures
