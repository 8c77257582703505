use Rattle.krieg_refutefile.proofs.Common.{head_lines}
use Rattle.krieg_refutefile.proofs.InPieces.{added}
use Rattle.krieg_refutefile.proofs.writing.begin.Goals as goal

pub returns : goal.returns
returns c = added c.put_back.result c.put_head-done.result c.args.text.now c.take_last.new.self c.put_back.new.self c.in_ok-last.last c.put_head-done.new.text (head_lines c.args.d c.args.side c.args.moves c.args.listed) c.in_ok-last.ensures c.put_head-done.ensures c.put_back.ensures
