use Rattle.std.proofs.Common.{◌∙◌}
use Rattle.krieg_fen.proofs.PositionSpellings.{position_reads}
use Rattle.krieg_fen.proofs.fen.read_position.Goals as goal

pub returns-clause-only : goal.returns-clause-only
returns-clause-only c p spelled = c.position_of.ensures ∙ position_reads c.args.text.now p spelled
