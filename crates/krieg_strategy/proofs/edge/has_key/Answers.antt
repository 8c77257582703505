use Rattle.std.proofs.Common.{ap, ◌∙◌}
use Rattle.std.specs.Ordering.{is_eq}
use Rattle.krieg_game.proofs.KeyLaws.{key_is}
use Rattle.krieg_strategy.proofs.Common.{edge_of}
use Rattle.krieg_strategy.proofs.edge.has_key.Goals as goal

pub returns : goal.returns
returns c = key_is c.is_eq.result (edge_of c.args.e.now).0 (c.args.own.now, c.args.reply.now) (c.is_eq.ensures ∙ ap is_eq c.compare_key.ensures)
