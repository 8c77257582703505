use Rattle.std.proofs.Common.{ap, ◌∙◌}
use Rattle.std.specs.Ordering.{is_eq}
use Rattle.krieg_game.proofs.KeyLaws.{root_is}
use Rattle.krieg_strategy.proofs.Common.{root_of}
use Rattle.krieg_strategy.proofs.root.has_root_key.Goals as goal

pub returns : goal.returns
returns c = root_is c.is_eq.result (root_of c.args.r.now).0 (c.args.opens.now, c.args.heard.now) (c.is_eq.ensures ∙ ap is_eq c.compare_root.ensures)
