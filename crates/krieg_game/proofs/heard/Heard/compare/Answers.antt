use Rattle.std.proofs.Common.{◌∙◌}
use Rattle.krieg_game.proofs.PackedKeys.{stand, keys_compare}
use Rattle.krieg_game.proofs.heard.Heard.compare.Goals as goal

pub returns : goal.returns
returns c =
    c.cmp.ensures
    ∙ keys_compare c.self.inside c.other.inside c.args.self.now c.args.other.now (stand c.self.inside c.args.self.now c.self.invariant c.self.view_is)
    (stand c.other.inside c.args.other.now c.other.invariant c.other.view_is)
