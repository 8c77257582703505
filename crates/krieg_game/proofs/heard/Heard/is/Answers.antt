use Rattle.krieg_game.proofs.PackedKeys.{stand, has_same_key}
use Rattle.krieg_game.proofs.heard.Heard.is.Goals as goal

pub returns : goal.returns
returns c =
    has_same_key c.self.inside c.other.inside c.args.self.now c.args.other.now (stand c.self.inside c.args.self.now c.self.invariant c.self.view_is)
    (stand c.other.inside c.args.other.now c.other.invariant c.other.view_is)
