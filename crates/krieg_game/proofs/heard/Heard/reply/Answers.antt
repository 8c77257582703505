use Rattle.std.proofs.Common.{sym, subst, ◌∙◌}
use Rattle.krieg_game.proofs.Common.{IsSaid}
use Rattle.krieg_game.proofs.PackedKeys.{stand}
use Rattle.krieg_game.proofs.heard.Heard.reply.Goals as goal

pub words_at-requires : goal.words_at-requires
words_at-requires c = let s = stand c.self.inside c.args.self.now c.self.invariant c.self.view_is in subst IsSaid (sym s.reply) s.said.1

pub returns : goal.returns
returns c = c.words_at.ensures ∙ (stand c.self.inside c.args.self.now c.self.invariant c.self.view_is).reply
