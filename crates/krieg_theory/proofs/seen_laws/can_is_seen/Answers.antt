use Rattle.krieg_theory.proofs.Seen.{can_is_seen}
use Rattle.krieg_theory.proofs.seen_laws.can_is_seen.Goals as goal

pub returns : goal.returns
returns g c = can_is_seen g.G.HiddenGame.game g.G.HiddenGame.lawful
