use Rattle.krieg_theory.proofs.Seen.{escape_fails}
use Rattle.krieg_theory.proofs.seen_laws.escape_fails.Goals as goal

pub returns : goal.returns
returns g c = escape_fails g.G.HiddenGame.game g.G.HiddenGame.lawful
