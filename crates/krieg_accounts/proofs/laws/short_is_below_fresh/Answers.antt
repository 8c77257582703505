use Rattle.krieg_accounts.proofs.Searches.{short_is_below_fresh}
use Rattle.krieg_accounts.proofs.laws.short_is_below_fresh.Goals as goal

pub returns : goal.returns
returns g c = short_is_below_fresh g.G.HiddenGame.game g.G.HiddenGame.lawful g.G.HiddenGame.outset g.G.HiddenGame.outset_lawful
