use Rattle.krieg_accounts.proofs.Searches.{floor_is_taken}
use Rattle.krieg_accounts.proofs.laws.floor_is_taken.Goals as goal

pub returns : goal.returns
returns g c = floor_is_taken g.G.HiddenGame.game g.G.HiddenGame.lawful g.G.HiddenGame.outset g.G.HiddenGame.outset_lawful
