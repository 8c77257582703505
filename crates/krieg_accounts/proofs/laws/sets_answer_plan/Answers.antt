use Rattle.krieg_accounts.proofs.Searches.{sets_answer_plan}
use Rattle.krieg_accounts.proofs.laws.sets_answer_plan.Goals as goal

pub returns : goal.returns
returns g c = sets_answer_plan g.G.HiddenGame.game g.G.HiddenGame.lawful g.G.HiddenGame.outset g.G.HiddenGame.outset_lawful
