use Rattle.krieg_share.proofs.Placing.{found_number, found_none}
use Rattle.krieg_share.proofs.sharer.Sharer.number_at.Goals as goal

pub returns-in-Some : goal.returns-in-Some
returns-in-Some c d = found_number d c.args.self.now.table c.know_once.ensures.sets c.args.set c.requires.within c.args.self.now.placed.keys c.requires.in_table c.in-Some.number c.in-Some.ensures.index c.in-Some.ensures.found

pub returns-in-None : goal.returns-in-None
returns-in-None c d = found_none d c.args.self.now.table c.know_once.ensures.sets c.args.set c.requires.within c.args.self.now.placed.keys c.requires.in_table c.in-None.ensures.found
