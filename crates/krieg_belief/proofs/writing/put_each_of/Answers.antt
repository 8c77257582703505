use Rattle.krieg_belief.proofs.Common.{state_of}
use Rattle.krieg_belief.proofs.GivenGames.{written_more}
use Rattle.krieg_belief.proofs.writing.put_each_of.Goals as goal

pub loop-i-preserved : goal.loop-i-preserved
loop-i-preserved c = written_more c.args.text.now c.loop-i.text c.put_game.new.text c.args.games.now c.loop-i.i (state_of c.in_ok-get.field-0) c.in_ok-get.ensures c.loop-i.invariant c.in_ok-put_game.ensures
