use Rattle.krieg_play.proofs.Tellings.{hears_more, breaks_later, fails_front, lines_next, lines_split}
use Rattle.krieg_play.proofs.telling.tell_log.Goals as goal

pub returns-in-Err : goal.returns-in-Err
returns-in-Err g c =
    breaks_later _ _ _ _ _ _ _ c.loop-judged.invariant (lines_split c.args.who c.args.log.now c.loop-judged.judged-index c.judged-item.result c.loop-judged-test.true c.judged-item.is)
    (fails_front _ _ _ _ _ c.in-Err.ensures)

pub loop-judged-preserved : goal.loop-judged-preserved
loop-judged-preserved g c =
    rw (lines_next c.args.who c.args.log.now c.loop-judged.judged-index c.judged-item.result c.loop-judged-test.true c.judged-item.is)
    (hears_more _ _ _ _ _ c.loop-judged.invariant c.in-Ok.ensures)
