use Rattle.std.proofs.Common.{◌≤◌, ℕ, List, Err, ap, subst, length, take, arith}
use Rattle.krieg_belief.proofs.Common.{Pos, run}
use Rattle.krieg_belief.proofs.Runs.{run_next, up_to_more, late_stop}
use Rattle.krieg_belief.proofs.beliefs.go_through.Goals as goal

pub returns-in-Err-clause-stop : goal.returns-in-Err-clause-stop
returns-in-Err-clause-stop c =
    late_stop c.args.hearing.dialect c.args.hearing.side c.args.lines.now c.loop-i.i c.index-lines-i.result c.args.start c.loop-i.b c.args.limit c.args.behind c.in-Err.stop c.stopped.result (omega arith) c.index-lines-i.is
    c.loop-i.invariant.value c.loop-i.invariant.within (λ e. c.in-Err.ensures.too_many (ap Err e)) c.stopped.ensures

pub loop-i-preserved : goal.loop-i-preserved
loop-i-preserved c =
    let next = run_next c.args.hearing.dialect c.args.hearing.side c.args.lines.now c.loop-i.i c.index-lines-i.result c.args.start c.loop-i.b c.in-Ok.next (omega arith) c.index-lines-i.is c.loop-i.invariant.value c.in-Ok.ensures.value in
    record {
      value = next;
      within = up_to_more (λ (m : ℕ). length (run c.args.hearing.dialect c.args.hearing.side (take m c.args.lines.now) c.args.start) ≤ c.args.limit) c.loop-i.i c.loop-i.invariant.within
          (subst (λ (ps : List Pos). length ps ≤ c.args.limit) next c.in-Ok.ensures.small);
    }
