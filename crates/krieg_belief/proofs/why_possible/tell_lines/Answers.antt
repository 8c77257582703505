use Rattle.std.proofs.Common.{rules, ◌+◌, map}
use Rattle.std.specs.Prelude.{IfErr}
use Rattle.krieg_belief.proofs.Common.{tales_of, begun, tell, IsOver}
use Rattle.krieg_belief.proofs.Lines.{lines_more, layer_late, layer_within}
use Rattle.krieg_belief.proofs.Prefixes.{if_err}
use Rattle.krieg_belief.proofs.why_possible.tell_lines.Goals as goal

pub returns-in_err-tales-clause-stop : goal.returns-in_err-tales-clause-stop
returns-in_err-tales-clause-stop c =
    let s = c.args.setting.now in
    let xs = tales_of s.starts c.loop-i.links.items c.loop-i.tales.entries in
    let over : IfErr c.from_residual.result (IsOver s.limit (c.args.behind + c.loop-i.i + 1) (tell s.dialect s.who c.index-entries-i.result xs)) = search rules in
    if_err _ _ c.from_residual.result (λ r. layer_late s.dialect s.who c.args.entries.now c.loop-i.i c.index-entries-i.result s.starts xs c.begin.ensures.ascending (search rules) c.index-entries-i.is c.loop-i.invariant.tales s.limit c.args.behind r c.loop-i.invariant.within) over

pub loop-i-preserved : goal.loop-i-preserved
loop-i-preserved c =
    let s = c.args.setting.now in
    let xs = tales_of s.starts c.loop-i.links.items c.loop-i.tales.entries in
    record {
      kept = search rules;
      tales = lines_more s.dialect s.who c.args.entries.now c.loop-i.i c.index-entries-i.result (map begun s.starts) xs (tales_of s.starts c.tell.new.links.items c.in_ok-tales.tales.entries) (search rules) c.index-entries-i.is c.loop-i.invariant.tales c.in_ok-tales.ensures.tales;
      within = layer_within s.dialect s.who c.args.entries.now c.loop-i.i c.index-entries-i.result s.starts xs c.begin.ensures.ascending (search rules) c.index-entries-i.is c.loop-i.invariant.tales s.limit c.in_ok-tales.tales.entries c.tell.new.links.items s.starts c.in_ok-tales.ensures.tales c.in_ok-tales.ensures.small c.loop-i.invariant.within;
    }
