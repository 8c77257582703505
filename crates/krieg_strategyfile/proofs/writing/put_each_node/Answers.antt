use Rattle.std.proofs.Common.{List, sym, subst, take}
use Rattle.std.specs.List.{flat_map}
use Rattle.krieg_strategyfile.proofs.Common.{HasLines, Pieces, node_of, node_lines}
use Rattle.krieg_strategyfile.proofs.WrittenNodes.{has_then, one_more}
use Rattle.krieg_strategyfile.proofs.writing.put_each_node.Goals as goal

pub loop-i-preserved : goal.loop-i-preserved
loop-i-preserved c =
    let lines = node_lines c.args.d in
    let n = node_of c.get.result in
    subst (λ (ls : List Pieces). HasLines c.args.text.now c.put_node.new.text ls) (sym (one_more lines c.args.nodes.now c.loop-i.i n c.get.ensures.value))
    (has_then c.args.text.now c.loop-i.text c.put_node.new.text (flat_map lines (take c.loop-i.i c.args.nodes.now)) (lines n) c.loop-i.invariant c.in_ok-put_node.ensures)
