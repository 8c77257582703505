use Rattle.std.proofs.Common.{rules, ◌∷◌, [], ◌++◌}
use Rattle.std.specs.Prelude.{codes}
use Rattle.krieg_strategyfile.proofs.Common.{HasLines, alone, listing_lines, state_of, numbered, heading_lines, nodes_lines, roots_lines}
use Rattle.krieg_strategyfile.proofs.WrittenNodes.{puts_then}
use Rattle.krieg_strategyfile.proofs.writing.put_strategy.Goals as goal

pub returns : goal.returns
returns c =
    let s = state_of c.args.s.now in
    let head = heading_lines s.dialect in
    let list = listing_lines s.side s.list in
    let worst = numbered (codes "worst ") s.worst ∷ [] in
    let nodes = nodes_lines s.dialect s.nodes in
    let roots = roots_lines s.dialect s.roots in
    let end = alone (codes "end") ∷ [] in
    let r = c.line.result in
    let new = c.line.new.self in
    let a : HasLines c.args.text.now c.put_heading.new.text head = c.in_ok-put_heading.ensures in
    let b : HasLines c.put_heading.new.text c.put_listing.new.text list = search rules in
    let d : HasLines c.put_listing.new.text c.put_numbered.new.text worst = search rules in
    let e : HasLines c.put_numbered.new.text c.put_nodes.new.text nodes = c.in_ok-put_nodes.ensures in
    let f : HasLines c.put_nodes.new.text c.put_roots.new.text roots = search rules in
    puts_then r c.args.text.now c.put_heading.new.text new head (list ++ (worst ++ (nodes ++ (roots ++ end)))) a
    (puts_then r c.put_heading.new.text c.put_listing.new.text new list (worst ++ (nodes ++ (roots ++ end))) b
    (puts_then r c.put_listing.new.text c.put_numbered.new.text new worst (nodes ++ (roots ++ end)) d
    (puts_then r c.put_numbered.new.text c.put_nodes.new.text new nodes (roots ++ end) e
    (puts_then r c.put_nodes.new.text c.put_roots.new.text new roots end f c.line.ensures))))
