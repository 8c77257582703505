use Rattle.std.proofs.Common.{rules, ◌≡◌, List, ◌∷◌, [], ◌++◌, Ok, Err, length, arith, ap, ◌∙◌, subst, sym, ◌-◌, ◌+◌}
use Rattle.std.proofs.lemmas.List.{length-map}
use Rattle.krieg_format.proofs.Repeats.{with_front, item_ok, item_gives, items_end}
use Rattle.krieg_strategyfile.proofs.Common.{GivesOn, Move, Key, Node, Counts, repeated, with_node, node_at, nodes_at, counts_of, node_with, edge_of, Play}
use Rattle.krieg_strategyfile.proofs.Loops.{one_counted, node_is, nodes_are}
use Rattle.krieg_strategyfile.proofs.nodes.read_nodes.Goals as goal

pub returns-in-Err : goal.returns-in-Err
returns-in-Err c =
    let s = counts_of c.loop-i.nodes in
    let view = λ (p : Play). node_with p c.read_node.new.edges.items in
    let met : GivesOn {X = Play} view (Err c.in-Err.fault) c.read_node.new.from (node_at c.args.d (record { nodes = c.loop-i.i; edges = c.loop-i.before }) c.loop-i.from) = c.in-Err.ensures in
    let given = subst (λ (t : Counts). GivesOn {X = Play} view (Err c.in-Err.fault) c.read_node.new.from (node_at c.args.d t c.loop-i.from)) (sym c.loop-i.invariant.counted) met in
    record {
      value = item_gives (node_at c.args.d) with_node {X = Play} {Y = List (Node Move Key)} view (λ ns. ns) c.loop-i.nodes c.args.n c.loop-i.i s c.loop-i.from c.read_node.new.from c.in-Err.fault _ (omega arith) given c.loop-i.invariant.read;
      formed = tt;
    }

pub add_node-requires-clause-few : goal.add_node-requires-clause-few
add_node-requires-clause-few c =
    let read : node_at c.args.d (record { nodes = c.loop-i.i; edges = c.loop-i.before }) c.loop-i.from ≡ Ok (node_with c.in-Ok.play c.deref.result.now, c.read_node.new.from) = search rules in
    (node_is c.args.d (counts_of c.loop-i.nodes) c.loop-i.from c.read_node.new.from (node_with c.in-Ok.play c.deref.result.now) (ap (λ (s : Counts). node_at c.args.d s c.loop-i.from) c.loop-i.invariant.counted ∙ read)).edges

pub add_node-requires-clause-below : goal.add_node-requires-clause-below
add_node-requires-clause-below c =
    let read : node_at c.args.d (record { nodes = c.loop-i.i; edges = c.loop-i.before }) c.loop-i.from ≡ Ok (node_with c.in-Ok.play c.deref.result.now, c.read_node.new.from) = search rules in
    (node_is c.args.d (counts_of c.loop-i.nodes) c.loop-i.from c.read_node.new.from (node_with c.in-Ok.play c.deref.result.now) (ap (λ (s : Counts). node_at c.args.d s c.loop-i.from) c.loop-i.invariant.counted ∙ read)).below

pub add_node-requires-clause-order : goal.add_node-requires-clause-order
add_node-requires-clause-order c =
    let read : node_at c.args.d (record { nodes = c.loop-i.i; edges = c.loop-i.before }) c.loop-i.from ≡ Ok (node_with c.in-Ok.play c.deref.result.now, c.read_node.new.from) = search rules in
    (node_is c.args.d (counts_of c.loop-i.nodes) c.loop-i.from c.read_node.new.from (node_with c.in-Ok.play c.deref.result.now) (ap (λ (s : Counts). node_at c.args.d s c.loop-i.from) c.loop-i.invariant.counted ∙ read)).order

pub loop-i-preserved : goal.loop-i-preserved
loop-i-preserved c =
    let s = counts_of c.loop-i.nodes in
    let n = node_with c.in-Ok.play c.read_node.new.edges.items in
    let met : node_at c.args.d (record { nodes = c.loop-i.i; edges = c.loop-i.before }) c.loop-i.from ≡ Ok (n, c.read_node.new.from) = search rules in
    let read : node_at c.args.d s c.loop-i.from ≡ Ok (n, c.read_node.new.from) = ap (λ (t : Counts). node_at c.args.d t c.loop-i.from) c.loop-i.invariant.counted ∙ met in
    let pushed : c.add_node.new.nodes ≡ c.loop-i.nodes ++ n ∷ [] = search rules in
    let more = item_ok (node_at c.args.d) with_node c.loop-i.nodes c.args.n c.loop-i.i s c.loop-i.from c.read_node.new.from n _ (omega arith) read c.loop-i.invariant.read in
    let rest = λ (ns : List (Node Move Key)). with_front ns (repeated (c.args.n - (c.loop-i.i + 1)) (node_at c.args.d) with_node (counts_of ns) c.read_node.new.from) ≡ nodes_at c.args.d c.args.n c.args.from.now in
    let size : length n.edges ≡ c.len-before.result = length-map c.read_node.new.edges.items edge_of ∙ search rules in
    record {
      counted = ap counts_of pushed ∙ one_counted c.loop-i.nodes n ∙ ap (λ (t : Counts). with_node t n) c.loop-i.invariant.counted ∙ (λ k. record { nodes = c.loop-i.i + 1; edges = c.loop-i.before + size k });
      read = subst rest (sym pushed) (subst (λ t. with_front (c.loop-i.nodes ++ n ∷ []) (repeated (c.args.n - (c.loop-i.i + 1)) (node_at c.args.d) with_node t c.read_node.new.from) ≡ nodes_at c.args.d c.args.n c.args.from.now) (sym (one_counted c.loop-i.nodes n)) more);
    }

pub returns-clause-formed : goal.returns-clause-formed
returns-clause-formed c =
    nodes_are c.args.d c.args.n c.args.from.now c.loop-i.from c.loop-i.nodes
    (items_end (node_at c.args.d) with_node c.loop-i.nodes c.args.n c.loop-i.i (counts_of c.loop-i.nodes) c.loop-i.from _ c.loop-i-test.false c.loop-i.invariant.read)
