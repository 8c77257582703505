use Rattle.std.proofs.Common.{rules, ◌≡◌, ◌+◌, ◌<◌, ◌∷◌, [], ◌++◌, refl, map, take, get_or, length, List, sym, ap, subst, ◌∙◌, arith}
use Rattle.std.proofs.lemmas.Grind.{take_at_read}
use Rattle.krieg_planfile.proofs.Common.{Pieces, Maybe, Move, Key, NodeTree, out-Edge, put_lines, HasLines, PutsLines, tree_of, edge_of, edges_in, out-Node, IsToldKey, other_in, play_line, on_line, node_lines, other_lines, edges_lines, branches_lines}
use Rattle.krieg_words.specs.ToldWords.{Fits}
use Rattle.krieg_planfile.proofs.NodeWriting.{no_other, other_is, edge_is, told_at, told_edges_of, size_of_edge, puts_then, has_then, next_lines, edges_are, lines_of_node, all_taken}
use Rattle.krieg_planfile.proofs.writing.+writing.Goals as goal

pub put_edges-put_edge-requires : goal.put_edges-put_edge-requires
put_edges-put_edge-requires t c =
    let es = (out-Node c.args.n.now).edges.items in
    let lt : c.loop-e.e-index < length es = search rules in
    let is : get_or es c.loop-e.e-index c.e-item.result ≡ c.e-item.result = search rules in
    let told = told_at (IsToldKey c.args.d) c.args.d edge_of es c.loop-e.e-index c.e-item.result lt is (told_edges_of c.args.d c.args.n.now c.requires) in
    (omega (arith, c.decreases, size_of_edge c.args.n.now c.loop-e.e-index c.e-item.result lt is), (told.0, told.1))

pub put_edges-loop-e-preserved : goal.put_edges-loop-e-preserved
put_edges-loop-e-preserved t c =
    let d = c.args.d in
    let i = c.loop-e.e-index in
    let e = c.e-item.result in
    let es = (out-Node c.args.n.now).edges.items in
    let is : get_or es i e ≡ e = search rules in
    let next : take (i + 1) es ≡ take i es ++ e ∷ [] = (take_at_read es i e (search rules)).1 ∙ ap (λ x. take i es ++ x ∷ []) is in
    let step : HasLines c.args.text.now c.put_edge.new.text (branches_lines (on_line d) d (map edge_of (take i es)) ++ (on_line d (edge_of e).0 ∷ node_lines d (edge_of e).1)) =
    has_then c.args.text.now c.loop-e.text c.put_edge.new.text (branches_lines (on_line d) d (map edge_of (take i es))) (on_line d (edge_of e).0 ∷ node_lines d (edge_of e).1) c.loop-e.invariant c.in_ok-put_edge.ensures in
    subst (λ (ls : List Pieces). HasLines c.args.text.now c.put_edge.new.text ls) (next_lines (on_line d) d edge_of es i e next) step

pub put_edges-returns : goal.put_edges-returns
put_edges-returns t c =
    let d = c.args.d in
    let es = (out-Node c.args.n.now).edges.items in
    subst (λ (ls : List Pieces). HasLines c.args.text.now c.loop-e.text ls) (ap (λ x. branches_lines (on_line d) d (map edge_of x)) (all_taken es c.loop-e.e-index (search rules)) ∙ sym (edges_are d c.args.n.now)) c.loop-e.invariant

pub put_node-returns : goal.put_node-returns
put_node-returns t c =
    let d = c.args.d in
    let n = c.args.n.now in
    let below : PutsLines c.put_edges.result c.put_play.new.text c.put_edges.new.text (other_lines d (other_in (tree_of n)) ++ edges_lines d (edges_in (tree_of n))) =
    puts_then c.put_edges.result c.put_play.new.text c.put_other.new.text c.put_edges.new.text (other_lines d (other_in (tree_of n))) (edges_lines d (edges_in (tree_of n))) c.in_ok-put_other.ensures c.put_edges.ensures in
    subst (λ (ls : List Pieces). PutsLines c.put_edges.result c.args.text.now c.put_edges.new.text ls) (lines_of_node d n c.is_some.result c.len.result (search rules) (search rules))
    (puts_then c.put_edges.result c.args.text.now c.put_play.new.text c.put_edges.new.text (play_line (out-Node n).mv c.is_some.result c.len.result ∷ []) (other_lines d (other_in (tree_of n)) ++ edges_lines d (edges_in (tree_of n))) c.in_ok-put_play.ensures below)

pub put_edge-put_on-requires-clause-own : goal.put_edge-put_on-requires-clause-own
put_edge-put_on-requires-clause-own t c = subst (λ (b : Key × NodeTree). Fits c.args.d b.0.0) (sym (edge_is c.args.e.now _ refl)) c.requires.key.0.1

pub put_edge-put_on-requires-clause-reply : goal.put_edge-put_on-requires-clause-reply
put_edge-put_on-requires-clause-reply t c = subst (λ (b : Key × NodeTree). Fits c.args.d b.0.1) (sym (edge_is c.args.e.now _ refl)) c.requires.key.1.1

pub put_edge-returns : goal.put_edge-returns
put_edge-returns t c =
    let e = out-Edge c.args.e.now in
    subst (λ (b : Key × NodeTree). PutsLines c.put_node.result c.args.text.now c.put_node.new.text (on_line c.args.d b.0 ∷ node_lines c.args.d b.1)) (edge_is c.args.e.now c.deref.result.now c.deref.ensures)
    (puts_then c.put_node.result c.args.text.now c.put_on.new.text c.put_node.new.text (on_line c.args.d (e.own, e.reply) ∷ []) (node_lines c.args.d (tree_of c.deref.result.now)) c.in_ok-put_on.ensures c.put_node.ensures)

pub put_other-returns-in-None : goal.put_other-returns-in-None
put_other-returns-in-None t c = (refl, ap (λ (o : Maybe Move Key). put_lines c.args.text.now.written (other_lines c.args.d o)) (sym (no_other c.args.n.now c.in-None.is)))

pub put_other-returns-in-Some : goal.put_other-returns-in-Some
put_other-returns-in-Some t c =
    subst (λ (o : Maybe Move Key). PutsLines c.put_node.result c.args.text.now c.put_node.new.text (other_lines c.args.d o))
    (sym (other_is c.args.n.now c.in-Some.other c.deref.result.now c.in-Some.is c.deref.ensures)) c.put_node.ensures
