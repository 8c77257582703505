use Rattle.std.proofs.Common.{rules, ◌≡◌, ◌+◌, ◌-◌, ◌∷◌, [], ◌++◌, List, Vec, Global, Some, Ok, Err, map, sym, ap, ◌∙◌, arith}
use Rattle.std.proofs.lemmas.List.{map-append}
use Rattle.krieg_planfile.proofs.Common.{GivesOn, Key, NodeTree, edge_of, edge_step, node_step, out-Edge, fold_out-Edge, on_form}
use Rattle.krieg_plan.specs.declared.node.Edge.{Edge}
use Rattle.krieg_planfile.specs.NodeReading as spec
use Rattle.krieg_planfile.proofs.Branches.{with_front, branch_ok, branch_refused}
use Rattle.krieg_planfile.proofs.nodes.+reading.Goals as goal

pub read_edges-loop-i-preserved : goal.read_edges-loop-i-preserved
read_edges-loop-i-preserved t c =
    let node = spec.node_at c.args.room c.args.d in
    let e = c.in-Ok.edge in
    let first : spec.branch_by node (on_form c.args.d) c.loop-i.last c.loop-i.left c.loop-i.from ≡ Ok ((edge_of e, c.read_edge.new.left), c.read_edge.new.from) = search rules in
    let items : c.push.new.self.items ≡ c.loop-i.edges.items ++ e ∷ [] = c.in_ok-push.ensures.items in
    let pushed : map edge_of c.push.new.self.items ≡ map edge_of c.loop-i.edges.items ++ edge_of e ∷ [] = ap (map edge_of) items ∙ map-append edge_of c.loop-i.edges.items (e ∷ []) in
    let key : ((out-Edge e).own, (out-Edge e).reply) ≡ (edge_of e).0 = ap (λ (x : Key × NodeTree). x.0) (sym (fold_out-Edge (Key × NodeTree) NodeTree edge_step node_step e)) in
    ap (λ (fs : List (Key × NodeTree)). with_front node (on_form c.args.d) fs (spec.branches_by node (on_form c.args.d) (c.args.k - (c.loop-i.i + 1)) (Some ((out-Edge e).own, (out-Edge e).reply)) c.read_edge.new.left c.read_edge.new.from)) pushed
    ∙ ap (λ (last : Key). with_front node (on_form c.args.d) (map edge_of c.loop-i.edges.items ++ edge_of e ∷ []) (spec.branches_by node (on_form c.args.d) (c.args.k - (c.loop-i.i + 1)) (Some last) c.read_edge.new.left c.read_edge.new.from)) key
    ∙ branch_ok node (on_form c.args.d) (map edge_of c.loop-i.edges.items) c.args.k c.loop-i.i c.loop-i.last c.loop-i.left c.read_edge.new.left c.loop-i.from c.read_edge.new.from (edge_of e) _ (omega arith) first c.loop-i.invariant

pub read_edges-returns-in-Err : goal.read_edges-returns-in-Err
read_edges-returns-in-Err t c =
    let node = spec.node_at c.args.room c.args.d in
    let one : Edge → (Key × NodeTree) × _ = λ e. (edge_of e, c.read_edge.new.left) in
    let first : GivesOn one (Err c.in-Err.fault) c.read_edge.new.from (spec.branch_by node (on_form c.args.d) c.loop-i.last c.loop-i.left c.loop-i.from) = c.in-Err.ensures in
    let view : Vec Edge Global → List (Key × NodeTree) × _ = λ v. (map edge_of v.items, c.read_edge.new.left) in
    branch_refused node (on_form c.args.d) one view c.in-Err.fault (map edge_of c.loop-i.edges.items) c.args.k c.loop-i.i c.loop-i.last c.loop-i.left c.loop-i.from c.read_edge.new.from _ (omega arith) first c.loop-i.invariant
