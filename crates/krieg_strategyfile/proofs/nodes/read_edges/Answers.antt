use Rattle.std.proofs.Common.{◌≡◌, ◌∷◌, [], ◌++◌, Some, Ok, Err, arith, map, ap, ◌∙◌}
use Rattle.krieg_text.proofs.Writings.{map_last}
use Rattle.krieg_format.proofs.Repeats.{item_ok, item_gives}
use Rattle.krieg_strategy.specs.declared.edge.StrategyEdge.{StrategyEdge}
use Rattle.krieg_strategyfile.proofs.Common.{GivesOn, edge_of, edge_at}
use Rattle.krieg_strategyfile.proofs.nodes.read_edges.Goals as goal

pub returns-in-Err : goal.returns-in-Err
returns-in-Err c =
    let item = edge_at c.args.d c.args.own in
    let given : GivesOn {X = StrategyEdge} (λ x. edge_of x) (Err c.in-Err.fault) c.read_edge.new.from (item c.loop-i.last c.loop-i.from) = c.in-Err.ensures in
    item_gives item (λ last x. Some x.0) {X = StrategyEdge} {Y = Unit {0}} (λ x. edge_of x) (λ u. map edge_of c.loop-i.edges.items) (map edge_of c.loop-i.edges.items) c.args.n c.loop-i.i c.loop-i.last c.loop-i.from c.read_edge.new.from c.in-Err.fault _ (omega arith) given c.loop-i.invariant.read

pub loop-i-preserved : goal.loop-i-preserved
loop-i-preserved c =
    let item = edge_at c.args.d c.args.own in
    let x = c.in-Ok.edge in
    let read : item c.loop-i.last c.loop-i.from ≡ Ok (edge_of x, c.read_edge.new.from) = c.in-Ok.ensures in
    let pushed : c.push.new.self.items ≡ c.loop-i.edges.items ++ x ∷ [] = c.in_ok-push.ensures.items in
    let all : map edge_of c.push.new.self.items ≡ map edge_of c.loop-i.edges.items ++ edge_of x ∷ [] = ap (map edge_of) pushed ∙ map_last edge_of c.loop-i.edges.items x in
    record { read = rw all (item_ok item (λ last x. Some x.0) (map edge_of c.loop-i.edges.items) c.args.n c.loop-i.i c.loop-i.last c.loop-i.from c.read_edge.new.from (edge_of x) _ (omega arith) read c.loop-i.invariant.read) }
