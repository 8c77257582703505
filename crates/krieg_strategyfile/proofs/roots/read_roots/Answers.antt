use Rattle.std.proofs.Common.{rules, ◌≡◌, ◌∷◌, [], ◌++◌, Some, Ok, Err, arith, map, ap, ◌∙◌, Vec, Global}
use Rattle.krieg_text.proofs.Writings.{map_last}
use Rattle.krieg_format.proofs.Repeats.{item_ok, item_gives, items_end}
use Rattle.krieg_strategy.specs.declared.root.StrategyRoot.{StrategyRoot}
use Rattle.krieg_strategyfile.proofs.Common.{GivesOn, root_of, root_at}
use Rattle.krieg_strategyfile.proofs.Loops.{roots_are}
use Rattle.krieg_strategyfile.proofs.roots.read_roots.Goals as goal

pub returns-in-Err : goal.returns-in-Err
returns-in-Err c =
    let item = root_at c.args.rules.dialect c.args.rules.waiting c.args.rules.nodes in
    let given : GivesOn {X = StrategyRoot} (λ x. root_of x) (Err c.in-Err.fault) c.read_root.new.from (item c.loop-i.last c.loop-i.from) = c.in-Err.ensures in
    let value = item_gives item (λ last x. Some x.0) {X = StrategyRoot} {Y = Vec _ Global} (λ x. root_of x) (λ v. map root_of v.items) (map root_of c.loop-i.roots.items) c.args.n c.loop-i.i c.loop-i.last c.loop-i.from c.read_root.new.from c.in-Err.fault _ (omega arith) given c.loop-i.invariant.read in
    record { value = value; formed = tt }

pub loop-i-preserved : goal.loop-i-preserved
loop-i-preserved c =
    let item = root_at c.args.rules.dialect c.args.rules.waiting c.args.rules.nodes in
    let x = c.in-Ok.root in
    let read : item c.loop-i.last c.loop-i.from ≡ Ok (root_of x, c.read_root.new.from) = c.in-Ok.ensures in
    let pushed : c.push.new.self.items ≡ c.loop-i.roots.items ++ x ∷ [] = c.in_ok-push.ensures.items in
    let all : map root_of c.push.new.self.items ≡ map root_of c.loop-i.roots.items ++ root_of x ∷ [] = ap (map root_of) pushed ∙ map_last root_of c.loop-i.roots.items x in
    record { read = rw all (item_ok item (λ last x. Some x.0) (map root_of c.loop-i.roots.items) c.args.n c.loop-i.i c.loop-i.last c.loop-i.from c.read_root.new.from (root_of x) _ (omega arith) read c.loop-i.invariant.read) }

pub returns-clause-formed : goal.returns-clause-formed
returns-clause-formed c =
    let rules = c.args.rules in
    let item = root_at rules.dialect rules.waiting rules.nodes in
    roots_are rules.dialect rules.waiting rules.nodes c.args.n c.args.from.now c.loop-i.from (map root_of c.loop-i.roots.items)
    (items_end item (λ last x. Some x.0) (map root_of c.loop-i.roots.items) c.args.n c.loop-i.i c.loop-i.last c.loop-i.from _ c.loop-i-test.false c.loop-i.invariant.read)
