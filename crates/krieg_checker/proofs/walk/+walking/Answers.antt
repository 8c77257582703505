use Rattle.std.proofs.Common.{rules, ◌≡◌, map, [], ◌∷◌, ◌&&◌, length, sym, ap, ◌∙◌, arith}
use Rattle.std.specs.Prelude.{option_map}
use Rattle.std.specs.Vec.Iter.{into_iter_items}
use Rattle.krieg_checker.proofs.Common.{Just, Nothing, class_pair, edges_in, tree_of, as_other, out-Node, within, worse, own_need, classes_won, classes_cost, other_in}
use Rattle.krieg_plan.proofs.NodeTrees.{other_of}
use Rattle.krieg_parting.proofs.Charges.{stopped}
use Rattle.krieg_checker.proofs.Walking.{walk_nil, parts_are, over, goes_on, ends, falls, other_falls, other_is_ordered, class_more, no_edge, some_edge}
use Rattle.krieg_checker.proofs.walk.+walking.Goals as goal

pub walk-returns-then-is_empty : goal.walk-returns-then-is_empty
walk-returns-then-is_empty t c =
    walk_nil c.args.d (tree_of c.args.n.now) (tree_of c.nodes.here.now) c.args.b c.nodes.set c.nodes.need c.nodes.units c.args.units.now c.nodes.invariant.walked (search rules)

pub walk-returns-in_err-below : goal.walk-returns-in_err-below
walk-returns-in_err-below t c =
    let h = c.nodes.here.now in
    let p = c.in_ok-refused.ensures in
    stopped _ c.from_residual-in_err-below.result c.in_err-below.field-0.0 _ _ _ _ _ _ _ (λ x h. cc) c.from_residual-in_err-below.ensures.1
    (over c.args.d (tree_of h) c.nodes.set c.in_ok-refused.field-0 p.0 (tree_of c.args.n.now) c.args.b c.nodes.need c.nodes.units c.args.units.now c.try_node.new.units c.nodes.invariant.walked p.1)
    (omega (arith, c.nodes.invariant.walked.fewer, p.1)) c.in_err-below.ensures

pub walk-nodes-preserved : goal.walk-nodes-preserved
walk-nodes-preserved t c =
    let h = c.nodes.here.now in
    let p = c.in_ok-refused.ensures in
    let b = c.in_ok-below.ensures in
    let some : c.nodes.set ≡ [] → ⊥ = search rules in
    let next : other_of (out-Node h) ≡ Just (tree_of c.deref-here.result.now) = ap (λ o. as_other (option_map (λ b. tree_of b.value) o)) c.in-Some.is ∙ ap (λ n. Just (tree_of n)) (sym c.deref-here.ensures) in
    let more : c.worse-need.result ≡ worse c.nodes.need (own_need c.in_ok-refused.field-0.fails c.in_ok-below.below) = search rules in
    record {
      walked =
          goes_on c.args.d (tree_of h) c.nodes.set c.in_ok-refused.field-0 p.0 (tree_of c.args.n.now) c.args.b c.nodes.need c.in_ok-below.below some b.0 c.nodes.units c.args.units.now c.try_node.new.units c.walk_classes.new.units c.nodes.invariant.walked p.1
          (tree_of c.deref-here.result.now) c.worse-need.result (ap other_in (parts_are h) ∙ next) b.1 more;
      ordered = other_is_ordered (tree_of h) (out-Node h).mv (other_of (out-Node h)) (edges_in (tree_of h)) (tree_of c.deref-here.result.now) (parts_are h) next c.nodes.invariant.ordered;
      smaller = omega (arith, c.nodes.invariant.smaller, other_falls (tree_of h) (out-Node h).mv (other_of (out-Node h)) (edges_in (tree_of h)) (tree_of c.deref-here.result.now) (parts_are h) next);
    }

pub walk-returns-in-None : goal.walk-returns-in-None
walk-returns-in-None t c =
    let h = c.nodes.here.now in
    let p = c.in_ok-refused.ensures in
    let b = c.in_ok-below.ensures in
    let some : c.nodes.set ≡ [] → ⊥ = search rules in
    let none : other_of (out-Node h) ≡ Nothing = ap (λ o. as_other (option_map (λ b. tree_of b.value) o)) c.in-None.is in
    let more : c.worse-need.result ≡ worse c.nodes.need (own_need c.in_ok-refused.field-0.fails c.in_ok-below.below) = search rules in
    ends c.args.d (tree_of h) c.nodes.set c.in_ok-refused.field-0 p.0 (tree_of c.args.n.now) c.args.b c.nodes.need c.in_ok-below.below some b.0 c.nodes.units c.args.units.now c.try_node.new.units c.walk_classes.new.units c.nodes.invariant.walked p.1
    c.missing.result c.worse-need.result c.worse.result (ap other_in (parts_are h) ∙ none) b.1 more c.missing.ensures (search rules)

pub walk_class-walk-requires : goal.walk_class-walk-requires
walk_class-walk-requires t c =
    let h = falls (tree_of c.args.n.now) (tree_of c.in-Some.node.now) (c.args.class.own, c.args.class.reply) c.in-Some.ensures.found in
    (omega (arith, h), c.in-Some.ensures.ordered)

pub walk_class-returns-in-None : goal.walk_class-returns-in-None
walk_class-returns-in-None t c =
    no_edge c.args.d (edges_in (tree_of c.args.n.now)) (c.args.class.own, c.args.class.reply) c.args.class.belief c.missing.result c.args.units.now c.in-None.ensures.found c.missing.ensures

pub walk_class-returns-in-Some : goal.walk_class-returns-in-Some
walk_class-returns-in-Some t c =
    some_edge c.args.d (edges_in (tree_of c.args.n.now)) (c.args.class.own, c.args.class.reply) c.args.class.belief (tree_of c.in-Some.node.now) c.walk.result c.args.units.now c.walk.new.units c.in-Some.ensures.found c.walk.ensures

pub walk_classes-loop-class-preserved : goal.walk_classes-loop-class-preserved
walk_classes-loop-class-preserved t c =
    let es = edges_in (tree_of c.args.n.now) in
    let rest = map class_pair (into_iter_items c.next.new.self) in
    let w = c.in_ok-walk_class.ensures in
    let steps = c.in-Some.ensures.steps in
    let more : map class_pair (into_iter_items c.loop-class.class-iterator) ≡ class_pair c.in-Some.class ∷ rest = ap (map class_pair) steps.0 in
    let found : c.worse-need.result ≡ worse c.loop-class.need c.in_ok-walk_class.field-0 = search rules in
    record {
      found = λ k small.
          ap (λ r. within r k && classes_won c.args.d es rest k) found
          ∙ class_more c.args.d es (class_pair c.in-Some.class) rest c.loop-class.need c.in_ok-walk_class.field-0 (classes_won c.args.d es (map class_pair (into_iter_items c.into_iter-class-iterator.result)))
          (λ k small. ap (λ xs. within c.loop-class.need k && classes_won c.args.d es xs k) (sym more) ∙ c.loop-class.invariant.found k small) w.0 k small;
      taken = omega (arith, w.1, c.loop-class.invariant.taken, ap (classes_cost c.args.d es) more);
      fewer = omega (arith, w.1, c.loop-class.invariant.fewer);
      counted = omega (arith, c.loop-class.invariant.counted, steps.1, ap length steps.0);
    }
