use Rattle.std.proofs.Common.{rules, ◌≡◌, map, ◌∷◌, ◌&&◌, length, sym, ap, ◌∙◌, arith}
use Rattle.std.specs.Vec.Iter.{into_iter_items}
use Rattle.krieg_checker.proofs.Common.{class_pair, plan_of, within, worse, heard_of, roots_won, roots_cost}
use Rattle.krieg_checker.proofs.Checking.{root_more}
use Rattle.krieg_checker.proofs.roots.walk_roots.Goals as goal

pub loop-class-preserved : goal.loop-class-preserved
loop-class-preserved c =
    let plan = plan_of c.args.plan.now in
    let rest = map (heard_of c.args.own) (map class_pair (into_iter_items c.next.new.self)) in
    let w = c.in_ok-walk_root.ensures in
    let steps = c.in-Some.ensures.steps in
    let more : map (heard_of c.args.own) (map class_pair (into_iter_items c.loop-class.class-iterator)) ≡ heard_of c.args.own (class_pair c.in-Some.class) ∷ rest = ap (λ cs. map (heard_of c.args.own) (map class_pair cs)) steps.0 in
    let found : c.worse-need.result ≡ worse c.loop-class.need c.in_ok-walk_root.field-0 = search rules in
    record {
      found = λ k small.
          ap (λ r. within r k && roots_won c.args.d plan rest k) found
          ∙ root_more c.args.d plan (heard_of c.args.own (class_pair c.in-Some.class)) rest c.loop-class.need c.in_ok-walk_root.field-0 (roots_won c.args.d plan (map (heard_of c.args.own) (map class_pair (into_iter_items c.into_iter-class-iterator.result))))
          (λ k small. ap (λ xs. within c.loop-class.need k && roots_won c.args.d plan xs k) (sym more) ∙ c.loop-class.invariant.found k small) w.0 k small;
      taken = omega (arith, w.1, c.loop-class.invariant.taken, ap (roots_cost c.args.d plan) more);
      fewer = omega (arith, w.1, c.loop-class.invariant.fewer);
      counted = omega (arith, c.loop-class.invariant.counted, steps.1, ap length steps.0);
    }
