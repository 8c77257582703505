use Rattle.std.proofs.Common.{◌≡◌, ◌<◌, ◌≤◌, ◌-◌, ◌+◌, false, [], ◌∷◌, ◌++◌, ◌⊎◌, inl, inr, length, map, refl, sym, subst, ap, ◌∙◌, arith}
use Rattle.std.specs.Prelude.{option_map}
use Rattle.std.specs.Vec.Iter.{into_iter_items}
use Rattle.std.proofs.lemmas.Bool.{cond-false}
use Rattle.std.proofs.lemmas.List.{map-append, nil_from_length}
use Rattle.krieg_solve.proofs.Common.{In, is_nil, Just, Nothing, size, size_other, depth, depth_other, canon, refused_canon, chess, class_pair, set_at, tree_of, edge_of, as_other, Node, Edge-F, roll-Edge, sets_of, edges_for}
use Rattle.krieg_theory.specs.Tree.{Try}
use Rattle.krieg_plan.specs.declared.node.Edge.{Edge}
use Rattle.krieg_plan.proofs.NodeTrees.{edge_rolled}
use Rattle.krieg_search.proofs.Trying.{some_is}
use Rattle.krieg_search.proofs.Adding.{adds_nothing, adds_then, adds_number, still_paid}
use Rattle.krieg_solve.proofs.Building.{still_won, won_at, too_large, won_node, no_nodes, no_path, paid_by, classes_won, refused_is_won, node_is, edges_large, other_large, node_fits}
use Rattle.krieg_solve.proofs.Edging.{IsEdging, no_edge, all_edges, node_large, one_edge}
use Rattle.krieg_solve.proofs.build.Builder.+build.Goals as goal

pub build-returns-then-self-eq0 : goal.build-returns-then-self-eq0
build-returns-then-self-eq0 t c = no_nodes c.args.d c.args.self.now.table (set_at c.args.self.now.table c.args.set) c.args.moves c.args.self.now.left c.args.deep c.requires.paid.ready c.requires.won c.if-self-eq0.true

pub build-returns-then-deep-eq0 : goal.build-returns-then-deep-eq0
build-returns-then-deep-eq0 t c = no_path c.args.d c.args.self.now.table (set_at c.args.self.now.table c.args.set) c.args.moves c.args.self.now.left c.args.deep c.requires.paid.ready c.requires.won c.if-deep-eq0.true

pub build-split_again-requires-clause-paid : goal.build-split_again-requires-clause-paid
build-split_again-requires-clause-paid t c =
    let T = c.args.self.now.table in
    let w = c.win_of-win.result in
    let n = c.win_of-win.ensures in
    paid_by c.args.d T (set_at T c.args.set) c.args.moves w.moves w.mv c.requires.paid n.some n.at_most n.stored

pub build-build_edges-requires : goal.build-build_edges-requires
build-build_edges-requires t c =
    let d = c.args.d in
    let j = c.args.moves in
    let T = c.args.self.now.table in
    let B = set_at T c.args.set in
    let w = c.win_of-win.result in
    let n = c.win_of-win.ensures in
    let p = c.in_ok-refused.field-0 in
    let q = c.in_ok-refused.ensures in
    let long = c.if-deep-eq0.false in
    (omega arith, (c.requires.paid, classes_won d T B j w.moves w.mv c.requires.paid n.some n.at_most n.stored p q))

pub build-returns-in_err-edges : goal.build-returns-in_err-edges
build-returns-in_err-edges t c =
    let d = c.args.d in
    let j = c.args.moves in
    let T = c.args.self.now.table in
    let B = set_at T c.args.set in
    let w = c.win_of-win.result in
    let n = c.win_of-win.ensures in
    let p = c.in_ok-refused.field-0 in
    let q = c.in_ok-refused.ensures in
    let some : 0 < c.args.self.now.left = (let h = c.if-self-eq0.false in omega arith) in
    let long : 0 < c.args.deep = (let h = c.if-deep-eq0.false in omega arith) in
    too_large _ c.from_residual-in_err-edges.result c.in_err-edges.field-0.0 _ _ _ _ _ _ _ _ _ _ _ _ _ _ _ _ (λ x h. cc) c.from_residual-in_err-edges.ensures.1
    (edges_large d T B j w.moves w.mv c.requires.paid n.some n.at_most n.stored p q c.args.self.now.left c.args.deep some long) c.in_err-edges.ensures

pub build-build_other-requires : goal.build-build_other-requires
build-build_other-requires t c =
    let d = c.args.d in
    let j = c.args.moves in
    let T = c.args.self.now.table in
    let B = set_at T c.args.set in
    let w = c.win_of-win.result in
    let n = c.win_of-win.ensures in
    let p = c.in_ok-refused.field-0 in
    let q = c.in_ok-refused.ensures in
    let long = c.if-deep-eq0.false in
    let s = c.in_ok-edges.ensures.3 in
    let T1 = c.build_edges.new.self.table in
    (omega arith, (still_paid d T T1 s c.requires.paid, λ m. still_won T T1 p.refused w.moves s (refused_is_won d T B j w.moves w.mv c.requires.paid n.some n.at_most n.stored p q m)))

pub build-returns-in_err-no : goal.build-returns-in_err-no
build-returns-in_err-no t c =
    let d = c.args.d in
    let j = c.args.moves in
    let T = c.args.self.now.table in
    let B = set_at T c.args.set in
    let w = c.win_of-win.result in
    let n = c.win_of-win.ensures in
    let p = c.in_ok-refused.field-0 in
    let q = c.in_ok-refused.ensures in
    let some : 0 < c.args.self.now.left = (let h = c.if-self-eq0.false in omega arith) in
    let long : 0 < c.args.deep = (let h = c.if-deep-eq0.false in omega arith) in
    too_large _ c.from_residual-in_err-no.result c.in_err-no.field-0.0 _ _ _ _ _ _ _ _ _ _ _ _ _ _ _ _ (λ x h. cc) c.from_residual-in_err-no.ensures.1
    (other_large d T B j w.moves w.mv c.requires.paid n.some n.at_most n.stored p q c.args.self.now.left c.build_edges.new.self.left c.args.deep some long c.in_ok-edges.ensures.1) c.in_err-no.ensures

pub build-returns : goal.build-returns
build-returns t c =
    let d = c.args.d in
    let j = c.args.moves in
    let T = c.args.self.now.table in
    let B = set_at T c.args.set in
    let w = c.win_of-win.result in
    let n = c.win_of-win.ensures in
    let p = c.in_ok-refused.field-0 in
    let q = c.in_ok-refused.ensures in
    let some : 0 < c.args.self.now.left = (let h = c.if-self-eq0.false in omega arith) in
    let long : 0 < c.args.deep = (let h = c.if-deep-eq0.false in omega arith) in
    let es = c.in_ok-edges.ensures in
    let o = c.in_ok-no.ensures in
    let fits = node_fits d T B j w.moves w.mv c.requires.paid n.some n.at_most n.stored p q c.args.self.now.left c.build_edges.new.self.left c.build_other.new.self.left c.args.deep some long es.1 o.1 es.2 o.2 in (
      node_is d T B j w.moves w.mv c.requires.paid n.some n.at_most n.stored p q
          ∙ ap (λ x. Just (Try w.mv x (edges_for d (w.moves - 1) (map class_pair p.classes.items)))) (sym o.0)
          ∙ ap (λ x. Just (Try w.mv (as_other (option_map (λ b. tree_of b.value) c.in_ok-no.no)) x)) (sym es.0)
          ∙ ap Just (sym c.in_ok-make.ensures),
      fits.0,
      fits.1,
      adds_then T c.build_edges.new.self.table c.build_other.new.self.table es.3 o.3,
    )

pub build_edges-build-requires : goal.build_edges-build-requires
build_edges-build-requires t c =
    let d = c.args.d in
    let j = c.args.moves in
    let all = map class_pair c.args.classes.items in
    let x = c.in-Some.class in
    let T0 = c.args.self.now.table in
    let T1 = c.loop-class.self.table in
    let T2 = c.number_of.new.table in
    let X = set_at T2 c.in_ok-set.set in
    let i = c.in_ok-set.ensures in
    let a = subst (λ ahead. IsEdging d j T0 T1 (map edge_of c.loop-class.edges.items) ahead all c.args.self.now.left c.loop-class.self.left c.args.deep) (ap (map class_pair) c.in-Some.ensures.steps.0) c.loop-class.invariant.edging in
    let s = adds_then T0 T1 T2 a.sets (adds_number T1 T2 x.belief c.in_ok-set.set i) in
    let paid = still_paid d T0 T2 s c.requires.paid in
    let inside = c.loop-class.invariant.inside x.belief (subst (λ ys. In x.belief (sets_of ys)) (sym c.in-Some.ensures.steps.0) (inl refl)) in
    let won = won_at T2 x.belief X j i.interned.at (still_won T0 T2 x.belief j s (c.requires.won x.belief inside)) in
    (omega arith, (i.interned.within, (paid, won)))

pub build_edges-loop-class-init : goal.build_edges-loop-class-init
build_edges-loop-class-init t c =
    let d = c.args.d in
    let T = c.args.self.now.table in
    let all = map class_pair c.args.classes.items in
    let gives = c.into_iter-class-iterator.ensures.into_iter_gives in
    record {
      edging =
          subst (λ pushed. IsEdging d c.args.moves T T pushed (map class_pair (into_iter_items c.into_iter-class-iterator.result)) all c.args.self.now.left c.args.self.now.left c.args.deep) (ap (map edge_of) (sym c.new-edges.ensures.items))
          (subst (λ ahead. IsEdging d c.args.moves T T [] ahead all c.args.self.now.left c.args.self.now.left c.args.deep) (ap (map class_pair) (sym gives.0)) (no_edge d c.args.moves T all c.args.self.now.left c.args.deep (adds_nothing T c.requires.paid.ready.counted)));
      inside = λ C i. subst (λ ys. In C (sets_of ys)) gives.0 i;
      counted = omega (arith, gives.1, ap length gives.0);
    }

pub build_edges-returns-in_err-node : goal.build_edges-returns-in_err-node
build_edges-returns-in_err-node t c =
    let d = c.args.d in
    let j = c.args.moves in
    let all = map class_pair c.args.classes.items in
    let rest = map class_pair (into_iter_items c.next.new.self) in
    let x = c.in-Some.class in
    let T0 = c.args.self.now.table in
    let T1 = c.loop-class.self.table in
    let T2 = c.number_of.new.table in
    let X = set_at T2 c.in_ok-set.set in
    let i = c.in_ok-set.ensures in
    let a = subst (λ ahead. IsEdging d j T0 T1 (map edge_of c.loop-class.edges.items) ahead all c.args.self.now.left c.loop-class.self.left c.args.deep) (ap (map class_pair) c.in-Some.ensures.steps.0) c.loop-class.invariant.edging in
    let s = adds_then T0 T1 T2 a.sets (adds_number T1 T2 x.belief c.in_ok-set.set i) in
    let paid = still_paid d T0 T2 s c.requires.paid in
    let inside = c.loop-class.invariant.inside x.belief (subst (λ ys. In x.belief (sets_of ys)) (sym c.in-Some.ensures.steps.0) (inl refl)) in
    let won = won_at T2 x.belief X j i.interned.at (still_won T0 T2 x.belief j s (c.requires.won x.belief inside)) in
    let n = won_node d T2 X j paid.ready won in
    let is : canon (chess d) j x.belief ≡ Just n.0 = ap (canon (chess d) j) (sym i.interned.at) ∙ n.1 in
    let f = node_large d j T0 T1 (map edge_of c.loop-class.edges.items) (class_pair x) rest all n.0 c.args.self.now.left c.loop-class.self.left c.args.deep a is in
    too_large _ c.from_residual-in_err-node.result c.in_err-node.field-0.0 _ _ _ _ _ _ _ _ _ _ _ _ _ _ _ _ (λ x h. cc) c.from_residual-in_err-node.ensures.1
    (λ h. f (subst (λ m. (c.loop-class.self.left < size_other m) ⊎ (c.args.deep < depth_other m)) n.1 h)) c.in_err-node.ensures

pub build_edges-loop-class-preserved : goal.build_edges-loop-class-preserved
build_edges-loop-class-preserved t c =
    let d = c.args.d in
    let j = c.args.moves in
    let all = map class_pair c.args.classes.items in
    let rest = map class_pair (into_iter_items c.next.new.self) in
    let x = c.in-Some.class in
    let T0 = c.args.self.now.table in
    let T1 = c.loop-class.self.table in
    let T2 = c.number_of.new.table in
    let i = c.in_ok-set.ensures in
    let a = subst (λ ahead. IsEdging d j T0 T1 (map edge_of c.loop-class.edges.items) ahead all c.args.self.now.left c.loop-class.self.left c.args.deep) (ap (map class_pair) c.in-Some.ensures.steps.0) c.loop-class.invariant.edging in
    let b = c.in_ok-node.ensures in
    let m = tree_of c.in_ok-node.node.value in
    let is : canon (chess d) j x.belief ≡ Just m = ap (canon (chess d) j) (sym i.interned.at) ∙ b.0 in
    let w : Edge-F Edge Node = record { own = x.own; reply = x.reply; node = c.in_ok-node.node } in
    let old = c.loop-class.edges.items in
    let pushed : map edge_of c.push.new.self.items ≡ map edge_of old ++ ((x.own, x.reply), m) ∷ [] = ap (map edge_of) c.in_ok-push.ensures.items ∙ map-append edge_of old (roll-Edge w ∷ []) ∙ ap (λ e. map edge_of old ++ e ∷ []) (edge_rolled w) in
    let steps = c.in-Some.ensures.steps in
    let sizes : c.build.new.self.left + size m ≡ c.loop-class.self.left = ap (λ o. c.build.new.self.left + size_other o) (sym b.0) ∙ b.1 in
    let depths : depth m ≤ c.args.deep = subst (λ o. depth_other o ≤ c.args.deep) b.0 b.2 in
    record {
      edging =
          subst (λ es. IsEdging d j T0 c.build.new.self.table es rest all c.args.self.now.left c.build.new.self.left c.args.deep) (sym pushed)
          (one_edge d j T0 T1 (map edge_of old) (class_pair x) rest all m c.args.self.now.left c.loop-class.self.left c.args.deep a is c.build.new.self.table c.build.new.self.left sizes depths (adds_then T1 T2 c.build.new.self.table (adds_number T1 T2 x.belief c.in_ok-set.set i) b.3));
      inside = λ C k. c.loop-class.invariant.inside C (subst (λ ys. In C (sets_of ys)) (sym steps.0) (inr k));
      counted = omega (arith, c.loop-class.invariant.counted, steps.1, ap length steps.0);
    }

pub build_edges-returns : goal.build_edges-returns
build_edges-returns t c =
    let d = c.args.d in
    let all = map class_pair c.args.classes.items in
    let pushed = map edge_of c.loop-class.edges.items in
    let none = nil_from_length (into_iter_items c.loop-class.class-iterator) (let n = c.in-None.ensures.steps in let k = c.loop-class.invariant.counted in omega arith) in
    all_edges d c.args.moves c.args.self.now.table c.loop-class.self.table pushed all c.args.self.now.left c.loop-class.self.left c.args.deep (subst (λ ahead. IsEdging d c.args.moves c.args.self.now.table c.loop-class.self.table pushed ahead all c.args.self.now.left c.loop-class.self.left c.args.deep) (ap (map class_pair) none) c.loop-class.invariant.edging)

pub build_other-build-requires : goal.build_other-build-requires
build_other-build-requires t c =
    let d = c.args.d in
    let j = c.args.moves in
    let R = c.args.refused in
    let T0 = c.args.self.now.table in
    let T1 = c.number_of.new.table in
    let X = set_at T1 c.in_ok-set.set in
    let i = c.in_ok-set.ensures in
    let some : is_nil R ≡ false = some_is R c.is_empty.result c.is_empty.ensures c.if-is_empty.false in
    let s = adds_number T0 T1 R c.in_ok-set.set i in
    let paid = still_paid d T0 T1 s c.requires.paid in
    let won = won_at T1 R X j i.interned.at (still_won T0 T1 R j s (c.requires.won some)) in
    (omega arith, (i.interned.within, (paid, won)))

pub build_other-returns-in_err-build : goal.build_other-returns-in_err-build
build_other-returns-in_err-build t c =
    let d = c.args.d in
    let j = c.args.moves in
    let R = c.args.refused in
    let T1 = c.number_of.new.table in
    let X = set_at T1 c.in_ok-set.set in
    let i = c.in_ok-set.ensures in
    let some : is_nil R ≡ false = some_is R c.is_empty.result c.is_empty.ensures c.if-is_empty.false in
    let same : refused_canon (chess d) j R ≡ canon (chess d) j X = cond-false (is_nil R) Nothing (canon (chess d) j R) some ∙ ap (canon (chess d) j) (sym i.interned.at) in
    too_large _ c.from_residual-in_err-build.result c.in_err-build.field-0.0 _ _ _ _ _ _ _ _ _ _ _ _ _ _ _ _ (λ x h. cc) c.from_residual-in_err-build.ensures.1
    (λ h. subst (λ m. (c.args.self.now.left < size_other m) ⊎ (c.args.deep < depth_other m)) (sym same) h) c.in_err-build.ensures

pub build_other-returns : goal.build_other-returns
build_other-returns t c =
    let d = c.args.d in
    let j = c.args.moves in
    let R = c.args.refused in
    let T0 = c.args.self.now.table in
    let T1 = c.number_of.new.table in
    let X = set_at T1 c.in_ok-set.set in
    let i = c.in_ok-set.ensures in
    let some : is_nil R ≡ false = some_is R c.is_empty.result c.is_empty.ensures c.if-is_empty.false in
    let s = adds_number T0 T1 R c.in_ok-set.set i in
    let same : refused_canon (chess d) j R ≡ canon (chess d) j X = cond-false (is_nil R) Nothing (canon (chess d) j R) some ∙ ap (canon (chess d) j) (sym i.interned.at) in
    let b = c.in_ok-build.ensures in (
      sym (same ∙ b.0),
      ap (λ m. c.build.new.self.left + size_other m) same ∙ b.1,
      subst (λ m. depth_other m ≤ c.args.deep) (sym same) b.2,
      adds_then T0 T1 c.build.new.self.table s b.3,
    )
