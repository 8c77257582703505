use Rattle.std.proofs.Common.{◌≡◌, ℕ, suc, ◌<◌, ◌≤◌, ◌+◌, ◌⊎◌, max, List, sym, ap, subst, ◌∙◌, arith, [], ◌∷◌, ◌++◌, map, drop}
use Rattle.std.proofs.lemmas.List.{map-append, drop_all}
use Rattle.krieg_solve.proofs.Common.{Opening, size, depth, size_other, depth_other, least, canon, chess, tree_of, root_of, Root, MOST_ON_PATH, set_at, opening_in}
use Rattle.krieg_search.proofs.Adding.{adds_nothing, still_paid}
use Rattle.krieg_solve.proofs.Building.{too_large}
use Rattle.krieg_search.proofs.Checking.{at_item}
use Rattle.krieg_solve.proofs.Rooting.{greater_is, IsRooting, no_root, all_roots, root_large, one_root, root_within, root_same, root_won, root_node, root_least}
use Rattle.krieg_solve.proofs.roots.build_roots.Goals as goal

pub loop-o-init : goal.loop-o-init
loop-o-init c =
    let d = c.args.d in
    let T = c.args.builder.now.table in
    let left = c.args.builder.now.left in
    let all = map (opening_in T) c.args.openings.now in
    subst (λ pushed. IsRooting d c.args.moves T T pushed 0 all all left left MOST_ON_PATH) (ap (map root_of) (sym c.new-roots.ensures.items)) (no_root d c.args.moves T all left MOST_ON_PATH (adds_nothing T c.requires.paid.ready.counted))

pub win_of-win-requires-clause-within : goal.win_of-win-requires-clause-within
win_of-win-requires-clause-within c =
    root_within c.args.d c.args.moves c.args.builder.now.table c.loop-o.builder.table c.args.openings.now c.loop-o.o-index c.o-item.result c.loop-o-test.true c.o-item.is c.loop-o.invariant.sets c.requires.paid c.requires.numbered c.requires.won

pub win_of-win-requires-clause-won : goal.win_of-win-requires-clause-won
win_of-win-requires-clause-won c =
    root_won c.args.d c.args.moves c.args.builder.now.table c.loop-o.builder.table c.args.openings.now c.loop-o.o-index c.o-item.result c.loop-o-test.true c.o-item.is c.loop-o.invariant.sets c.requires.paid c.requires.numbered c.requires.won

pub build-requires-clause-within : goal.build-requires-clause-within
build-requires-clause-within c =
    root_within c.args.d c.args.moves c.args.builder.now.table c.loop-o.builder.table c.args.openings.now c.loop-o.o-index c.o-item.result c.loop-o-test.true c.o-item.is c.loop-o.invariant.sets c.requires.paid c.requires.numbered c.requires.won

pub build-requires-clause-paid : goal.build-requires-clause-paid
build-requires-clause-paid c = still_paid c.args.d c.args.builder.now.table c.loop-o.builder.table c.loop-o.invariant.sets c.requires.paid

pub build-requires-clause-won : goal.build-requires-clause-won
build-requires-clause-won c =
    root_won c.args.d c.args.moves c.args.builder.now.table c.loop-o.builder.table c.args.openings.now c.loop-o.o-index c.o-item.result c.loop-o-test.true c.o-item.is c.loop-o.invariant.sets c.requires.paid c.requires.numbered c.requires.won

pub returns-in_err-node : goal.returns-in_err-node
returns-in_err-node c =
    let d = c.args.d in
    let j = c.args.moves in
    let x = c.o-item.result in
    let T0 = c.args.builder.now.table in
    let T1 = c.loop-o.builder.table in
    let old = map root_of c.loop-o.roots.items in
    let all = map (opening_in T0) c.args.openings.now in
    let k = c.loop-o.o-index in
    let one : suc k ≡ k + 1 = omega arith in
    let rest = map (opening_in T0) (drop (k + 1) c.args.openings.now) in
    let had = c.args.builder.now.left in
    let has = c.loop-o.builder.left in
    let a = subst (λ (n : ℕ). IsRooting d j T0 T1 old c.loop-o.worst (opening_in T0 x ∷ map (opening_in T0) (drop n c.args.openings.now)) all had has MOST_ON_PATH) one
    (subst (λ (ahead : List Opening). IsRooting d j T0 T1 old c.loop-o.worst (map (opening_in T0) ahead) all had has MOST_ON_PATH) (at_item c.args.openings.now k x c.loop-o-test.true c.o-item.is) c.loop-o.invariant) in
    let same = root_same c.args.d c.args.moves c.args.builder.now.table c.loop-o.builder.table c.args.openings.now c.loop-o.o-index c.o-item.result c.loop-o-test.true c.o-item.is c.loop-o.invariant.sets c.requires.paid c.requires.numbered c.requires.won in
    let n = root_node c.args.d c.args.moves c.args.builder.now.table c.loop-o.builder.table c.args.openings.now c.loop-o.o-index c.o-item.result c.loop-o-test.true c.o-item.is c.loop-o.invariant.sets c.requires.paid c.requires.numbered c.requires.won in
    let f = root_large d j T0 T1 old c.loop-o.worst (opening_in T0 x) rest all n.0 had has MOST_ON_PATH a (ap (canon (chess d) j) (sym same) ∙ n.1) in
    too_large _ c.from_residual.result c.in_err-node.field-0.0 _ _ _ _ _ _ _ _ _ _ _ _ _ _ _ _ (λ x h. cc) c.from_residual.ensures.1
    (λ h. f (subst (λ m. (has < size_other m) ⊎ (MOST_ON_PATH < depth_other m)) n.1 h)) c.in_err-node.ensures

pub loop-o-preserved : goal.loop-o-preserved
loop-o-preserved c =
    let d = c.args.d in
    let j = c.args.moves in
    let x = c.o-item.result in
    let T0 = c.args.builder.now.table in
    let T1 = c.loop-o.builder.table in
    let old = map root_of c.loop-o.roots.items in
    let all = map (opening_in T0) c.args.openings.now in
    let k = c.loop-o.o-index in
    let one : suc k ≡ k + 1 = omega arith in
    let rest = map (opening_in T0) (drop (k + 1) c.args.openings.now) in
    let had = c.args.builder.now.left in
    let has = c.loop-o.builder.left in
    let a = subst (λ (n : ℕ). IsRooting d j T0 T1 old c.loop-o.worst (opening_in T0 x ∷ map (opening_in T0) (drop n c.args.openings.now)) all had has MOST_ON_PATH) one
    (subst (λ (ahead : List Opening). IsRooting d j T0 T1 old c.loop-o.worst (map (opening_in T0) ahead) all had has MOST_ON_PATH) (at_item c.args.openings.now k x c.loop-o-test.true c.o-item.is) c.loop-o.invariant) in
    let same = root_same c.args.d c.args.moves c.args.builder.now.table c.loop-o.builder.table c.args.openings.now c.loop-o.o-index c.o-item.result c.loop-o-test.true c.o-item.is c.loop-o.invariant.sets c.requires.paid c.requires.numbered c.requires.won in
    let number = root_least c.args.d c.args.moves c.args.builder.now.table c.loop-o.builder.table c.args.openings.now c.loop-o.o-index c.o-item.result c.loop-o-test.true c.o-item.is c.loop-o.invariant.sets c.requires.paid c.requires.numbered c.requires.won c.win_of-win.result c.win_of-win.ensures.stored in
    let b = c.in_ok-node.ensures in
    let m = tree_of c.in_ok-node.node.value in
    let r : Root = record { opens = x.opens; heard = x.heard; node = c.in_ok-node.node } in
    let pushed : map root_of c.push.new.self.items ≡ old ++ ((x.opens, x.heard), m) ∷ [] = ap (map root_of) c.in_ok-push.ensures.items ∙ map-append root_of c.loop-o.roots.items (r ∷ []) in
    let sizes : c.build.new.self.left + size m ≡ has = ap (λ o. c.build.new.self.left + size_other o) (sym b.0) ∙ b.1 in
    let depths : depth m ≤ MOST_ON_PATH = subst (λ o. depth_other o ≤ MOST_ON_PATH) b.0 b.2 in
    let worst : c.max-worst.result ≡ max c.loop-o.worst (least (chess d) j (set_at T0 x.set)) = c.max-worst.ensures ∙ greater_is c.loop-o.worst c.win_of-win.result.moves ∙ ap (max c.loop-o.worst) (sym number) in
    subst (λ rs. IsRooting d j T0 c.build.new.self.table rs c.max-worst.result rest all had c.build.new.self.left MOST_ON_PATH) (sym pushed)
    (one_root d j T0 T1 old c.loop-o.worst (opening_in T0 x) rest all m had has MOST_ON_PATH a (ap (canon (chess d) j) (sym same) ∙ b.0) c.build.new.self.table c.max-worst.result c.build.new.self.left worst sizes depths b.3)

pub returns : goal.returns
returns c =
    let d = c.args.d in
    let j = c.args.moves in
    let T0 = c.args.builder.now.table in
    let T = c.loop-o.builder.table in
    let had = c.args.builder.now.left in
    let has = c.loop-o.builder.left in
    let all = map (opening_in T0) c.args.openings.now in
    let pushed = map root_of c.loop-o.roots.items in
    let none = drop_all c.loop-o.o-index c.args.openings.now c.loop-o-test.false in
    let a = all_roots d j T0 T pushed c.loop-o.worst all had has MOST_ON_PATH (subst (λ (ahead : List Opening). IsRooting d j T0 T pushed c.loop-o.worst (map (opening_in T0) ahead) all had has MOST_ON_PATH) none c.loop-o.invariant) in
    (record { are = a.0; worst = a.1 }, a.2, a.3, a.4)
