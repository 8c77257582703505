use Rattle.std.proofs.Common.{◌≡◌, ℕ, ◌+◌, suc, List, ◌∷◌, drop, map, refl, sym, subst, ◌∙◌, arith}
use Rattle.std.proofs.lemmas.List.{drop_all}
use Rattle.krieg_solve.proofs.Common.{Opening, opening_in, KeysAt, Keys}
use Rattle.krieg_theory.proofs.Lists.{in_map}
use Rattle.krieg_search.proofs.Checking.{at_item, item_in}
use Rattle.krieg_solve.proofs.Rooting.{greater_is}
use Rattle.krieg_solve.proofs.KeyRoots.{IsKeyed, no_root_keyed, one_root_keyed, all_roots_keyed}
use Rattle.krieg_solve.proofs.keys.keys_at_openings.Goals as goal

pub loop-o-init : goal.loop-o-init
loop-o-init c = λ d n T are.
    let all = map (opening_in T) c.args.openings.now in
    subst (λ pushed. IsKeyed d n pushed 0 all all) (sym c.new-roots.ensures.items) (no_root_keyed d n all)

pub keys_for-keys-requires : goal.keys_for-keys-requires
keys_for-keys-requires c =
    let o = c.o-item.result in
    c.requires o.set (in_map (λ (o : Opening). o.set) c.args.openings.now o (item_in c.args.openings.now c.loop-o.o-index o c.loop-o-test.true c.o-item.is))

pub loop-o-preserved : goal.loop-o-preserved
loop-o-preserved c = λ d n T are.
    let os = c.args.openings.now in
    let i = c.loop-o.o-index in
    let o = c.o-item.result in
    let k = c.keys_for-keys.result.now in
    let r : KeysAt = record { opens = o.opens; heard = o.heard; least = k.least; tries = c.in_ok-tries.tries } in
    let all = map (opening_in T) os in
    let one : suc i ≡ i + 1 = omega arith in
    let a = subst (λ (ys : List Opening). IsKeyed d n c.loop-o.roots.items c.loop-o.worst (map (opening_in T) ys) all) (at_item os i o c.loop-o-test.true c.o-item.is) (c.loop-o.invariant d n T are) in
    subst (λ xs. IsKeyed d n xs c.max-worst.result (map (opening_in T) (drop (i + 1) os)) all) (sym c.in_ok-push.ensures.items)
    (one_root_keyed d n T c.args.found.now k o r c.loop-o.roots.items c.loop-o.worst c.max-worst.result (map (opening_in T) (drop (i + 1) os)) all are c.keys_for-keys.ensures.there c.keys_for-keys.ensures.set refl refl refl c.in_ok-tries.ensures
    (c.max-worst.ensures ∙ greater_is c.loop-o.worst k.least) (subst (λ (m : ℕ). IsKeyed d n c.loop-o.roots.items c.loop-o.worst (opening_in T o ∷ map (opening_in T) (drop m os)) all) one a))

pub returns : goal.returns
returns c d n T are =
    let os = c.args.openings.now in
    let keys : Keys = record { worst = c.loop-o.worst; roots = c.loop-o.roots } in
    let all = map (opening_in T) os in
    all_roots_keyed d n keys all (subst (λ (ahead : List Opening). IsKeyed d n c.loop-o.roots.items c.loop-o.worst (map (opening_in T) ahead) all) (drop_all c.loop-o.o-index os c.loop-o-test.false) (c.loop-o.invariant d n T are))
