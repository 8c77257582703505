use Rattle.std.proofs.Common.{◌≡◌, ℕ, suc, ◌+◌, List, [], ◌∷◌, ◌++◌, drop, drop-cons, get_or, refl, sym, subst, arith}
use Rattle.std.proofs.lemmas.List.{drop_all}
use Rattle.krieg_solve.proofs.Common.{Pos, set_at, SetKeys, WonBy}
use Rattle.krieg_accounts.proofs.TryOrder.{get_in}
use Rattle.krieg_search.proofs.Searching.{still_within, stopped}
use Rattle.krieg_solve.proofs.KeySets.{AreKeying, all_sets, still_stored, set_covers, set_within, one_set}
use Rattle.krieg_solve.proofs.set_keys.keys_of_sets.Goals as goal

pub win_of-win-requires-clause-within : goal.win_of-win-requires-clause-within
win_of-win-requires-clause-within c =
    let s = get_or c.args.sets.now c.loop-number.number-index 0 in
    still_within s c.loop-number.invariant.keying.searched.more (c.requires.within s (get_in c.args.sets.now c.loop-number.number-index 0 c.loop-number-test.true))

pub win_of-win-requires-clause-won : goal.win_of-win-requires-clause-won
win_of-win-requires-clause-won c =
    let s = get_or c.args.sets.now c.loop-number.number-index 0 in
    let i = get_in c.args.sets.now c.loop-number.number-index 0 c.loop-number-test.true in
    let T0 = c.args.search.now.table in
    let T = c.loop-number.search.table in
    let a = c.loop-number.invariant.keying.searched in
    subst (λ (X : List Pos). WonBy T X c.args.moves) (sym (a.more.same s (c.requires.within s i))) (still_stored c.args.way.d c.args.way.cut c.args.moves T0 T (set_at T0 s) a.stretch.kept (c.requires.won s i))

pub keys_of_set-requires-clause-within : goal.keys_of_set-requires-clause-within
keys_of_set-requires-clause-within c =
    let s = get_or c.args.sets.now c.loop-number.number-index 0 in
    still_within s c.loop-number.invariant.keying.searched.more (c.requires.within s (get_in c.args.sets.now c.loop-number.number-index 0 c.loop-number-test.true))

pub returns-in_err-tries : goal.returns-in_err-tries
returns-in_err-tries c =
    let d = c.args.way.d in
    let cut = c.args.way.cut in
    let sets = c.args.sets.now in
    let k = c.loop-number.number-index in
    let s = get_or sets k 0 in
    let i = get_in sets k 0 c.loop-number-test.true in
    let w = c.requires.within s i in
    let win = c.win_of-win.ensures in
    let a = subst (λ (rest : List ℕ). AreKeying d cut c.args.moves c.args.search.now.table c.loop-number.search.table sets rest c.loop-number.found.items c.args.search.now.units c.loop-number.search.units) (drop-cons sets k 0 c.loop-number-test.true) c.loop-number.invariant.keying in
    let ready = c.loop-number.invariant.ready.0 in
    record { searched = stopped d cut c.from_residual.result c.in_err-tries.field-0.0 _ _ _ (λ x h. cc) c.from_residual.ensures.1 _ _ _ (set_covers d cut c.args.moves a w ready win.some win.at_most win.stored) a.searched (set_within d cut c.args.moves a w ready win.some win.at_most win.stored) c.in_err-tries.ensures.searched }

pub loop-number-preserved : goal.loop-number-preserved
loop-number-preserved c =
    let d = c.args.way.d in
    let cut = c.args.way.cut in
    let sets = c.args.sets.now in
    let k = c.loop-number.number-index in
    let s = get_or sets k 0 in
    let i = get_in sets k 0 c.loop-number-test.true in
    let w = c.requires.within s i in
    let win = c.win_of-win.ensures in
    let T0 = c.args.search.now.table in
    let u0 = c.args.search.now.units in
    let found = c.loop-number.found.items in
    let a = subst (λ (rest : List ℕ). AreKeying d cut c.args.moves T0 c.loop-number.search.table sets rest found u0 c.loop-number.search.units) (drop-cons sets k 0 c.loop-number-test.true) c.loop-number.invariant.keying in
    let ready = c.loop-number.invariant.ready.0 in
    let r = c.in_ok-tries.ensures.searched in
    let x : SetKeys = record { set = s; least = c.win_of-win.result.moves; tries = c.in_ok-tries.tries } in
    let one : suc k ≡ k + 1 = omega arith in
    record {
      keying =
          subst (λ xs. AreKeying d cut c.args.moves T0 c.keys_of_set.new.search.table sets (drop (k + 1) sets) xs u0 c.keys_of_set.new.search.units) (sym c.in_ok-push.ensures.items)
          (subst (λ (n : ℕ). AreKeying d cut c.args.moves T0 c.keys_of_set.new.search.table sets (drop n sets) (found ++ x ∷ []) u0 c.keys_of_set.new.search.units) one
          (one_set d cut c.args.moves a w ready win.some win.at_most win.stored x refl refl r.0 r.1));
      ready = c.in_ok-tries.ensures.ready;
    }

pub returns : goal.returns
returns c = record { searched = all_sets c.args.way.d c.args.way.cut c.args.moves c.loop-number.found.items (drop_all c.loop-number.number-index c.args.sets.now c.loop-number-test.false) c.loop-number.invariant.keying }
