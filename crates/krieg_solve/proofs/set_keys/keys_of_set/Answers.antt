use Rattle.std.proofs.Common.{◌≡◌, List, [], ◌∷◌, ◌++◌, sym, ap, subst, ◌∙◌, arith}
use Rattle.std.proofs.lemmas.List.{drop_all}
use Rattle.krieg_solve.proofs.Common.{Pos, tries, chess, set_at, KeyTry, key_try}
use Rattle.krieg_accounts.proofs.TryWalk.{legal_at}
use Rattle.krieg_game.proofs.ChessLaws.{chess_is_game}
use Rattle.krieg_search.proofs.Searching.{still_within, stopped, wanted_memory, none_after}
use Rattle.krieg_solve.proofs.Keying.{IsKeying, none_keyed, stored_found, at_next, behind_next, first_is_key, look_covers, look_within, next_key, no_next_key, all_keyed}
use Rattle.krieg_solve.proofs.set_keys.keys_of_set.Goals as goal
use Rattle.krieg_solve.proofs.set_keys.keys_of_set.Goals.{then-branch+in_ok-add_key, else-branch}

pub loop-mv-init : goal.loop-mv-init
loop-mv-init c =
    let d = c.args.way.d in
    let cut = c.args.way.cut in
    let T = c.args.search.now.table in
    let B = set_at T c.args.set in
    let ts = c.deref-mv-items.result.now in
    let are = c.deref-mv-items.ensures.value ∙ c.in_ok-all.ensures d ∙ ap (tries (chess d)) c.of.ensures in
    record {
      keying =
          subst (λ (ks : List KeyTry). IsKeying d cut B c.args.win.moves c.args.win.mv T T ts ts ks c.args.search.now.units c.args.search.now.units) (sym c.new-keys.ensures.items)
          (none_keyed d cut B c.args.win.moves c.args.win.mv T ts c.args.search.now.units c.requires.ready.0 (stored_found d cut B c.args.win.moves c.args.win.mv T ts c.requires.ready.0 are c.requires.won));
      ready = c.requires.ready;
    }

pub returns-in_err-opened-clause-searched : goal.returns-in_err-opened-clause-searched
returns-in_err-opened-clause-searched c = wanted_memory c.args.way.d c.args.way.cut c.from_residual.result _ _ _ _ _ (λ x h. h) c.from_residual.ensures.1 (omega arith)

pub returns-in_err-opened-clause-ready : goal.returns-in_err-opened-clause-ready
returns-in_err-opened-clause-ready c = none_after _ _ c.from_residual.result c.from_residual.ensures.1

pub returns-in_err-all-clause-searched : goal.returns-in_err-all-clause-searched
returns-in_err-all-clause-searched c = wanted_memory c.args.way.d c.args.way.cut c.from_residual-in_err-all.result _ _ _ _ _ (λ x h. h) c.from_residual-in_err-all.ensures.1 (omega arith)

pub returns-in_err-all-clause-ready : goal.returns-in_err-all-clause-ready
returns-in_err-all-clause-ready c = none_after _ _ c.from_residual-in_err-all.result c.from_residual-in_err-all.ensures.1

pub is_key-requires-clause-ready : goal.is_key-requires-clause-ready
is_key-requires-clause-ready c = c.loop-mv.invariant.ready

pub is_key-requires-clause-within : goal.is_key-requires-clause-within
is_key-requires-clause-within c = still_within c.args.set c.loop-mv.invariant.keying.searched.more c.requires.within

pub is_key-requires-clause-legal : goal.is_key-requires-clause-legal
is_key-requires-clause-legal c =
    let d = c.args.way.d in
    let B = set_at c.args.search.now.table c.args.set in
    let ts = c.deref-mv-items.result.now in
    let are = c.deref-mv-items.ensures.value ∙ c.in_ok-all.ensures d ∙ ap (tries (chess d)) c.of.ensures in
    let same = c.loop-mv.invariant.keying.searched.more.same c.args.set c.requires.within in
    rw (sym same) at (legal_at (chess d) (chess_is_game d) B c.args.win.moves ts are c.loop-mv.mv-index c.mv-item.result c.loop-mv-test.true c.mv-item.is)

pub is_key-requires-clause-first : goal.is_key-requires-clause-first
is_key-requires-clause-first c =
    let d = c.args.way.d in
    let cut = c.args.way.cut in
    let B = set_at c.args.search.now.table c.args.set in
    let j = c.args.win.moves in
    let m = c.args.win.mv in
    let keys = c.loop-mv.keys.items in
    let a = at_next d cut B j m keys c.loop-mv-test.true c.mv-item.is c.loop-mv.invariant.keying in
    rw (sym (a.searched.more.same c.args.set c.requires.within)) at (first_is_key d cut B j m keys a)

pub returns-in_err-is_key-clause-searched : goal.returns-in_err-is_key-clause-searched
returns-in_err-is_key-clause-searched c =
    let d = c.args.way.d in
    let cut = c.args.way.cut in
    let B = set_at c.args.search.now.table c.args.set in
    let j = c.args.win.moves in
    let m = c.args.win.mv in
    let ts = c.deref-mv-items.result.now in
    let keys = c.loop-mv.keys.items in
    let a = at_next d cut B j m keys c.loop-mv-test.true c.mv-item.is c.loop-mv.invariant.keying in
    let are = c.deref-mv-items.ensures.value ∙ c.in_ok-all.ensures d ∙ ap (tries (chess d)) c.of.ensures in
    let legal = legal_at (chess d) (chess_is_game d) B j ts are c.loop-mv.mv-index c.mv-item.result c.loop-mv-test.true c.mv-item.is in
    stopped d cut c.from_residual-in_err-is_key.result c.in_err-is_key.field-0.0 _ _ _ (λ x h. cc) c.from_residual-in_err-is_key.ensures.1 _ _ _ (look_covers d cut B j m keys legal a) a.searched (look_within d cut B j m keys legal a are)
    (rw (a.searched.more.same c.args.set c.requires.within) at c.in_err-is_key.ensures.searched)

pub returns-in_err-is_key-clause-ready : goal.returns-in_err-is_key-clause-ready
returns-in_err-is_key-clause-ready c = none_after _ _ c.from_residual-in_err-is_key.result c.from_residual-in_err-is_key.ensures.1

pub add_key-requires-clause-within : goal.add_key-requires-clause-within
add_key-requires-clause-within c = still_within c.args.set c.in_ok-is_key.ensures.searched.1.more (still_within c.args.set c.loop-mv.invariant.keying.searched.more c.requires.within)

pub add_key-requires-clause-opened : goal.add_key-requires-clause-opened
add_key-requires-clause-opened c =
    let more = c.loop-mv.invariant.keying.searched.more in
    let same = c.in_ok-is_key.ensures.searched.1.more.same c.args.set (still_within c.args.set more c.requires.within) ∙ more.same c.args.set c.requires.within in
    rw (sym same) at c.in_ok-opened.ensures

pub returns-in_err-add_key-clause-searched : goal.returns-in_err-add_key-clause-searched
returns-in_err-add_key-clause-searched c = wanted_memory c.args.way.d c.args.way.cut c.from_residual-in_err-add_key.result _ _ _ _ _ (λ x h. h) c.from_residual-in_err-add_key.ensures.1 (let a = c.loop-mv.invariant.keying.searched.stretch.fewer in let b = c.in_ok-is_key.ensures.searched.1.stretch.fewer in omega arith)

pub returns-in_err-add_key-clause-ready : goal.returns-in_err-add_key-clause-ready
returns-in_err-add_key-clause-ready c = none_after _ _ c.from_residual-in_err-add_key.result c.from_residual-in_err-add_key.ensures.1

pub loop-mv-preserved : goal.loop-mv-preserved
loop-mv-preserved c =
    let d = c.args.way.d in
    let cut = c.args.way.cut in
    let B = set_at c.args.search.now.table c.args.set in
    let j = c.args.win.moves in
    let m = c.args.win.mv in
    let ts = c.deref-mv-items.result.now in
    let keys = c.loop-mv.keys.items in
    let a = at_next d cut B j m keys c.loop-mv-test.true c.mv-item.is c.loop-mv.invariant.keying in
    let are = c.deref-mv-items.ensures.value ∙ c.in_ok-all.ensures d ∙ ap (tries (chess d)) c.of.ensures in
    let legal = legal_at (chess d) (chess_is_game d) B j ts are c.loop-mv.mv-index c.mv-item.result c.loop-mv-test.true c.mv-item.is in
    let k = c.loop-mv.mv-index in
    let t = c.mv-item.result in
    let same = a.searched.more.same c.args.set c.requires.within in
    let v = rw same at c.in_ok-is_key.ensures.searched in
    elim c.if-branch.branch [
      | then-branch+in_ok-add_key w ↦
          let more = v.1.more.same c.args.set (still_within c.args.set a.searched.more c.requires.within) ∙ same in
          let added : w.add_key.new.keys.items ≡ keys ++ key_try d B t ∷ [] = w.in_ok-add_key.ensures d ∙ ap (λ (X : List Pos). keys ++ key_try d X t ∷ []) more in
          rw (w.keys-is, added) (record { keying = behind_next d cut B j m k (keys ++ key_try d B t ∷ []) (next_key d cut B j m keys legal a v.1 (sym v.0 ∙ w.if-branch.true)); ready = c.in_ok-is_key.ensures.ready })
      | else-branch w ↦ rw w.keys-is (record { keying = behind_next d cut B j m k keys (no_next_key d cut B j m keys legal a v.1 (sym v.0 ∙ w.if-branch.false)); ready = c.in_ok-is_key.ensures.ready })
    ]

pub returns-clause-searched : goal.returns-clause-searched
returns-clause-searched c =
    let d = c.args.way.d in
    let B = set_at c.args.search.now.table c.args.set in
    let ts = c.deref-mv-items.result.now in
    let are = c.deref-mv-items.ensures.value ∙ c.in_ok-all.ensures d ∙ ap (tries (chess d)) c.of.ensures in
    all_keyed d c.args.way.cut B c.args.win.moves c.args.win.mv c.loop-mv.keys.items (drop_all c.loop-mv.mv-index ts c.loop-mv-test.false) are c.loop-mv.invariant.keying

pub returns-clause-ready : goal.returns-clause-ready
returns-clause-ready c = c.loop-mv.invariant.ready
