use Rattle.std.proofs.Common.{◌≡◌, inr, sym, ap, subst, ◌∙◌, arith, List, [], ◌∷◌, ◌++◌, map, length}
use Rattle.std.specs.Vec.Iter.{into_iter_items}
use Rattle.std.proofs.lemmas.List.{map-append}
use Rattle.krieg_board.specs.Pos.{Pos}
use Rattle.krieg_theory.specs.Sets.{In}
use Rattle.krieg_theory.specs.Computed.{canon}
use Rattle.krieg_game.specs.Chess.{chess}
use Rattle.krieg_game.proofs.ChessLaws.{chess_is_game}
use Rattle.krieg_strategy.specs.Roots.{root_of}
use Rattle.krieg_strategy.specs.declared.root.StrategyRoot.{StrategyRoot}
use Rattle.krieg_strategy.specs.declared.limits.TheConstants.{MOST_NODES, MOST_EDGES}
use Rattle.krieg_search.specs.Openings.{opening_in}
use Rattle.krieg_search.proofs.Adding.{adds_then}
use Rattle.krieg_share.specs.Sharing.{number_of, share_other}
use Rattle.krieg_share.specs.Parts.{IsOver}
use Rattle.krieg_share.specs.Sharers.{shared_by, sets_with_nodes}
use Rattle.krieg_share.proofs.Parts.{AreSharing, one_set, set_over}
use Rattle.krieg_share.proofs.Sharers.{too_many}
use Rattle.krieg_share.proofs.Rooted.{root_within, root_same, root_won}
use Rattle.krieg_share.proofs.roots.share_openings.Goals as goal

pub share-requires-clause-within : goal.share-requires-clause-within
share-requires-clause-within c =
    root_within c.args.moves c.args.sharer.now.table c.loop-o.sharer.table c.args.openings.items (into_iter_items c.loop-o.o-iterator) (into_iter_items c.next.new.self) c.in-Some.o c.in-Some.ensures.steps.0 c.loop-o.invariant.inside c.loop-o.invariant.sets c.requires.numbered c.requires.won

pub share-requires-clause-won : goal.share-requires-clause-won
share-requires-clause-won c =
    root_won c.args.moves c.args.sharer.now.table c.loop-o.sharer.table c.args.openings.items (into_iter_items c.loop-o.o-iterator) (into_iter_items c.next.new.self) c.in-Some.o c.in-Some.ensures.steps.0 c.loop-o.invariant.inside c.loop-o.invariant.sets c.requires.numbered c.requires.won

pub returns-in_err-to : goal.returns-in_err-to
returns-in_err-to c =
    let d = c.args.way.d in
    let j = c.args.moves in
    let x = c.in-Some.o in
    let T0 = c.args.sharer.now.table in
    let s = c.loop-o.sharer in
    let old = map root_of c.loop-o.roots.items in
    let all = map (opening_in T0) c.args.openings.items in
    let rest = map (opening_in T0) (into_iter_items c.next.new.self) in
    let a = subst (λ ahead. AreSharing (chess d) (chess_is_game d) j (shared_by d c.args.sharer.now) (shared_by d s) old ahead all) (ap (map (opening_in T0)) c.in-Some.ensures.steps.0) c.loop-o.invariant.sharing in
    let same = root_same j T0 s.table c.args.openings.items (into_iter_items c.loop-o.o-iterator) (into_iter_items c.next.new.self) x c.in-Some.ensures.steps.0 c.loop-o.invariant.inside c.loop-o.invariant.sets c.requires.numbered c.requires.won in
    too_many d _ c.from_residual.result c.in_err-to.field-0.0 _ _ _ _ _ _ _ _ (λ x h. cc) c.from_residual.ensures.1
    (λ o. set_over (chess d) (chess_is_game d) j (shared_by d c.args.sharer.now) (shared_by d s) (shared_by d s) old (opening_in T0 x) rest all a MOST_NODES MOST_EDGES
    (subst (λ (X : List Pos). IsOver (chess d) MOST_NODES MOST_EDGES (share_other (chess d) (canon (chess d) j X) X (shared_by d s))) same o)) c.in_err-to.ensures

pub loop-o-preserved : goal.loop-o-preserved
loop-o-preserved c =
    let d = c.args.way.d in
    let j = c.args.moves in
    let x = c.in-Some.o in
    let T0 = c.args.sharer.now.table in
    let s = c.loop-o.sharer in
    let s3 = c.share.new.self in
    let old = map root_of c.loop-o.roots.items in
    let all = map (opening_in T0) c.args.openings.items in
    let rest = map (opening_in T0) (into_iter_items c.next.new.self) in
    let steps = c.in-Some.ensures.steps in
    let a = subst (λ ahead. AreSharing (chess d) (chess_is_game d) j (shared_by d c.args.sharer.now) (shared_by d s) old ahead all) (ap (map (opening_in T0)) steps.0) c.loop-o.invariant.sharing in
    let same = root_same j T0 s.table c.args.openings.items (into_iter_items c.loop-o.o-iterator) (into_iter_items c.next.new.self) x steps.0 c.loop-o.invariant.inside c.loop-o.invariant.sets c.requires.numbered c.requires.won in
    let e = c.in_ok-to.ensures in
    let r : StrategyRoot = record { opens = x.opens; heard = x.heard; to = c.in_ok-to.to } in
    let pushed : map root_of c.push.new.self.items ≡ old ++ ((x.opens, x.heard), c.in_ok-to.to) ∷ [] = ap (map root_of) c.in_ok-push.ensures.items ∙ map-append root_of c.loop-o.roots.items (r ∷ []) in
    record {
      sharing =
          subst (λ rs. AreSharing (chess d) (chess_is_game d) j (shared_by d c.args.sharer.now) (shared_by d s3) rs rest all) (sym pushed)
          (one_set (chess d) (chess_is_game d) j (shared_by d c.args.sharer.now) (shared_by d s) (shared_by d s3) old (opening_in T0 x) rest all a
          (e.3 ∙ ap (λ (X : List Pos). share_other (chess d) (canon (chess d) j X) X (shared_by d s)) same) c.in_ok-to.to
          (subst (λ (X : List Pos). In X (sets_with_nodes s3)) same e.0.there) (e.0.is ∙ ap (λ (X : List Pos). number_of (chess d) X (sets_with_nodes s3)) same));
      work = e.1;
      sets = adds_then T0 s.table s3.table c.loop-o.invariant.sets e.2;
      inside = λ o k. c.loop-o.invariant.inside o (subst (λ ys. In o ys) (sym steps.0) (inr k));
      counted = omega (arith, c.loop-o.invariant.counted, steps.1, ap length steps.0);
    }
