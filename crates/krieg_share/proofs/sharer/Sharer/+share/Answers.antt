use Rattle.std.proofs.Common.{◌≡◌, ◌-◌, false, List, [], ◌∷◌, ◌++◌, inl, inr, length, map, refl, sym, subst, ap, ◌∙◌, arith, Some, None}
use Rattle.std.specs.Vec.Iter.{into_iter_items}
use Rattle.std.proofs.lemmas.Bool.{cond-false}
use Rattle.std.proofs.lemmas.List.{map-append}
use Rattle.krieg_board.specs.Pos.{Pos}
use Rattle.krieg_theory.specs.Sets.{In, is_nil}
use Rattle.krieg_theory.specs.Tree.{Nothing}
use Rattle.krieg_theory.specs.Computed.{canon}
use Rattle.krieg_accounts.specs.Laws.{refused_canon}
use Rattle.krieg_game.specs.Chess.{chess}
use Rattle.krieg_game.specs.Classes.{class_pair}
use Rattle.krieg_game.proofs.ChessLaws.{chess_is_game}
use Rattle.krieg_table.specs.SetRows.{set_at}
use Rattle.krieg_strategy.specs.Edges.{edge_of}
use Rattle.krieg_strategy.specs.declared.edge.StrategyEdge.{StrategyEdge}
use Rattle.krieg_strategy.specs.declared.limits.TheConstants.{MOST_NODES, MOST_EDGES}
use Rattle.krieg_search.specs.Stretches.{sets_of}
use Rattle.krieg_search.proofs.Adding.{adds_then, adds_number}
use Rattle.krieg_solve.proofs.Building.{still_won, won_at, paid_by, classes_won, refused_is_won}
use Rattle.krieg_share.specs.declared.sharer.Sharer.{Sharer}
use Rattle.krieg_share.specs.Sharing.{share_other, number_of}
use Rattle.krieg_share.specs.Parts.{IsOver}
use Rattle.krieg_share.specs.Sharers.{shared_by, sets_with_nodes}
use Rattle.krieg_share.proofs.Parts.{AreSharing, one_set, set_over}
use Rattle.krieg_share.proofs.Sharers.{some_is, too_many, still_shared, still_sharing, known_answer, has_none, refused_over, classes_over, not_yet, lower_numbers, keys_ascend, placing}
use Rattle.krieg_share.proofs.sharer.Sharer.+share.Goals as goal

pub share-returns-in-Some : goal.share-returns-in-Some
share-returns-in-Some t c = known_answer c.args.way.d c.args.self.now c.requires.sharing c.args.set c.args.moves c.requires.within c.requires.won c.in-Some.number (c.in-Some.ensures c.args.way.d)

pub share-parts_at-requires-clause-paid : goal.share-parts_at-requires-clause-paid
share-parts_at-requires-clause-paid t c =
    let n = c.win_of-win.ensures in
    paid_by c.args.way.d c.args.self.now.table (set_at c.args.self.now.table c.args.set) c.args.moves c.win_of-win.result.moves c.win_of-win.result.mv c.requires.sharing.paid n.some n.at_most n.stored

pub share-share_refused-requires : goal.share-share_refused-requires
share-share_refused-requires t c =
    let n = c.win_of-win.ensures in
    let h = c.in-Some-checked_sub.ensures in
    (omega arith, (c.requires.sharing, refused_is_won c.args.way.d c.args.self.now.table (set_at c.args.self.now.table c.args.set) c.args.moves c.win_of-win.result.moves c.win_of-win.result.mv c.requires.sharing.paid n.some n.at_most n.stored c.in_ok-refused.field-0 c.in_ok-refused.ensures))

pub share-returns-in_err-no : goal.share-returns-in_err-no
share-returns-in_err-no t c =
    let d = c.args.way.d in
    let n = c.win_of-win.ensures in
    let new = has_none d c.args.self.now c.requires.sharing c.args.set c.args.moves c.requires.within c.number_at.result c.in_default.not-Some (c.number_at.ensures d) in
    too_many d _ c.from_residual-in_err-no.result c.in_err-no.field-0.0 _ _ _ _ _ _ _ _ (λ x h. cc) c.from_residual-in_err-no.ensures.1
    (refused_over d c.args.self.now c.requires.sharing c.args.set c.args.moves c.requires.within new c.win_of-win.result.moves c.win_of-win.result.mv n.some n.at_most n.stored c.in_ok-refused.field-0 c.in_ok-refused.ensures) c.in_err-no.ensures

pub share-share_classes-requires : goal.share-share_classes-requires
share-share_classes-requires t c =
    let d = c.args.way.d in
    let n = c.win_of-win.ensures in
    let h = c.in-Some-checked_sub.ensures in
    let T = c.args.self.now.table in
    let T1 = c.share_refused.new.self.table in
    let o = c.in_ok-no.ensures in
    (omega arith, (o.1, λ C i. still_won T T1 C (c.win_of-win.result.moves - 1) o.2 (classes_won d T (set_at T c.args.set) c.args.moves c.win_of-win.result.moves c.win_of-win.result.mv c.requires.sharing.paid n.some n.at_most n.stored c.in_ok-refused.field-0 c.in_ok-refused.ensures C i)))

pub share-returns-in_err-edges : goal.share-returns-in_err-edges
share-returns-in_err-edges t c =
    let d = c.args.way.d in
    let n = c.win_of-win.ensures in
    let new = has_none d c.args.self.now c.requires.sharing c.args.set c.args.moves c.requires.within c.number_at.result c.in_default.not-Some (c.number_at.ensures d) in
    let o = c.in_ok-no.ensures in
    too_many d _ c.from_residual-in_err-edges.result c.in_err-edges.field-0.0 _ _ _ _ _ _ _ _ (λ x h. cc) c.from_residual-in_err-edges.ensures.1
    (classes_over d c.args.self.now c.requires.sharing c.args.set c.args.moves c.requires.within new c.win_of-win.result.moves c.win_of-win.result.mv n.some n.at_most n.stored c.in_ok-refused.field-0 c.in_ok-refused.ensures c.share_refused.new.self o.3) c.in_err-edges.ensures

pub share-place-requires-clause-new : goal.share-place-requires-clause-new
share-place-requires-clause-new t c =
    let d = c.args.way.d in
    let n = c.win_of-win.ensures in
    let new = has_none d c.args.self.now c.requires.sharing c.args.set c.args.moves c.requires.within c.number_at.result c.in_default.not-Some (c.number_at.ensures d) in
    let o = c.in_ok-no.ensures in
    let e = c.in_ok-edges.ensures in
    not_yet d c.args.self.now c.requires.sharing c.args.set c.args.moves c.requires.within new c.win_of-win.result.moves c.win_of-win.result.mv n.some n.at_most n.stored c.in_ok-refused.field-0 c.in_ok-refused.ensures c.share_refused.new.self o.3
    c.share_classes.new.self e.1 (adds_then c.args.self.now.table c.share_refused.new.self.table c.share_classes.new.self.table o.2 e.2) e.3 c.know_once.ensures.sets

pub share-place-requires-clause-below : goal.share-place-requires-clause-below
share-place-requires-clause-below t c =
    let d = c.args.way.d in
    let n = c.win_of-win.ensures in
    let new = has_none d c.args.self.now c.requires.sharing c.args.set c.args.moves c.requires.within c.number_at.result c.in_default.not-Some (c.number_at.ensures d) in
    let o = c.in_ok-no.ensures in
    let e = c.in_ok-edges.ensures in
    lower_numbers d c.args.self.now c.requires.sharing c.args.set c.args.moves c.requires.within new c.win_of-win.result.moves c.win_of-win.result.mv n.some n.at_most n.stored c.in_ok-refused.field-0 c.in_ok-refused.ensures c.share_refused.new.self o.3
    c.share_classes.new.self e.1 (adds_then c.args.self.now.table c.share_refused.new.self.table c.share_classes.new.self.table o.2 e.2) e.3 c.in_ok-no.no c.deref.result.now o.0 (ap (map edge_of) c.deref.ensures.value ∙ e.0)

pub share-place-requires-clause-order : goal.share-place-requires-clause-order
share-place-requires-clause-order t c =
    let d = c.args.way.d in
    let n = c.win_of-win.ensures in
    let new = has_none d c.args.self.now c.requires.sharing c.args.set c.args.moves c.requires.within c.number_at.result c.in_default.not-Some (c.number_at.ensures d) in
    let o = c.in_ok-no.ensures in
    let e = c.in_ok-edges.ensures in
    keys_ascend d c.args.self.now c.requires.sharing c.args.set c.args.moves c.requires.within new c.win_of-win.result.moves c.win_of-win.result.mv n.some n.at_most n.stored c.in_ok-refused.field-0 c.in_ok-refused.ensures c.share_refused.new.self o.3
    c.share_classes.new.self e.1 (adds_then c.args.self.now.table c.share_refused.new.self.table c.share_classes.new.self.table o.2 e.2) e.3 c.in_ok-no.no c.deref.result.now o.0 (ap (map edge_of) c.deref.ensures.value ∙ e.0)

pub share-returns : goal.share-returns
share-returns t c =
    let d = c.args.way.d in
    let n = c.win_of-win.ensures in
    let new = has_none d c.args.self.now c.requires.sharing c.args.set c.args.moves c.requires.within c.number_at.result c.in_default.not-Some (c.number_at.ensures d) in
    let o = c.in_ok-no.ensures in
    let e = c.in_ok-edges.ensures in
    let k = c.place.ensures in
    placing d c.args.self.now c.requires.sharing c.args.set c.args.moves c.requires.within new c.win_of-win.result.moves c.win_of-win.result.mv n.some n.at_most n.stored c.in_ok-refused.field-0 c.in_ok-refused.ensures c.share_refused.new.self o.3
    c.share_classes.new.self e.1 (adds_then c.args.self.now.table c.share_refused.new.self.table c.share_classes.new.self.table o.2 e.2) e.3 c.in_ok-no.no c.deref.result.now o.0 (ap (map edge_of) c.deref.ensures.value ∙ e.0)
    c.place.result c.place.new.self k.table k.number k.placed k.nodes k.edges k.few_nodes k.few_edges k.large k.not_spent

pub share_classes-share-requires : goal.share_classes-share-requires
share_classes-share-requires t c =
    let j = c.args.moves in
    let d = c.args.way.d in
    let s = c.loop-class.self in
    let T0 = c.args.self.now.table in
    let T2 = c.number_of.new.table in
    let x = c.in-Some.class in
    let i = c.in_ok-set.ensures in
    let s2 : Sharer = record { table = T2; placed = s.placed; nodes = s.nodes; edges = s.edges } in
    let more = adds_number s.table T2 x.belief c.in_ok-set.set i in
    let inside = c.loop-class.invariant.inside x.belief (subst (λ ys. In x.belief (sets_of ys)) (sym c.in-Some.ensures.steps.0) (inl refl)) in (
      omega arith,
      (
        i.interned.within,
        (
          still_sharing d s s2 more refl refl refl c.loop-class.invariant.work,
          won_at T2 x.belief (set_at T2 c.in_ok-set.set) j i.interned.at (still_won T0 T2 x.belief j (adds_then T0 s.table T2 c.loop-class.invariant.sets more) (c.requires.won x.belief inside)),
        ),
      ),
    )

pub share_classes-returns-in_err-to : goal.share_classes-returns-in_err-to
share_classes-returns-in_err-to t c =
    let j = c.args.moves in
    let d = c.args.way.d in
    let s = c.loop-class.self in
    let T2 = c.number_of.new.table in
    let x = c.in-Some.class in
    let i = c.in_ok-set.ensures in
    let s2 : Sharer = record { table = T2; placed = s.placed; nodes = s.nodes; edges = s.edges } in
    let more = adds_number s.table T2 x.belief c.in_ok-set.set i in
    let same = still_shared d s s2 more refl refl refl c.loop-class.invariant.work in
    let all = map class_pair c.args.classes.items in
    let rest = map class_pair (into_iter_items c.next.new.self) in
    let a = subst (λ ahead. AreSharing (chess d) (chess_is_game d) j (shared_by d c.args.self.now) (shared_by d s) (map edge_of c.loop-class.edges.items) ahead all) (ap (map class_pair) c.in-Some.ensures.steps.0) c.loop-class.invariant.sharing in
    too_many d _ c.from_residual-in_err-to.result c.in_err-to.field-0.0 _ _ _ _ _ _ _ _ (λ x h. cc) c.from_residual-in_err-to.ensures.1
    (λ o. set_over (chess d) (chess_is_game d) j (shared_by d c.args.self.now) (shared_by d s) (shared_by d s) (map edge_of c.loop-class.edges.items) (class_pair x) rest all a MOST_NODES MOST_EDGES
    (subst (λ u. IsOver (chess d) MOST_NODES MOST_EDGES u) ((λ z. share_other (chess d) (canon (chess d) j (i.interned.at z)) (i.interned.at z) (same z))) o)) c.in_err-to.ensures

pub share_classes-loop-class-preserved : goal.share_classes-loop-class-preserved
share_classes-loop-class-preserved t c =
    let j = c.args.moves in
    let d = c.args.way.d in
    let s = c.loop-class.self in
    let T0 = c.args.self.now.table in
    let T2 = c.number_of.new.table in
    let x = c.in-Some.class in
    let i = c.in_ok-set.ensures in
    let s2 : Sharer = record { table = T2; placed = s.placed; nodes = s.nodes; edges = s.edges } in
    let s3 = c.share.new.self in
    let more = adds_number s.table T2 x.belief c.in_ok-set.set i in
    let same = still_shared d s s2 more refl refl refl c.loop-class.invariant.work in
    let all = map class_pair c.args.classes.items in
    let rest = map class_pair (into_iter_items c.next.new.self) in
    let steps = c.in-Some.ensures.steps in
    let a = subst (λ ahead. AreSharing (chess d) (chess_is_game d) j (shared_by d c.args.self.now) (shared_by d s) (map edge_of c.loop-class.edges.items) ahead all) (ap (map class_pair) steps.0) c.loop-class.invariant.sharing in
    let e = c.in_ok-to.ensures in
    let w : StrategyEdge = record { own = x.own; reply = x.reply; to = c.in_ok-to.to } in
    let old = c.loop-class.edges.items in
    let pushed : map edge_of c.push.new.self.items ≡ map edge_of old ++ ((x.own, x.reply), c.in_ok-to.to) ∷ [] = ap (map edge_of) c.in_ok-push.ensures.items ∙ map-append edge_of old (w ∷ []) in
    record {
      sharing =
          subst (λ es. AreSharing (chess d) (chess_is_game d) j (shared_by d c.args.self.now) (shared_by d s3) es rest all) (sym pushed)
          (one_set (chess d) (chess_is_game d) j (shared_by d c.args.self.now) (shared_by d s) (shared_by d s3) (map edge_of old) (class_pair x) rest all a
          (e.3 ∙ (λ z. share_other (chess d) (canon (chess d) j (i.interned.at z)) (i.interned.at z) (same z))) c.in_ok-to.to
          (subst (λ (X : List Pos). In X (sets_with_nodes s3)) i.interned.at e.0.there) (e.0.is ∙ ap (λ (X : List Pos). number_of (chess d) X (sets_with_nodes s3)) i.interned.at));
      work = e.1;
      sets = adds_then T0 s.table s3.table c.loop-class.invariant.sets (adds_then s.table T2 s3.table more e.2);
      inside = λ C k. c.loop-class.invariant.inside C (subst (λ ys. In C (sets_of ys)) (sym steps.0) (inr k));
      counted = omega (arith, c.loop-class.invariant.counted, steps.1, ap length steps.0);
    }

pub share_refused-share-requires : goal.share_refused-share-requires
share_refused-share-requires t c =
    let d = c.args.way.d in
    let j = c.args.moves in
    let R = c.args.refused in
    let s = c.args.self.now in
    let T2 = c.number_of.new.table in
    let i = c.in_ok-set.ensures in
    let some : is_nil R ≡ false = some_is R c.is_empty.result c.is_empty.ensures c.if-is_empty.false in
    let s2 : Sharer = record { table = T2; placed = s.placed; nodes = s.nodes; edges = s.edges } in
    let more = adds_number s.table T2 R c.in_ok-set.set i in
    (omega arith, (i.interned.within, (still_sharing d s s2 more refl refl refl c.requires.sharing, won_at T2 R (set_at T2 c.in_ok-set.set) j i.interned.at (still_won s.table T2 R j more (c.requires.won some)))))

pub share_refused-returns-in_err-share : goal.share_refused-returns-in_err-share
share_refused-returns-in_err-share t c =
    let d = c.args.way.d in
    let j = c.args.moves in
    let R = c.args.refused in
    let s = c.args.self.now in
    let T2 = c.number_of.new.table in
    let i = c.in_ok-set.ensures in
    let some : is_nil R ≡ false = some_is R c.is_empty.result c.is_empty.ensures c.if-is_empty.false in
    let s2 : Sharer = record { table = T2; placed = s.placed; nodes = s.nodes; edges = s.edges } in
    let more = adds_number s.table T2 R c.in_ok-set.set i in
    let same = still_shared d s s2 more refl refl refl c.requires.sharing in
    let part : refused_canon (chess d) j R ≡ canon (chess d) j R = cond-false (is_nil R) Nothing (canon (chess d) j R) some in
    let aim : share_other (chess d) (canon (chess d) j (set_at T2 c.in_ok-set.set)) (set_at T2 c.in_ok-set.set) (shared_by d s2) ≡ share_other (chess d) (refused_canon (chess d) j R) R (shared_by d s) =
    (λ z. share_other (chess d) (canon (chess d) j (i.interned.at z)) (i.interned.at z) (same z)) ∙ ap (λ m. share_other (chess d) m R (shared_by d s)) (sym part) in
    too_many d _ c.from_residual-in_err-share.result c.in_err-share.field-0.0 _ _ _ _ _ _ _ _ (λ x h. cc) c.from_residual-in_err-share.ensures.1
    (λ o. subst (λ u. IsOver (chess d) MOST_NODES MOST_EDGES u) aim o) c.in_err-share.ensures

pub share_refused-returns : goal.share_refused-returns
share_refused-returns t c =
    let d = c.args.way.d in
    let j = c.args.moves in
    let R = c.args.refused in
    let s = c.args.self.now in
    let T2 = c.number_of.new.table in
    let i = c.in_ok-set.ensures in
    let some : is_nil R ≡ false = some_is R c.is_empty.result c.is_empty.ensures c.if-is_empty.false in
    let s2 : Sharer = record { table = T2; placed = s.placed; nodes = s.nodes; edges = s.edges } in
    let s3 = c.share.new.self in
    let more = adds_number s.table T2 R c.in_ok-set.set i in
    let same = still_shared d s s2 more refl refl refl c.requires.sharing in
    let part : refused_canon (chess d) j R ≡ canon (chess d) j R = cond-false (is_nil R) Nothing (canon (chess d) j R) some in
    let aim : share_other (chess d) (canon (chess d) j (set_at T2 c.in_ok-set.set)) (set_at T2 c.in_ok-set.set) (shared_by d s2) ≡ share_other (chess d) (refused_canon (chess d) j R) R (shared_by d s) =
    (λ z. share_other (chess d) (canon (chess d) j (i.interned.at z)) (i.interned.at z) (same z)) ∙ ap (λ m. share_other (chess d) m R (shared_by d s)) (sym part) in
    let e = c.in_ok-share.ensures in
    let Xs = sets_with_nodes s3 in (
      ap Some (e.0.is ∙ ap (λ (X : List Pos). number_of (chess d) X Xs) i.interned.at) ∙ sym (cond-false (is_nil R) None (Some (number_of (chess d) R Xs)) some),
      e.1,
      adds_then s.table T2 s3.table more e.2,
      e.3 ∙ aim,
    )
