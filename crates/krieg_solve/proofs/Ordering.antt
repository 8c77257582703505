-- The keys of a canonical plan ascend, in every node.
use Rattle.std.proofs.Common.{◌≡◌, Bool, true, List, [], ◌∷◌, map, refl, ap, inl, ◌∙◌}
use Rattle.std.proofs.lemmas.Bool.{and_from}
use Rattle.krieg_solve.proofs.Common.{Pos, Move, Side, Dialect, Ascending, Maybe, Nothing, Just, Edges, NoEdges, refused, all_outcomes, keys, class, IsCanon, IsCanonOther, AreCanon, openings, opening_set, all_starts, AreCanonRoots, IsCanonPlan, Key, key_lt, root_lt, chess, outset, NodeTree, PlanTrees, is_ascending, is_ordered, is_ordered_other, are_ordered, is_ordered_plan, are_ordered_roots}
use Rattle.krieg_theory.specs.Tree.{Try, Edge}
use Rattle.krieg_theory.proofs.Ascending.{as_set_ascending}
use Rattle.krieg_game.proofs.KeyLaws.{key_order, root_order}

ascends : {K : Type 0} (lt : K → K → Bool) (ks : List K) → Ascending lt ks → is_ascending lt ks ≡ true
ascends lt [] a = refl
ascends lt (x ∷ []) a = refl
ascends lt (x ∷ y ∷ zs) a = and_from _ _ (a.0 y (inl refl)) (ascends lt (y ∷ zs) a.1)

module _ (d : Dialect) where
  mutual
    node_ordered : (n : NodeTree) (B : List Pos) → IsCanon (chess d) n B → is_ordered n ≡ true
    node_ordered (Try t other es) B c = and_from _ _ (ap (is_ascending key_lt) c.same_keys ∙ ascends key_lt (keys (chess d) B t) (as_set_ascending key_lt key_order (map (λ o. o.0) (all_outcomes (chess d) B t)))) (and_from _ _ (other_ordered other (refused (chess d) B t) c.refused_part) (edges_ordered es B t c.parts))

    other_ordered : (o : Maybe Move Key) (R : List Pos) → IsCanonOther (chess d) o R → is_ordered_other o ≡ true
    other_ordered Nothing R c = refl
    other_ordered (Just n) R c = node_ordered n R c.1

    edges_ordered : (es : Edges Move Key) (B : List Pos) (t : Move) → AreCanon (chess d) es B t → are_ordered es ≡ true
    edges_ordered NoEdges B t c = refl
    edges_ordered (Edge key n es) B t c = and_from _ _ (node_ordered n (class (chess d) B t key) c.0) (edges_ordered es B t c.1)

  module _ (who : Side) where
    roots_ordered : (plan : PlanTrees) (S : List Pos) → AreCanonRoots (chess d) (outset d who) plan S → are_ordered_roots plan ≡ true
    roots_ordered [] S c = refl
    roots_ordered (r ∷ rs) S c = and_from _ _ (node_ordered r.1 (opening_set (chess d) (outset d who) S r.0) c.0) (roots_ordered rs S c.1)

    pub plan_ordered : (plan : PlanTrees) (S : List Pos) → IsCanonPlan (chess d) (outset d who) plan S → is_ordered_plan plan ≡ true
    plan_ordered plan S c = and_from _ _ (ap (is_ascending root_lt) c.same_keys ∙ ascends root_lt (openings (chess d) (outset d who) S) (as_set_ascending root_lt root_order (map (λ o. o.0) (all_starts (chess d) (outset d who) S)))) (roots_ordered plan S c.roots)
