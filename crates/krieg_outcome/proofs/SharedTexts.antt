-- The best plan as a strategy can be written, and what a search for it tells.
use Rattle.std.proofs.Common.{◌≡◌, ℕ, ◌<◌, ◌≤◌, Bool, true, false, List, [], ◌∷◌, map, length, is_some, Err, sym, ap, subst, ◌∙◌, arith}
use Rattle.std.specs.Prelude.{if◌then◌else◌}
use Rattle.std.specs.List.{All}
use Rattle.std.proofs.lemmas.List.{length-map}
use Rattle.std.proofs.lemmas.List.Elements.{All-nil, All-cons, All-push}
use Rattle.krieg_outcome.proofs.Common.{Pos, IsValid, Side, Move, MOST_LISTED, Dialect, HaveOneHand, is_nil, refused, class, edge_keys, Try, Maybe, Nothing, Just, Edges, NoEdges, Edge, opening_set, Key, RootKey, chess, outset, NodeTree, PlanTrees, IsToldKey, IsToldOther, AreTold, IsToldRoot, AreToldRoots, AreRootsOf, waits, IsBestStrategy, IsStrategyAnswer, TakesAsPlan, SearchStop, of_search, Decides, strategy_of, SharedBy}
use Rattle.krieg_planfile.specs.NodeText.{IsTold}
use Rattle.krieg_strategy.specs.Nodes.{Node}
use Rattle.krieg_strategy.specs.Roots.{root_of}
use Rattle.krieg_strategy.specs.declared.root.StrategyRoot.{StrategyRoot}
use Rattle.krieg_strategy.specs.Unfolded.{unfold_plan}
use Rattle.krieg_strategy.specs.WellFormed.{IsStrategy}
use Rattle.krieg_strategyfile.specs.Writable.{CanBeWritten, IsToldNode}
use Rattle.krieg_share.specs.Sharing.{Shared, has_node, number_of, node_for, nothing_shared, share, share_other, share_edges, share_roots, shared}
use Rattle.krieg_search.specs.declared.stop.SearchStop.TheVariants as stop
use Rattle.krieg_outcome.proofs.BestFiles.{alike, each_of, some_length, some_roots, turn_is}
use Rattle.krieg_outcome.proofs.ToldPlans.{plan_told}

module _ (d : Dialect) where
  -- all nodes can be told
  abbrev AllTold : Shared (chess d) → Type 0
  AllTold s = All (IsToldNode d) s.nodes

  -- the edges of a node lead on under the keys of the tree's
  edges_told : (Xs : List (List Pos)) (B : List Pos) (t : Move) (es : Edges Move Key) → AreTold d es →
      All (λ (e : Key × ℕ). IsToldKey d e.0) (map (λ (key : Key). (key, number_of (chess d) (class (chess d) B t key) Xs)) (edge_keys es))
  edges_told Xs B t NoEdges told = All-nil (λ (e : Key × ℕ). IsToldKey d e.0)
  edges_told Xs B t (Edge key n es) told =
      All-cons (λ (e : Key × ℕ). IsToldKey d e.0) (key, number_of (chess d) (class (chess d) B t key) Xs)
      (map (λ (key : Key). (key, number_of (chess d) (class (chess d) B t key) Xs)) (edge_keys es)) told.0 (edges_told Xs B t es told.2)

  if_told : (has : Bool) (s s' : Shared (chess d)) → AllTold s → AllTold s' → AllTold (if has then s else s')
  if_told true s s' old new = old
  if_told false s s' old new = new

  mutual
    -- the nodes that come for a tree that can be told can be told
    share_told : (n : NodeTree) (B : List Pos) (s : Shared (chess d)) → IsTold d n → AllTold s → AllTold (share (chess d) n B s)
    share_told (Try t other es) B s told old =
        let parts = share_edges (chess d) es B t (share_other (chess d) other (refused (chess d) B t) s) in
        let parts_told : AllTold parts = edges_share_told es B t (share_other (chess d) other (refused (chess d) B t) s) told.2 (other_share_told other (refused (chess d) B t) s told.1 old) in
        if_told (has_node (chess d) B s.sets) s _ old
        (All-push (IsToldNode d) parts.nodes (node_for (chess d) parts.sets B t (edge_keys es)) parts_told (record { on_board = told.0; told = edges_told parts.sets B t es told.2 }))

    other_share_told : (other : Maybe Move Key) (R : List Pos) (s : Shared (chess d)) → IsToldOther d other → AllTold s → AllTold (share_other (chess d) other R s)
    other_share_told Nothing R s told old = old
    other_share_told (Just n) R s told old = share_told n R s told old

    edges_share_told : (es : Edges Move Key) (B : List Pos) (t : Move) (s : Shared (chess d)) → AreTold d es → AllTold s → AllTold (share_edges (chess d) es B t s)
    edges_share_told NoEdges B t s told old = old
    edges_share_told (Edge key n es) B t s told old =
        edges_share_told es B t (share (chess d) n (class (chess d) B t key) s) told.2 (share_told n (class (chess d) B t key) s told.1 old)

  module _ (who : Side) (S : List Pos) where
    roots_share_told : (plan : PlanTrees) (s : Shared (chess d)) → AreToldRoots d plan → AllTold s → AllTold (share_roots (chess d) (outset d who) plan S s)
    roots_share_told [] s told old = old
    roots_share_told (r ∷ rs) s told old =
        let set = opening_set (chess d) (outset d who) S r.0 in
        roots_share_told rs (share (chess d) r.1 set s) told.2 (share_told r.1 set s told.1 old)

    module _ (number : RootKey → ℕ) where
      -- the roots of the strategy have the words of the plan's
      roots_told : (plan : PlanTrees) → AreToldRoots d plan → All (λ (r : RootKey × ℕ). IsToldRoot d r.0) (map (λ (r : RootKey × NodeTree). (r.0, number r.0)) plan)
      roots_told [] told = All-nil (λ (r : RootKey × ℕ). IsToldRoot d r.0)
      roots_told (r ∷ rs) told =
          All-cons (λ (r : RootKey × ℕ). IsToldRoot d r.0) (r.0, number r.0) (map (λ (r : RootKey × NodeTree). (r.0, number r.0)) rs) told.0 (roots_told rs told.2)

      roots_form : (waiting : Bool) (plan : PlanTrees) → AreRootsOf waiting plan → All (λ (r : RootKey × ℕ). is_some r.0.1 ≡ waiting) (map (λ (r : RootKey × NodeTree). (r.0, number r.0)) plan)
      roots_form waiting [] forms = All-nil (λ (r : RootKey × ℕ). is_some r.0.1 ≡ waiting)
      roots_form waiting (r ∷ rs) forms =
          All-cons (λ (r : RootKey × ℕ). is_some r.0.1 ≡ waiting) (r.0, number r.0) (map (λ (r : RootKey × NodeTree). (r.0, number r.0)) rs) forms.0 (roots_form waiting rs forms.1)

    module _ (n worst : ℕ) (nodes : List (Node Move Key)) (roots : List (RootKey × ℕ)) (some : is_nil S ≡ false) (hand : HaveOneHand who S) (best : IsBestStrategy d who S n worst nodes roots) where
      abbrev plan : PlanTrees
      plan = unfold_plan nodes roots

      abbrev number_at : RootKey → ℕ
      number_at key = number_of (chess d) (opening_set (chess d) (outset d who) S key) (shared (chess d) (outset d who) plan S).sets

      -- it has a root
      has_root : 1 ≤ length roots
      has_root =
          let many : 1 ≤ length plan = some_roots d who S plan some best.best.canonical in
          let as_many = ap (λ (rs : List (RootKey × ℕ)). length rs) best.roots_are ∙ length-map plan (λ (r : RootKey × NodeTree). (r.0, number_at r.0)) in
          omega (arith, many, as_many)

      -- so its nodes and roots make a strategy
      pub well_formed_by : (rs : List StrategyRoot) → roots ≡ map root_of rs → (0 < length rs → IsStrategy nodes roots worst) → IsStrategy nodes roots worst
      well_formed_by rs are made =
          let as_many = ap (λ (rs : List (RootKey × ℕ)). length rs) are ∙ length-map rs root_of in
          made (omega (arith, has_root, as_many))

      -- it has a text
      pub can_be_written : length S ≤ MOST_LISTED → All IsValid S → IsStrategy nodes roots worst → CanBeWritten (strategy_of d who S worst nodes roots)
      can_be_written few valid well_formed =
          let told = plan_told d who S (each_of IsValid S valid) (waits who S) plan (turn_is who S hand) best.best.canonical in
          record {
            some_listed = some_length S some;
            few_listed = few;
            valid = valid;
            alike = alike who S hand;
            well_formed = well_formed;
            few_edges = best.fits.few_edges;
            told = subst (λ (ns : List (Node Move Key)). All (IsToldNode d) ns) (sym best.nodes_are) (roots_share_told plan (nothing_shared (chess d)) told.0 (All-nil (IsToldNode d)));
            some_roots = has_root;
            few_roots = best.fits.few_roots;
            roots_told = subst (λ (rs : List (RootKey × ℕ)). All (λ (r : RootKey × ℕ). IsToldRoot d r.0) rs) (sym best.roots_are) (roots_told number_at plan told.0);
            roots = subst (λ (rs : List (RootKey × ℕ)). All (λ (r : RootKey × ℕ). is_some r.0.1 ≡ waits who S) rs) (sym best.roots_are) (roots_form number_at (waits who S) plan told.1);
          }

module _ (d : Dialect) (who : Side) (S : List Pos) (n : ℕ) where
  -- what a search without an answer tells
  pub stop_told : {X : Type 0} (view : X → List ℕ) (cut : Bool) (budget start left : ℕ) → start ≡ budget → (stop : SearchStop) → IsStrategyAnswer d who S n (Err stop) → TakesAsPlan d who S n cut (Err stop) start left →
      Decides view (Err (of_search stop)) (SharedBy d who S n budget)
  stop_told view cut budget start left same stop.Spent answer units = omega (arith, same, units.0)
  stop_told view cut budget start left same stop.Large answer units = answer
  stop_told view cut budget start left same stop.NoMemory answer units = tt
