-- The cost of a walk is that of the pairs that are reached.
use Rattle.std.proofs.Common.{◌≡◌, Bool, true, false, cond, List, [], ◌∷◌, ◌++◌, map, flat_map, refl, ◌∙◌, arith}
use Rattle.krieg_checker.proofs.Common.{same, Tree, Try, Maybe, Nothing, Just, Edges, NoEdges, Edge, first_root, Game, refused, keys, class, Outset, Plan, openings, opening_set, total, made, From, No, On, Path, reached, reached_other, reached_at, reached_from, pair_cost, node_cost, other_cost, edge_cost}
use Rattle.krieg_costs.proofs.Totals.{total_agree, total_append, total_flat}

module _ (G : Game) (O : Outset G) where
  own : (path : Path G O) (t : G.Move) (other : Maybe G.Move G.Key) (es : Edges G.Move G.Key) (B : List G.Position) → total (pair_cost G O) (map (λ p. (path, Try t other es, p)) B) ≡ made G B t
  own path t other es [] = refl
  own path t other es (p ∷ B) = omega (arith, own path t other es B)

  mutual
    pub reached_costs : (path : Path G O) (n : Tree G.Move G.Key) (B : List G.Position) → total (pair_cost G O) (reached G O path n B) ≡ node_cost G n B
    reached_costs path (Try t other es) B =
        let rest = flat_map (λ key. reached_at G O (On key ∷ path) es key (class G B t key)) (keys G B t) in
        let a = total_append (pair_cost G O) (map (λ p. (path, Try t other es, p)) B) (reached_other G O (No ∷ path) other (refused G B t) ++ rest) in
        let b = total_append (pair_cost G O) (reached_other G O (No ∷ path) other (refused G B t)) rest in
        let c = own path t other es B in
        let d = other_costs (No ∷ path) other (refused G B t) in
        let e = total_flat (pair_cost G O) (λ key. reached_at G O (On key ∷ path) es key (class G B t key)) (keys G B t)
        ∙ total_agree _ (λ key. edge_cost G es key (class G B t key)) (keys G B t) (λ key i. at_costs (On key ∷ path) es key (class G B t key)) in
        omega (arith, a, b, c, d, e)

    pub other_costs : (path : Path G O) (o : Maybe G.Move G.Key) (B : List G.Position) → total (pair_cost G O) (reached_other G O path o B) ≡ other_cost G o B
    other_costs path Nothing B = refl
    other_costs path (Just n) B = reached_costs path n B

    at_costs : (path : Path G O) (es : Edges G.Move G.Key) (key : G.Key) (B : List G.Position) → total (pair_cost G O) (reached_at G O path es key B) ≡ edge_cost G es key B
    at_costs path NoEdges key B = refl
    at_costs path (Edge key' n es) key B = choose (same G.key_lt key' key) (reached_costs path n B) (at_costs path es key B)
      where
        choose : (b : Bool) → total (pair_cost G O) (reached G O path n B) ≡ node_cost G n B → total (pair_cost G O) (reached_at G O path es key B) ≡ edge_cost G es key B →
            total (pair_cost G O) (cond b (reached G O path n B) (reached_at G O path es key B)) ≡ cond b (node_cost G n B) (edge_cost G es key B)
        choose true h k = h
        choose false h k = k

  -- those of a plan are reached from its roots
  pub plan_costs : (plan : Plan G O) (S : List G.Position) → total (pair_cost G O) (reached_from G O plan S) ≡ total (λ key. other_cost G (first_root O.root_lt plan key) (opening_set G O S key)) (openings G O S)
  plan_costs plan S =
      total_flat (pair_cost G O) (λ key. reached_other G O (From key ∷ []) (first_root O.root_lt plan key) (opening_set G O S key)) (openings G O S)
      ∙ total_agree _ (λ key. other_cost G (first_root O.root_lt plan key) (opening_set G O S key)) (openings G O S) (λ key i. other_costs (From key ∷ []) (first_root O.root_lt plan key) (opening_set G O S key))
