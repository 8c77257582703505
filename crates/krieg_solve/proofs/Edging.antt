-- The edges of a node, one after another.
use Rattle.std.proofs.Common.{◌≡◌, ℕ, ◌+◌, ◌≤◌, ◌<◌, ◌⊎◌, inl, inr, List, [], ◌∷◌, ◌++◌, max, refl, sym, ap, ◌∙◌, arith}
use Rattle.std.proofs.Math.Nat.{le-max_left, le-max_right}
use Rattle.krieg_solve.proofs.Common.{Pos, Move, Dialect, Just, Edges, NoEdges, size, size_edges, depth, depth_edges, edge_with, canon, Key, chess, NodeTree, as_edges, SetRows, AddsSets, edges_for}
use Rattle.krieg_theory.specs.Tree.{Edge as On}
use Rattle.krieg_search.proofs.Adding.{adds_then}

-- these edges, and others behind them
abbrev pub with_edges : List (Key × NodeTree) → Edges Move Key → Edges Move Key
with_edges [] es = es
with_edges (x ∷ xs) es = On x.0 x.1 (with_edges xs es)

one_more : (xs : List (Key × NodeTree)) (x : Key × NodeTree) (es : Edges Move Key) → with_edges (xs ++ x ∷ []) es ≡ with_edges xs (On x.0 x.1 es)
one_more [] x es = refl
one_more (y ∷ xs) x es = ap (On y.0 y.1) (one_more xs x es)

no_more : (xs : List (Key × NodeTree)) → with_edges xs NoEdges ≡ as_edges xs
no_more [] = refl
no_more (y ∷ xs) = ap (On y.0 y.1) (no_more xs)

module _ (d : Dialect) (j : ℕ) where
  -- The edges so far, with those of the classes that are left, are all. The nodes so far are gone from those that were
  -- left, and none of their paths is too long.
  pub record IsEdging (T0 T : SetRows) (pushed : List (Key × NodeTree)) (rest all : List (Key × List Pos)) (had has deep : ℕ) : Type 0 where
    pub joined : with_edges pushed (edges_for d j rest) ≡ edges_for d j all
    pub nodes : has + size_edges (edges_for d j all) ≡ had + size_edges (edges_for d j rest)
    pub longest : depth_edges (edges_for d j rest) ≤ depth_edges (edges_for d j all)
    pub short : depth_edges (edges_for d j rest) ≤ deep → depth_edges (edges_for d j all) ≤ deep
    pub sets : AddsSets T0 T

  pub no_edge : (T : SetRows) (all : List (Key × List Pos)) (had deep : ℕ) → AddsSets T T → IsEdging T T [] all all had had deep
  no_edge T all had deep s = record { joined = refl; nodes = refl; longest = omega arith; short = λ h. h; sets = s }

  pub all_edges : (T0 T : SetRows) (pushed : List (Key × NodeTree)) (all : List (Key × List Pos)) (had has deep : ℕ) → IsEdging T0 T pushed [] all had has deep
      → (as_edges pushed ≡ edges_for d j all) × (has + size_edges (edges_for d j all) ≡ had) × (depth_edges (edges_for d j all) ≤ deep) × AddsSets T0 T
  all_edges T0 T pushed all had has deep a = (sym (no_more pushed) ∙ a.joined, (let n = a.nodes in omega arith), a.short (omega arith), a.sets)

  module _ (T0 T1 : SetRows) (pushed : List (Key × NodeTree)) (c : Key × List Pos) (rest all : List (Key × List Pos)) (n : NodeTree) (had has deep : ℕ) (a : IsEdging T0 T1 pushed (c ∷ rest) all had has deep) (is : canon (chess d) j c.1 ≡ Just n) where
    next : edges_for d j (c ∷ rest) ≡ On c.0 n (edges_for d j rest)
    next = ap (λ m. edge_with (chess d) c.0 m (edges_for d j rest)) is

    sizes : size_edges (edges_for d j (c ∷ rest)) ≡ size n + size_edges (edges_for d j rest)
    sizes = ap size_edges next

    depths : depth_edges (edges_for d j (c ∷ rest)) ≡ max (depth n) (depth_edges (edges_for d j rest))
    depths = ap depth_edges next

    -- the next node is too large
    pub node_large : (has < size n) ⊎ (deep < depth n) → (had < size_edges (edges_for d j all)) ⊎ (deep < depth_edges (edges_for d j all))
    node_large (inl h) = inl (let x = a.nodes in let s = sizes in omega arith)
    node_large (inr h) = inr (let x = a.longest in let s = depths in let m = le-max_left (depth n) (depth_edges (edges_for d j rest)) in omega arith)

    -- it fits, and its edge is added
    pub one_edge : (T2 : SetRows) (has' : ℕ) → has' + size n ≡ has → depth n ≤ deep → AddsSets T1 T2 → IsEdging T0 T2 (pushed ++ (c.0, n) ∷ []) rest all had has' deep
    one_edge T2 has' e f s = record {
      joined = one_more pushed (c.0, n) (edges_for d j rest) ∙ ap (with_edges pushed) (sym next) ∙ a.joined;
      nodes = (let x = a.nodes in let y = sizes in omega arith);
      longest = (let x = a.longest in let y = depths in let m = le-max_right (depth n) (depth_edges (edges_for d j rest)) in omega arith);
      short = λ h. a.short (let y = depths in omega arith);
      sets = adds_then T0 T1 T2 a.sets s;
    }
