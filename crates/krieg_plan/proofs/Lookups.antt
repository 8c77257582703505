-- What a bisection finds among the edges of a node, and among the roots of a plan, is the node under the key.
use Rattle.std.proofs.Common.{◌≡◌, ℕ, true, List, [], ◌∷◌, length, map, refl, sym, ap, ◌∙◌}
use Rattle.std.specs.Prelude.{slice_index_or, Result, MatchResult, if◌then◌else◌}
use Rattle.std.specs.List.Sorted.{IsBinarySearchResult, IsSearchInRange}
use Rattle.krieg_plan.proofs.Common.{same, Nothing, Just, first_edge, edge_keys, Key, RootKey, key_cmp, key_lt, root_cmp, root_lt, NodeTree, edges_in, first_edge_in, first_root_in, is_ascending, is_ordered, is_ordered_plan, tree_of, edge_of, as_edges, root_of, Node, out-Node, Root}
use Rattle.krieg_plan.specs.declared.node.Edge.{Edge}
use Rattle.krieg_game.proofs.KeyLaws.{key_total, root_total}
use Rattle.krieg_plan.proofs.NodeTrees.{tree_out}
use Rattle.krieg_plan.proofs.OrderedTrees.{own_keys, root_keys_ascend}
use Rattle.krieg_plan.proofs.Bisection.{first_of, searched}

abbrev edge_key : Edge → Key
edge_key e = (edge_of e).0

abbrev edge_tree : Edge → NodeTree
edge_tree e = (edge_of e).1

keys_are : (es : List Edge) → edge_keys (as_edges (map edge_of es)) ≡ map edge_key es
keys_are [] = refl
keys_are (e ∷ es) = ap (λ ks. edge_key e ∷ ks) (keys_are es)

first_is : (es : List Edge) (k : Key) → first_edge key_lt (as_edges (map edge_of es)) k ≡ first_of edge_key edge_tree key_cmp key_total k es
first_is [] k = refl
first_is (e ∷ es) k = ap (λ m. if same key_lt (edge_key e) k then Just (edge_tree e) else m) (first_is es k)

edges_are : (n : Node) (es : List Edge) → es ≡ (out-Node n).edges.items → edges_in (tree_of n) ≡ as_edges (map edge_of es)
edges_are n es h = ap edges_in (tree_out n) ∙ ap (λ xs. as_edges (map edge_of xs)) (sym h)

-- what a bisection of the edges answers
pub edge_found : (n : Node) (es : List Edge) (k : Key) → es ≡ (out-Node n).edges.items → is_ordered (tree_of n) ≡ true →
    (r : Result ℕ ℕ) → IsSearchInRange r (length es) → IsBinarySearchResult (λ e. key_cmp (edge_key e) k) es r →
    MatchResult r (λ i. (d : Edge) → first_edge_in (tree_of n) k ≡ Just (edge_tree (slice_index_or es i d))) (λ i. first_edge_in (tree_of n) k ≡ Nothing)
edge_found n es k h up r b s = searched edge_key edge_tree key_cmp key_total k (first_edge_in (tree_of n) k) es there ascend r b s
  where
    there : first_edge_in (tree_of n) k ≡ first_of edge_key edge_tree key_cmp key_total k es
    there = ap (λ xs. first_edge key_lt xs k) (edges_are n es h) ∙ first_is es k

    ascend : is_ascending key_lt (map edge_key es) ≡ true
    ascend = ap (is_ascending key_lt) (sym (ap edge_keys (edges_are n es h) ∙ keys_are es)) ∙ own_keys (tree_of n) up

abbrev root_key : Root → RootKey
root_key r = (root_of r).0

abbrev root_tree : Root → NodeTree
root_tree r = (root_of r).1

root_first : (rs : List Root) (k : RootKey) → first_root_in (map root_of rs) k ≡ first_of root_key root_tree root_cmp root_total k rs
root_first [] k = refl
root_first (r ∷ rs) k = ap (λ m. if same root_lt (root_key r) k then Just (root_tree r) else m) (root_first rs k)

root_keys : (rs : List Root) → map (λ x. x.0) (map root_of rs) ≡ map root_key rs
root_keys [] = refl
root_keys (r ∷ rs) = ap (λ ks. root_key r ∷ ks) (root_keys rs)

-- what a bisection of the roots answers
pub root_found : (all rs : List Root) (k : RootKey) → rs ≡ all → is_ordered_plan (map root_of all) ≡ true →
    (r : Result ℕ ℕ) → IsSearchInRange r (length rs) → IsBinarySearchResult (λ r. root_cmp (root_key r) k) rs r →
    MatchResult r (λ i. (d : Root) → first_root_in (map root_of all) k ≡ Just (root_tree (slice_index_or rs i d))) (λ i. first_root_in (map root_of all) k ≡ Nothing)
root_found all rs k h up r b s = searched root_key root_tree root_cmp root_total k (first_root_in (map root_of all) k) rs there ascend r b s
  where
    there : first_root_in (map root_of all) k ≡ first_of root_key root_tree root_cmp root_total k rs
    there = ap (λ xs. first_root_in (map root_of xs) k) (sym h) ∙ root_first rs k

    ascend : is_ascending root_lt (map root_key rs) ≡ true
    ascend = ap (is_ascending root_lt) (sym (root_keys rs) ∙ ap (λ xs. map (λ x. x.0) (map root_of xs)) h)
        ∙ root_keys_ascend (map root_of all) up
