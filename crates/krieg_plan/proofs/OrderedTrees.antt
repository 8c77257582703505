-- What ascends in a node or a plan that ascends: its keys, and each node that one comes to.
use Rattle.std.proofs.Common.{◌≡◌, true, false, ◌&&◌, [], ◌∷◌, map, refl, sym, ap, ◌∙◌}
use Rattle.std.specs.Prelude.{if◌then◌else◌}
use Rattle.std.proofs.lemmas.Bool.{and_parts}
use Rattle.krieg_plan.proofs.Common.{Move, same, Try, Maybe, Just, Edges, NoEdges, first_edge, edge_keys, Key, RootKey, key_lt, root_lt, NodeTree, PlanTrees, edges_in, first_edge_in, first_root_in, is_ascending, is_ordered, is_ordered_other, are_ordered, is_ordered_plan, are_ordered_roots}
use Rattle.krieg_theory.specs.Tree.{Edge}

-- the keys of a node's edges
pub own_keys : (n : NodeTree) → is_ordered n ≡ true → is_ascending key_lt (edge_keys (edges_in n)) ≡ true
own_keys (Try t other es) h = (and_parts (is_ascending key_lt (edge_keys es)) (is_ordered_other other && are_ordered es) h).0

-- the node over `no`
pub other_ordered : (t : Move) (other : Maybe Move Key) (es : Edges Move Key) → is_ordered (Try t other es) ≡ true → is_ordered_other other ≡ true
other_ordered t other es h = (and_parts (is_ordered_other other) (are_ordered es) (and_parts (is_ascending key_lt (edge_keys es)) (is_ordered_other other && are_ordered es) h).1).0

-- the nodes after its edges
pub edges_ordered : (n : NodeTree) → is_ordered n ≡ true → are_ordered (edges_in n) ≡ true
edges_ordered (Try t other es) h = (and_parts (is_ordered_other other) (are_ordered es) (and_parts (is_ascending key_lt (edge_keys es)) (is_ordered_other other && are_ordered es) h).1).1

-- the node at the first edge with a key
pub first_edge_ordered : (es : Edges Move Key) (k : Key) → are_ordered es ≡ true → is_ordered_other (first_edge key_lt es k) ≡ true
first_edge_ordered NoEdges k h = refl
first_edge_ordered (Edge key n es) k h =
    let both = and_parts (is_ordered n) (are_ordered es) h in
    elim (same key_lt key k) as (λ b. is_ordered_other (if b then Just n else first_edge key_lt es k) ≡ true) [ true ↦ both.0 | false ↦ first_edge_ordered es k both.1 ]

pub found_edge_ordered : (n m : NodeTree) (k : Key) → is_ordered n ≡ true → first_edge_in n k ≡ Just m → is_ordered m ≡ true
found_edge_ordered n m k h e = sym (ap is_ordered_other e) ∙ first_edge_ordered (edges_in n) k (edges_ordered n h)

-- the keys of a plan's roots
pub root_keys_ascend : (p : PlanTrees) → is_ordered_plan p ≡ true → is_ascending root_lt (map (λ r. r.0) p) ≡ true
root_keys_ascend p h = (and_parts (is_ascending root_lt (map (λ r. r.0) p)) (are_ordered_roots p) h).0

-- the node at the first root with a key
first_root_ordered : (p : PlanTrees) (k : RootKey) → are_ordered_roots p ≡ true → is_ordered_other (first_root_in p k) ≡ true
first_root_ordered [] k h = refl
first_root_ordered (r ∷ rs) k h =
    let both = and_parts (is_ordered r.1) (are_ordered_roots rs) h in
    elim (same root_lt r.0 k) as (λ b. is_ordered_other (if b then Just r.1 else first_root_in rs k) ≡ true) [ true ↦ both.0 | false ↦ first_root_ordered rs k both.1 ]

pub found_root_ordered : (p : PlanTrees) (m : NodeTree) (k : RootKey) → is_ordered_plan p ≡ true → first_root_in p k ≡ Just m → is_ordered m ≡ true
found_root_ordered p m k h e = sym (ap is_ordered_other e) ∙ first_root_ordered p k (and_parts (is_ascending root_lt (map (λ r. r.0) p)) (are_ordered_roots p) h).1
