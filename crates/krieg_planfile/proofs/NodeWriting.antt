-- Writing branches one after another.
use Rattle.std.proofs.Common.{Box, Global, Bool, Option, Some, None, ◌≡◌, ℕ, zero, suc, ◌+◌, ◌<◌, ◌≤◌, List, [], ◌∷◌, ◌++◌, map, take, length, get_or, Result, Ok, Err, refl, sym, ap, subst, ◌∙◌, append_assoc, arith}
use Rattle.std.specs.Prelude.{is_some, option_map}
use Rattle.std.proofs.lemmas.List.{append-nil, length-map, map-append, take_all}
use Rattle.std.proofs.lemmas.Grind.{take_at_read}
use Rattle.krieg_planfile.proofs.Common.{Pieces, Written, Just, PutsLines, HasLines, put_lines, Try, size, size_edges, Dialect, Key, tree_of, edge_of, as_other, as_edges, edge_step, node_step, NodeTree, edges_in, Node, Node-F, out-Node, map-Node, fold_out-Node, out-Edge, fold_out-Edge, edge_count, is_just, other_in, play_line, on_line, node_lines, other_lines, edges_lines, branches_lines, IsTold, AreTold, IsToldKey, AreToldBranches}
use Rattle.krieg_text.proofs.Writings.{lines_then}
use Rattle.krieg_theory.specs.Tree.{Nothing}
use Rattle.krieg_plan.specs.declared.node.Edge.{Edge as EdgeValue}
use Rattle.krieg_planfile.proofs.Edges.{count_of_edges, lines_of_edges}

-- lines and then more lines
pub puts_then : {E : Type 0} (r : Result (Unit {0}) E) (old mid new : Written) (xs ys : List Pieces) → HasLines old mid xs → PutsLines r mid new ys → PutsLines r old new (xs ++ ys)
puts_then (Ok u) old mid new xs ys a b = (b.0 ∙ a.0, b.1 ∙ ap (λ (t : List ℕ). put_lines t ys) a.1 ∙ sym (lines_then old.written xs ys))
puts_then (Err e) old mid new xs ys a b = (b.0 ∙ a.0, tt)

pub has_then : (old mid new : Written) (xs ys : List Pieces) → HasLines old mid xs → HasLines mid new ys → HasLines old new (xs ++ ys)
has_then old mid new xs ys a b = (b.0 ∙ a.0, b.1 ∙ ap (λ (t : List ℕ). put_lines t ys) a.1 ∙ sym (lines_then old.written xs ys))

-- one branch more
pub one_more : {K : Type 0} (line : K → Pieces) (d : Dialect) (bs : List (K × NodeTree)) (b : K × NodeTree) → branches_lines line d (bs ++ b ∷ []) ≡ branches_lines line d bs ++ (line b.0 ∷ node_lines d b.1)
one_more line d [] b = ap (λ (t : List Pieces). line b.0 ∷ t) (append-nil (node_lines d b.1))
one_more line d (c ∷ bs) b =
    ap (λ (t : List Pieces). line c.0 ∷ (node_lines d c.1 ++ t)) (one_more line d bs b)
    ∙ ap (λ (t : List Pieces). line c.0 ∷ t) (sym (append_assoc (node_lines d c.1) (branches_lines line d bs) (line b.0 ∷ node_lines d b.1)))

-- the same of branches that stand in a list of other things
pub next_lines : {A K : Type 0} (line : K → Pieces) (d : Dialect) (f : A → K × NodeTree) (xs : List A) (i : ℕ) (x : A) → take (i + 1) xs ≡ take i xs ++ x ∷ [] →
    branches_lines line d (map f (take i xs)) ++ (line (f x).0 ∷ node_lines d (f x).1) ≡ branches_lines line d (map f (take (i + 1) xs))
next_lines line d f xs i x is =
    sym (ap (λ (t : List _). branches_lines line d (map f t)) is ∙ ap (branches_lines line d) (map-append f (take i xs) (x ∷ [])) ∙ one_more line d (map f (take i xs)) (f x))

-- one of the branches can be told
pub told_at : {A K : Type 0} (Told : K → Type 0) (d : Dialect) (f : A → K × NodeTree) (xs : List A) (i : ℕ) (x : A) → i < length xs → get_or xs i x ≡ x → AreToldBranches Told d (map f xs) → Told (f x).0 × IsTold d (f x).1
told_at Told d f [] i x lt is told = absurd (omega (arith, lt))
told_at Told d f (y ∷ xs) zero x lt is told = subst (λ z. Told (f z).0 × IsTold d (f z).1) is (told.0, told.1)
told_at Told d f (y ∷ xs) (suc i) x lt is told = told_at Told d f xs i x (omega (arith, lt)) is told.2

pub told_list : (d : Dialect) (bs : List (Key × NodeTree)) → AreTold d (as_edges bs) → AreToldBranches (IsToldKey d) d bs
told_list d [] told = tt
told_list d (b ∷ bs) told = (told.0, told.1, told_list d bs told.2)

pub all_taken : {A : Type 0} (xs : List A) (i : ℕ) → length xs ≤ i → take i xs ≡ xs
all_taken xs i past = take_all i xs past

pub ruleset writing = (all_taken, take_at_read)

-- ---- a node's own lines

layer_step : (n : Node-F EdgeValue Node) → node_step (map-Node EdgeValue Node (Key × NodeTree) NodeTree edge_of tree_of n) ≡ Try n.mv (as_other (option_map (λ b. tree_of b.value) n.no)) (as_edges (map edge_of n.edges.items))
layer_step n = elim n.no as (λ o. node_step (map-Node EdgeValue Node (Key × NodeTree) NodeTree edge_of tree_of (record n { no = o })) ≡ Try n.mv (as_other (option_map (λ b. tree_of b.value) o)) (as_edges (map edge_of n.edges.items))) [ None ↦ refl | Some b ↦ refl ]

tree_out : (n : Node) → tree_of n ≡ Try (out-Node n).mv (as_other (option_map (λ b. tree_of b.value) (out-Node n).no)) (as_edges (map edge_of (out-Node n).edges.items))
tree_out n = fold_out-Node (Key × NodeTree) NodeTree edge_step node_step n ∙ layer_step (out-Node n)

just_some : (o : Option (Box Node Global)) → is_just (as_other (option_map (λ b. tree_of b.value) o)) ≡ is_some o
just_some None = refl
just_some (Some b) = refl

-- its edges as a list
pub edges_are : (d : Dialect) (n : Node) → edges_lines d (edges_in (tree_of n)) ≡ branches_lines (on_line d) d (map edge_of (out-Node n).edges.items)
edges_are d n = ap (λ (t : NodeTree). edges_lines d (edges_in t)) (tree_out n) ∙ lines_of_edges d (map edge_of (out-Node n).edges.items)

-- its own line and what is below it
pub lines_of_node : (d : Dialect) (n : Node) (b : Bool) (k : ℕ) → b ≡ is_some (out-Node n).no → k ≡ length (out-Node n).edges.items →
    (play_line (out-Node n).mv b k ∷ []) ++ (other_lines d (other_in (tree_of n)) ++ edges_lines d (edges_in (tree_of n))) ≡ node_lines d (tree_of n)
lines_of_node d n b k there count =
    let o = as_other (option_map (λ b. tree_of b.value) (out-Node n).no) in
    let bs = map edge_of (out-Node n).edges.items in
    let edges : edge_count (as_edges bs) ≡ k = count_of_edges bs ∙ length-map (out-Node n).edges.items edge_of ∙ sym count in
    ap (λ (t : NodeTree). play_line (out-Node n).mv b k ∷ (other_lines d (other_in t) ++ edges_lines d (edges_in t))) (tree_out n)
    ∙ sym (ap (node_lines d) (tree_out n)
    ∙ ap (λ (t : Bool). play_line (out-Node n).mv t (edge_count (as_edges bs)) ∷ (other_lines d o ++ edges_lines d (as_edges bs))) (just_some (out-Node n).no ∙ sym there)
    ∙ ap (λ (t : ℕ). play_line (out-Node n).mv b t ∷ (other_lines d o ++ edges_lines d (as_edges bs))) edges)

-- its node for the illegal case, where there is none and where there is one
pub no_other : (n : Node) → (out-Node n).no ≡ None → other_in (tree_of n) ≡ Nothing
no_other n is = ap other_in (tree_out n) ∙ ap (λ (o : Option (Box Node Global)). as_other (option_map (λ b. tree_of b.value) o)) is

pub other_is : (n : Node) (b : Box Node Global) (m : Node) → (out-Node n).no ≡ Some b → m ≡ b.value → other_in (tree_of n) ≡ Just (tree_of m)
other_is n b m is same =
    ap other_in (tree_out n) ∙ ap (λ (o : Option (Box Node Global)). as_other (option_map (λ b. tree_of b.value) o)) is ∙ ap (λ (x : Node). Just (tree_of x)) (sym same)

-- the parts of an edge
pub edge_is : (e : EdgeValue) (n : Node) → n ≡ (out-Edge e).node.value → (((out-Edge e).own, (out-Edge e).reply), tree_of n) ≡ edge_of e
edge_is e n is =
    let key : Key = ((out-Edge e).own, (out-Edge e).reply) in
    ap (λ (m : Node). (key, tree_of m)) is ∙ sym (fold_out-Edge (Key × NodeTree) NodeTree edge_step node_step e)

-- what is below it can be told
pub told_edges_of : (d : Dialect) (n : Node) → IsTold d (tree_of n) → AreToldBranches (IsToldKey d) d (map edge_of (out-Node n).edges.items)
told_edges_of d n told = told_list d (map edge_of (out-Node n).edges.items) (subst (IsTold d) (tree_out n) told).2

-- ---- its size

edge_size : (xs : List EdgeValue) (i : ℕ) (e : EdgeValue) → i < length xs → get_or xs i e ≡ e → size (edge_of e).1 ≤ size_edges (as_edges (map edge_of xs))
edge_size [] i e lt is = absurd (omega (arith, lt))
edge_size (x ∷ xs) zero e lt is = omega (arith, ap (λ y. size (edge_of y).1) is)
edge_size (x ∷ xs) (suc i) e lt is = omega (arith, edge_size xs i e (omega (arith, lt)) is)

-- of one of its edges
pub size_of_edge : (n : Node) (i : ℕ) (e : EdgeValue) → i < length (out-Node n).edges.items → get_or (out-Node n).edges.items i e ≡ e → size (edge_of e).1 ≤ size_edges (edges_in (tree_of n))
size_of_edge n i e lt is = omega (arith, edge_size (out-Node n).edges.items i e lt is, ap (λ t. size_edges (edges_in t)) (tree_out n))
