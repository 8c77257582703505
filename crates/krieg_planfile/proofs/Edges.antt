-- Edges as a list of branches.
use Rattle.std.proofs.Common.{◌≡◌, ℕ, suc, ◌+◌, Bool, true, ◌&&◌, max, List, [], ◌∷◌, ◌++◌, map, length, refl, ap}
use Rattle.krieg_planfile.proofs.Common.{Move, Edges, NoEdges, size, size_edges, depth, depth_edges, edge_keys, Dialect, Key, as_edges, is_ordered, are_ordered, NodeTree, edge_count, node_lines, on_line, edges_lines, branches_lines, IsToldKey, AreTold, AreToldBranches, HaveFewEdges, HaveFewBranches}
use Rattle.krieg_theory.specs.Tree.{Edge}

-- the list of them
abbrev pub edges_of : Edges Move Key → List (Key × NodeTree)
edges_of NoEdges = []
edges_of (Edge key n es) = (key, n) ∷ edges_of es

pub edges_back : (es : Edges Move Key) → as_edges (edges_of es) ≡ es
edges_back NoEdges = refl
edges_back (Edge key n es) = ap (Edge key n) (edges_back es)

pub lines_of_edges : (d : Dialect) (bs : List (Key × NodeTree)) → edges_lines d (as_edges bs) ≡ branches_lines (on_line d) d bs
lines_of_edges d [] = refl
lines_of_edges d (b ∷ bs) = ap (λ (t : List _). on_line d b.0 ∷ (node_lines d b.1 ++ t)) (lines_of_edges d bs)

pub count_of_edges : (bs : List (Key × NodeTree)) → edge_count (as_edges bs) ≡ length bs
count_of_edges [] = refl
count_of_edges (b ∷ bs) = ap suc (count_of_edges bs)

pub told_edges : (d : Dialect) (bs : List (Key × NodeTree)) → AreToldBranches (IsToldKey d) d bs → AreTold d (as_edges bs)
told_edges d [] told = tt
told_edges d (b ∷ bs) told = (told.0, told.1, told_edges d bs told.2)

pub told_back : (d : Dialect) (es : Edges Move Key) → AreTold d es → AreToldBranches (IsToldKey d) d (edges_of es)
told_back d NoEdges told = tt
told_back d (Edge key n es) told = (told.0, told.1, told_back d es told.2)

pub few_edges : (bs : List (Key × NodeTree)) → HaveFewBranches bs → HaveFewEdges (as_edges bs)
few_edges [] few = tt
few_edges (b ∷ bs) few = (few.0, few_edges bs few.1)

pub few_back : (es : Edges Move Key) → HaveFewEdges es → HaveFewBranches (edges_of es)
few_back NoEdges few = tt
few_back (Edge key n es) few = (few.0, few_back es few.1)

-- ---- the nodes of a list of branches

-- how many there are
abbrev pub branches_size : {K : Type 0} → List (K × NodeTree) → ℕ
branches_size [] = 0
branches_size (b ∷ bs) = size b.1 + branches_size bs

-- how many the longest path has
abbrev pub branches_depth : {K : Type 0} → List (K × NodeTree) → ℕ
branches_depth [] = 0
branches_depth (b ∷ bs) = max (depth b.1) (branches_depth bs)

-- whether the keys of each ascend
abbrev pub are_ordered_branches : {K : Type 0} → List (K × NodeTree) → Bool
are_ordered_branches [] = true
are_ordered_branches (b ∷ bs) = is_ordered b.1 && are_ordered_branches bs

pub size_of_edges : (bs : List (Key × NodeTree)) → size_edges (as_edges bs) ≡ branches_size bs
size_of_edges [] = refl
size_of_edges (b ∷ bs) = ap (λ (n : ℕ). size b.1 + n) (size_of_edges bs)

pub depth_of_edges : (bs : List (Key × NodeTree)) → depth_edges (as_edges bs) ≡ branches_depth bs
depth_of_edges [] = refl
depth_of_edges (b ∷ bs) = ap (λ (n : ℕ). max (depth b.1) n) (depth_of_edges bs)

pub ordered_edges : (bs : List (Key × NodeTree)) → are_ordered (as_edges bs) ≡ are_ordered_branches bs
ordered_edges [] = refl
ordered_edges (b ∷ bs) = ap (λ (t : Bool). is_ordered b.1 && t) (ordered_edges bs)

pub keys_of_edges : (bs : List (Key × NodeTree)) → edge_keys (as_edges bs) ≡ map (λ b. b.0) bs
keys_of_edges [] = refl
keys_of_edges (b ∷ bs) = ap (λ (t : List Key). b.0 ∷ t) (keys_of_edges bs)
