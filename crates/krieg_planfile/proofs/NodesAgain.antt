-- What spells branches or a node is read as these.
use Rattle.std.proofs.Common.{◌≡◌, ℕ, zero, suc, ◌+◌, ◌-◌, ◌≤◌, Bool, true, ◌&&◌, max, List, [], ◌∷◌, ◌++◌, map, length, Option, Some, None, Result, Ok, refl, sym, ap, ◌∙◌, arith, append_assoc}
use Rattle.std.proofs.lemmas.Bool.{and_parts}
use Rattle.std.proofs.lemmas.List.{map-append}
use Rattle.krieg_planfile.proofs.Common.{Move, TextFault, TextKind, ◌>>=◌, Place, place, Pieces, joined, Try, Maybe, Just, Edges, NoEdges, size, size_other, size_edges, depth, depth_other, depth_edges, edge_keys, Dialect, Key, key_lt, as_edges, NodeTree, is_ascending, is_ordered, is_ordered_other, are_ordered, MOST_NODES, Play, play_form, on_form, follows, NodeReader, other_by, branch_by, branches_by, below_by, node_at, edge_count, is_just, play_line, on_line, node_lines, other_lines, edges_lines, branches_lines, IsToldKey, IsTold, IsToldOther, AreTold, AreToldBranches}
use Rattle.krieg_text.proofs.Takings.{Read, taken_again}
use Rattle.krieg_theory.specs.Tree.{Edge}
use Rattle.krieg_theory.specs.Tree as tree
use Rattle.krieg_planfile.proofs.BranchForms.{IsBranchForm, edges_form}
use Rattle.krieg_planfile.proofs.Edges.{edges_of, edges_back, branches_size, branches_depth, are_ordered_branches, lines_of_edges, count_of_edges, told_back, size_of_edges, depth_of_edges, ordered_edges, keys_of_edges}
use Rattle.krieg_planfile.proofs.NodeSpellings.{chain, AllFit}
use Rattle.krieg_planfile.proofs.PlayForms.{play_again}

-- the first key follows the last one, and those after it follow it
chain_first : {K : Type 0} (lt : K → K → Bool) (last : Option K) (key : K) (keys : List K) → chain lt last (key ∷ keys) ≡ true → (follows lt last key ≡ true) × (chain lt (Some key) keys ≡ true)
chain_first lt None key keys h = (refl, h)
chain_first lt (Some last) key keys h = and_parts (lt last key) (is_ascending lt (key ∷ keys)) h

-- each edge has a node
pub count_size : (es : Edges Move Key) → edge_count es ≤ size_edges es
count_size NoEdges = omega arith
count_size (Edge key (Try m o fs) es) = omega (arith, count_size es)

max_left : (a b c : ℕ) → max a b ≤ c → a ≤ c
max_left a b c h = omega (arith, h)

max_right : (a b c : ℕ) → max a b ≤ c → b ≤ c
max_right a b c h = omega (arith, h)

no_fit : (bs : List (Key × NodeTree)) → AllFit (λ key. Unit {0}) bs
no_fit [] = tt
no_fit (b ∷ bs) = (tt, no_fit bs)

-- a reader of nodes reads what spells one, and leaves room for so many
abbrev Again : Dialect → ℕ → NodeReader → Type 0
Again d room node = (n : NodeTree) (more number : ℕ) (rest : List (List ℕ)) → IsTold d n → is_ordered n ≡ true → depth n ≤ room → size n + more ≤ MOST_NODES →
    Read (node (more + size n) (place number (map joined (node_lines d n) ++ rest))) (n, more) rest

module _ {K : Type 0} (lt : K → K → Bool) (line : K → Pieces) (Told Fit : K → Type 0) (form : Option K → List ℕ → Result K TextKind) (has : IsBranchForm lt line Told Fit form)
    (d : Dialect) (room : ℕ) (node : NodeReader) (again : Again d room node) where
  branch_again : (key : K) (n : NodeTree) (last : Option K) (more number : ℕ) (rest : List (List ℕ)) → Told key → Fit key → follows lt last key ≡ true → IsTold d n → is_ordered n ≡ true → depth n ≤ room → size n + more ≤ MOST_NODES →
      Read (branch_by node form last (more + size n) (place number (joined (line key) ∷ (map joined (node_lines d n) ++ rest)))) ((key, n), more) rest
  branch_again key n last more number rest told fit after below ordered deep small =
      let r = again n more (number + 1) rest below ordered deep small in
      record {
        number = r.number;
        is = ap (λ (x : Result (K × Place) TextFault). x >>= λ key. node (more + size n) key.1 >>= λ n. Ok (((key.0, n.0.0), n.0.1), n.1))
            (taken_again (form last) number (joined (line key)) (map joined (node_lines d n) ++ rest) key (has.only last key told fit after))
            ∙ ap (λ (x : Result ((NodeTree × ℕ) × Place) TextFault). x >>= λ n. Ok (((key, n.0.0), n.0.1), n.1)) r.is;
      }

  pub branches_again : (bs : List (K × NodeTree)) (last : Option K) (more number : ℕ) (rest : List (List ℕ)) → AreToldBranches Told d bs → AllFit Fit bs → are_ordered_branches bs ≡ true → chain lt last (map (λ b. b.0) bs) ≡ true →
      branches_depth bs ≤ room → branches_size bs + more ≤ MOST_NODES →
      Read (branches_by node form (length bs) last (more + branches_size bs) (place number (map joined (branches_lines line d bs) ++ rest))) (bs, more) rest
  branches_again [] last more number rest told fit ordered keys deep small = record { number = number; is = let none : more + 0 ≡ more = omega arith in ap (λ (k : ℕ). Ok (([], k), place number rest)) none }
  branches_again ((key, n) ∷ bs) last more number rest told fit ordered keys deep small =
      let c = chain_first lt last key (map (λ b. b.0) bs) keys in
      let o = and_parts (is_ordered n) (are_ordered_branches bs) ordered in
      let tail = map joined (branches_lines line d bs) ++ rest in
      let whole : map joined (branches_lines line d ((key, n) ∷ bs)) ++ rest ≡ joined (line key) ∷ (map joined (node_lines d n) ++ tail) =
      ap (λ (t : List (List ℕ)). joined (line key) ∷ (t ++ rest)) (map-append joined (node_lines d n) (branches_lines line d bs)) ∙ ap (λ (t : List (List ℕ)). joined (line key) ∷ t) (append_assoc (map joined (node_lines d n)) (map joined (branches_lines line d bs)) rest) in
      let left : more + (size n + branches_size bs) ≡ more + branches_size bs + size n = omega arith in
      let r = branch_again key n last (more + branches_size bs) number tail told.0 fit.0 c.0 told.1 o.0 (max_left (depth n) (branches_depth bs) room deep) (omega (arith, small)) in
      let s = branches_again bs (Some key) more r.number rest told.2 fit.1 o.1 c.1 (max_right (depth n) (branches_depth bs) room deep) (omega (arith, small)) in
      record {
        number = s.number;
        is = ap (λ (x : List (List ℕ)). branches_by node form (suc (length bs)) last (more + (size n + branches_size bs)) (place number x)) whole
            ∙ ap (λ (k : ℕ). branches_by node form (suc (length bs)) last k (place number (joined (line key) ∷ (map joined (node_lines d n) ++ tail)))) left
            ∙ ap (λ (x : Result (((K × NodeTree) × ℕ) × Place) TextFault). x >>= λ b. branches_by node form (length bs) (Some b.0.0.0) b.0.1 b.1 >>= λ rest. Ok ((b.0.0 ∷ rest.0.0, rest.0.1), rest.1)) r.is
            ∙ ap (λ (x : Result ((List (K × NodeTree) × ℕ) × Place) TextFault). x >>= λ rest. Ok (((key, n) ∷ rest.0.0, rest.0.1), rest.1)) s.is;
      }

module _ (d : Dialect) (room : ℕ) (node : NodeReader) (again : Again d room node) where
  other_again : (o : Maybe Move Key) (more number : ℕ) (rest : List (List ℕ)) → IsToldOther d o → is_ordered_other o ≡ true → depth_other o ≤ room → size_other o + more ≤ MOST_NODES →
      Read (other_by node (is_just o) (more + size_other o) (place number (map joined (other_lines d o) ++ rest))) (o, more) rest
  other_again tree.Nothing more number rest told ordered deep small = record { number = number; is = let none : more + 0 ≡ more = omega arith in ap (λ (k : ℕ). Ok ((tree.Nothing, k), place number rest)) none }
  other_again (Just n) more number rest told ordered deep small =
      let r = again n more number rest told ordered deep small in
      record { number = r.number; is = ap (λ (x : Result ((NodeTree × ℕ) × Place) TextFault). x >>= λ n. Ok ((Just n.0.0, n.0.1), n.1)) r.is }

  edges_again : (es : Edges Move Key) (more number : ℕ) (rest : List (List ℕ)) → AreTold d es → are_ordered es ≡ true → is_ascending key_lt (edge_keys es) ≡ true → depth_edges es ≤ room → size_edges es + more ≤ MOST_NODES →
      Read (branches_by node (on_form d) (edge_count es) None (more + size_edges es) (place number (map joined (edges_lines d es) ++ rest))) (edges_of es, more) rest
  edges_again es more number rest told ordered keys deep small =
      let bs = edges_of es in
      let back : as_edges bs ≡ es = edges_back es in
      let size_is : size_edges es ≡ branches_size bs = ap size_edges (sym back) ∙ size_of_edges bs in
      let depth_is : depth_edges es ≡ branches_depth bs = ap depth_edges (sym back) ∙ depth_of_edges bs in
      let r = branches_again key_lt (on_line d) (IsToldKey d) (λ key. Unit {0}) (on_form d) (edges_form d) d room node again bs None more number rest (told_back d es told) (no_fit bs)
      (sym (ordered_edges bs) ∙ ap are_ordered back ∙ ordered) (ap (is_ascending key_lt) (sym (keys_of_edges bs) ∙ ap edge_keys back) ∙ keys) (omega (arith, deep, depth_is)) (omega (arith, small, size_is)) in
      record {
        number = r.number;
        is = ap (λ (k : ℕ). branches_by node (on_form d) k None (more + size_edges es) (place number (map joined (edges_lines d es) ++ rest))) (ap edge_count (sym back) ∙ count_of_edges bs)
            ∙ ap (λ (k : ℕ). branches_by node (on_form d) (length bs) None (more + k) (place number (map joined (edges_lines d es) ++ rest))) size_is
            ∙ ap (λ (x : List Pieces). branches_by node (on_form d) (length bs) None (more + branches_size bs) (place number (map joined x ++ rest))) (ap (edges_lines d) (sym back) ∙ lines_of_edges d bs)
            ∙ r.is;
      }

  below_again : (m : Move) (o : Maybe Move Key) (es : Edges Move Key) (more number : ℕ) (rest : List (List ℕ)) →
      IsToldOther d o → AreTold d es → is_ordered_other o ≡ true → are_ordered es ≡ true → is_ascending key_lt (edge_keys es) ≡ true → max (depth_other o) (depth_edges es) ≤ room → size_other o + size_edges es + more ≤ MOST_NODES →
      Read (below_by node d (record { mv = m; no = is_just o; edges = edge_count es }) (more + (size_other o + size_edges es)) (place number (map joined (other_lines d o ++ edges_lines d es) ++ rest))) (Try m o es, more) rest
  below_again m o es more number rest told_o told_es ordered_o ordered_es keys deep small =
      let tail = map joined (edges_lines d es) ++ rest in
      let whole : map joined (other_lines d o ++ edges_lines d es) ++ rest ≡ map joined (other_lines d o) ++ tail =
      ap (λ (t : List (List ℕ)). t ++ rest) (map-append joined (other_lines d o) (edges_lines d es)) ∙ append_assoc (map joined (other_lines d o)) (map joined (edges_lines d es)) rest in
      let left : more + (size_other o + size_edges es) ≡ more + size_edges es + size_other o = omega arith in
      let r = other_again o (more + size_edges es) number tail told_o ordered_o (max_left (depth_other o) (depth_edges es) room deep) (omega (arith, small)) in
      let s = edges_again es more r.number rest told_es ordered_es keys (max_right (depth_other o) (depth_edges es) room deep) (omega (arith, small)) in
      record {
        number = s.number;
        is = ap (λ (x : List (List ℕ)). below_by node d play (more + (size_other o + size_edges es)) (place number x)) whole
            ∙ ap (λ (k : ℕ). below_by node d play k (place number (map joined (other_lines d o) ++ tail))) left
            ∙ ap (λ (x : Result ((Maybe Move Key × ℕ) × Place) TextFault). x >>= λ o. branches_by node (on_form d) (edge_count es) None o.0.1 o.1 >>= λ es. Ok ((Try m o.0.0 (as_edges es.0.0), es.0.1), es.1)) r.is
            ∙ ap (λ (x : Result ((List (Key × NodeTree) × ℕ) × Place) TextFault). x >>= λ es. Ok ((Try m o (as_edges es.0.0), es.0.1), es.1)) s.is
            ∙ ap (λ (t : Edges Move Key). Ok ((Try m o t, more), place s.number rest)) (edges_back es);
      }
    where
      play : Play
      play = record { mv = m; no = is_just o; edges = edge_count es }

pub node_again : (room : ℕ) (d : Dialect) (n : NodeTree) (more number : ℕ) (rest : List (List ℕ)) → IsTold d n → is_ordered n ≡ true → depth n ≤ room → size n + more ≤ MOST_NODES →
    Read (node_at room d (more + size n) (place number (map joined (node_lines d n) ++ rest))) (n, more) rest
unfolding node_at
node_again zero d (Try m o es) more number rest told ordered deep small = absurd (omega (arith, deep))
node_again (suc room) d (Try m o es) more number rest told ordered deep small =
    let a = and_parts (is_ascending key_lt (edge_keys es)) (is_ordered_other o && are_ordered es) ordered in
    let b = and_parts (is_ordered_other o) (are_ordered es) a.1 in
    let few : edge_count es ≤ MOST_NODES = omega (arith, small, count_size es) in
    let one : more + (1 + (size_other o + size_edges es)) - 1 ≡ more + (size_other o + size_edges es) = omega arith in
    let r = below_again d room (node_at room d) (λ n m k rest t o h s. node_again room d n m k rest t o h s) m o es more (number + 1) rest told.1 told.2 b.0 b.1 a.0 (omega (arith, deep)) (omega (arith, small)) in
    let play : Play = record { mv = m; no = is_just o; edges = edge_count es } in
    let left : ℕ = more + (1 + (size_other o + size_edges es)) in
    let rest_lines = map joined (other_lines d o ++ edges_lines d es) ++ rest in
    record {
      number = r.number;
      is = ap (λ (x : Result (Play × Place) TextFault). x >>= λ play. below_by (node_at room d) d play.0 (left - 1) play.1)
          (taken_again (play_form left) number (joined (play_line m (is_just o) (edge_count es))) rest_lines play (play_again left (joined (play_line m (is_just o) (edge_count es))) play (refl, told.0, few) (omega arith)))
          ∙ ap (λ (k : ℕ). below_by (node_at room d) d play k (place (number + 1) rest_lines)) one
          ∙ r.is;
    }
