-- The tree of each node is made from the trees of all nodes, though each leads to nodes before it alone.
use Rattle.std.proofs.Common.{◌≡◌, ℕ, zero, suc, ◌+◌, ◌<◌, Bool, true, false, cond, List, [], ◌∷◌, ◌++◌, inl, inr, length, refl, sym, ap, ◌∙◌, subst, arith, Option, Some, None, length-append}
use Rattle.std.specs.Prelude.{slice_get}
use Rattle.krieg_strategy.proofs.Common.{In, same, Tree, Try, Just, first_edge, first_root, Node, first_to, as_maybe, edge_to, edges_on, led_to, root_to, roots_on, tree_on, trees_of, trees_on, AreBelow, IsBelow}

-- what stands at a place of a list, whatever follows it
pub get_front : {X : Type 0} (xs ys : List X) (i : ℕ) → i < length xs → slice_get (xs ++ ys) i ≡ slice_get xs i
get_front [] ys i h = absurd (omega arith)
get_front (x ∷ xs) ys zero h = refl
get_front (x ∷ xs) ys (suc i) h = get_front xs ys i (omega arith)

-- what follows a list
pub get_next : {X : Type 0} (xs ys : List X) (y : X) → slice_get (xs ++ y ∷ ys) (length xs) ≡ Some y
get_next [] ys y = refl
get_next (x ∷ xs) ys y = get_next xs ys y

-- where something stands at a place
pub get_there : {X : Type 0} (xs : List X) (i : ℕ) → i < length xs → (x : X) × (slice_get xs i ≡ Some x)
get_there [] i h = absurd (omega arith)
get_there (x ∷ xs) zero h = (x, refl)
get_there (x ∷ xs) (suc i) h = get_there xs i (omega arith)

-- where the number of a key leads to one of so many nodes
pub first_below : {K : Type 0} (lt : K → K → Bool) (own : ℕ) (es : List (K × ℕ)) → ((e : K × ℕ) → In e es → e.1 < own) → (key : K) (i : ℕ) → first_to lt es key ≡ Some i → i < own
first_below lt own [] below key i h = absurd cc
first_below lt own (e ∷ es) below key i h = by_key (same lt e.0 key) h (first_below lt own es (λ f j. below f (inr j)) key i)
  where
    by_key : (b : Bool) → cond b (Some e.1) (first_to lt es key) ≡ Some i → (first_to lt es key ≡ Some i → i < own) → i < own
    by_key true d r = let s : e.1 ≡ i = cc in let b = below e (inl refl) in omega arith
    by_key false d r = r d

module _ {M K : Type 0} where
  longer : (ts : List (Tree M K)) (n : Node M K) → length (ts ++ tree_on ts n ∷ []) ≡ suc (length ts)
  longer ts n = length-append ts (tree_on ts n ∷ []) ∙ omega arith

  -- the trees that stand are kept
  kept : (ns : List (Node M K)) (ts : List (Tree M K)) (i : ℕ) → i < length ts → slice_get (trees_on ts ns) i ≡ slice_get ts i
  kept [] ts i h = refl
  kept (n ∷ ns) ts i h = kept ns (ts ++ tree_on ts n ∷ []) i (omega (arith, longer ts n)) ∙ get_front ts (tree_on ts n ∷ []) i h

  as_many : (ns : List (Node M K)) (ts : List (Tree M K)) → length (trees_on ts ns) ≡ length ts + length ns
  as_many [] ts = omega arith
  as_many (n ∷ ns) ts = as_many ns (ts ++ tree_on ts n ∷ []) ∙ omega (arith, longer ts n)

  -- lists of trees with the same ones below a number
  abbrev Agree : ℕ → List (Tree M K) → List (Tree M K) → Type 0
  Agree own ts us = (i : ℕ) → i < own → slice_get ts i ≡ slice_get us i

  same_led : (own : ℕ) (ts us : List (Tree M K)) → Agree own ts us → (o : Option ℕ) → ((i : ℕ) → o ≡ Some i → i < own) → led_to ts o ≡ led_to us o
  same_led own ts us a None below = refl
  same_led own ts us a (Some i) below = ap as_maybe (a i (below i refl))

  same_edges : (own : ℕ) (ts us : List (Tree M K)) → Agree own ts us → (es : List (K × ℕ)) → ((e : K × ℕ) → In e es → e.1 < own) → edges_on ts es ≡ edges_on us es
  same_edges own ts us a [] below = refl
  same_edges own ts us a (e ∷ es) below =
      let first = ap as_maybe (a e.1 (below e (inl refl))) in
      let rest = same_edges own ts us a es (λ f i. below f (inr i)) in
      λ i. edge_to e.0 (first i) (rest i)

  same_tree : (own : ℕ) (ts us : List (Tree M K)) → Agree own ts us → (n : Node M K) → IsBelow own n → tree_on ts n ≡ tree_on us n
  same_tree own ts us a n b =
      let other = same_led own ts us a n.no b.no_part in
      let edges = same_edges own ts us a n.edges b.edges_part in
      λ i. Try n.mv (other i) (edges i)

  placed : (ns : List (Node M K)) (ts : List (Tree M K)) → ((k : ℕ) (n : Node M K) → slice_get ns k ≡ Some n → IsBelow (length ts + k) n) → (k : ℕ) (n : Node M K) → slice_get ns k ≡ Some n →
      slice_get (trees_on ts ns) (length ts + k) ≡ Some (tree_on (trees_on ts ns) n)
  placed [] ts below k n e = absurd cc
  placed (m ∷ ns) ts below zero n e =
      let same : m ≡ n = cc in
      let more = ts ++ tree_on ts m ∷ [] in
      ap (slice_get (trees_on more ns)) (omega arith)
      ∙ kept ns more (length ts) (omega (arith, longer ts m))
      ∙ get_next ts [] (tree_on ts m)
      ∙ ap Some (same_tree (length ts + 0) ts (trees_on more ns) (λ i h. sym (kept ns more i (omega (arith, longer ts m)) ∙ get_front ts (tree_on ts m ∷ []) i (omega arith))) m (below 0 m refl))
      ∙ ap (λ x. Some (tree_on (trees_on more ns) x)) same
  placed (m ∷ ns) ts below (suc k) n e =
      let more = ts ++ tree_on ts m ∷ [] in
      let at : length more + k ≡ length ts + suc k = omega (arith, longer ts m) in
      ap (slice_get (trees_on more ns)) (sym at)
      ∙ placed ns more (λ j x h. subst (λ i. IsBelow i x) (omega (arith, longer ts m)) (below (suc j) x h)) k n e

  -- as many trees as nodes
  pub trees_length : (ns : List (Node M K)) → length (trees_of ns) ≡ length ns
  unfolding trees_of
  trees_length ns = as_many ns [] ∙ omega arith

  -- the tree of a node stands on those of all
  pub node_tree : (ns : List (Node M K)) → AreBelow ns → (i : ℕ) (n : Node M K) → slice_get ns i ≡ Some n → led_to (trees_of ns) (Some i) ≡ Just (tree_on (trees_of ns) n)
  unfolding trees_of
  node_tree ns below i n e = ap as_maybe (ap (slice_get (trees_on [] ns)) (omega arith) ∙ placed ns [] (λ k x h. subst (λ j. IsBelow j x) (omega arith) (below k x h)) i n e)

  -- a number below the length leads to a tree
  leads : (ts : List (Tree M K)) (i : ℕ) → i < length ts → (n : Tree M K) × (led_to ts (Some i) ≡ Just n)
  leads ts i h = let t = get_there ts i h in (t.0, ap as_maybe t.1)

  -- the tree at the first edge with a key is that which its number leads to
  pub edge_tree : (lt : K → K → Bool) (ts : List (Tree M K)) (es : List (K × ℕ)) → ((e : K × ℕ) → In e es → e.1 < length ts) → (key : K) → first_edge lt (edges_on ts es) key ≡ led_to ts (first_to lt es key)
  edge_tree lt ts [] below key = refl
  edge_tree lt ts (e ∷ es) below key =
      let n = leads ts e.1 (below e (inl refl)) in
      ap (λ m. first_edge lt (edge_to e.0 m (edges_on ts es)) key) n.1
      ∙ by_key (same lt e.0 key) n.0 n.1 (edge_tree lt ts es (λ f i. below f (inr i)) key)
    where
      by_key : (b : Bool) (n : Tree M K) → led_to ts (Some e.1) ≡ Just n → first_edge lt (edges_on ts es) key ≡ led_to ts (first_to lt es key) →
          cond b (Just n) (first_edge lt (edges_on ts es) key) ≡ led_to ts (cond b (Some e.1) (first_to lt es key))
      by_key true n h r = sym h
      by_key false n h r = r

  -- and so at the first root
  pub root_tree : {R : Type 0} (lt : R → R → Bool) (ts : List (Tree M K)) (rs : List (R × ℕ)) → ((r : R × ℕ) → In r rs → r.1 < length ts) → (key : R) → first_root lt (roots_on ts rs) key ≡ led_to ts (first_to lt rs key)
  root_tree lt ts [] below key = refl
  root_tree {R = R} lt ts (e ∷ es) below key =
      let n = leads ts e.1 (below e (inl refl)) in
      ap (λ m. first_root lt (root_to e.0 m (roots_on ts es)) key) n.1
      ∙ by_key (same lt e.0 key) n.0 n.1 (root_tree lt ts es (λ f i. below f (inr i)) key)
    where
      by_key : (b : Bool) (n : Tree M K) → led_to ts (Some e.1) ≡ Just n → first_root lt (roots_on ts es) key ≡ led_to ts (first_to lt es key) →
          cond b (Just n) (first_root lt (roots_on ts es) key) ≡ led_to ts (cond b (Some e.1) (first_to lt es key))
      by_key true n h r = sym h
      by_key false n h r = r
