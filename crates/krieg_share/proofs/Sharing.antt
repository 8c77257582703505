-- The nodes of a canonical plan unfold to it, and no set has two.
use Rattle.std.proofs.Common.{◌≡◌, ℕ, zero, suc, ◌<◌, ◌≤◌, Bool, true, false, cond, ◌⊎◌, List, [], ◌∷◌, ◌++◌, inl, inr, length, map, refl, sym, ap, ◌∙◌, subst, arith, Some, None, length-append}
use Rattle.std.specs.Prelude.{slice_get}
use Rattle.std.proofs.lemmas.Bool.{both_ways}
use Rattle.std.proofs.lemmas.List.{append_assoc}
use Rattle.std.proofs.lemmas.Option.{slice_get_within}
use Rattle.krieg_theory.specs.Sets.{In, is_nil}
use Rattle.krieg_theory.specs.Tree.{Tree, Try, Maybe, Nothing, Just, Edges, NoEdges, Edge, size, size_other, size_edges}
use Rattle.krieg_theory.specs.Game.{Game, IsGame}
use Rattle.krieg_theory.specs.Split.{refused, class}
use Rattle.krieg_theory.specs.Canonical.{edge_keys, IsCanon, IsCanonOther, AreCanon}
use Rattle.krieg_theory.specs.Plans.{Outset, Plan, opening_set, AreCanonRoots}
use Rattle.krieg_theory.proofs.Lists.{any_at, any_from, append_in, in_append_left, in_append_right, map_in}
use Rattle.krieg_theory.proofs.Theorems.{canon_is_one}
use Rattle.krieg_costs.specs.Sums.{same_list}
use Rattle.krieg_costs.proofs.Pairs.{same_list_eq, same_list_refl}
use Rattle.krieg_costs.proofs.Onces.{once_append}
use Rattle.krieg_strategy.specs.Nodes.{Node}
use Rattle.krieg_strategy.specs.WellFormed.{IsBelow}
use Rattle.krieg_strategy.specs.Unfolded.{as_maybe, led_to, edge_to, edges_on, tree_on, trees_on, root_to, roots_on, unfold_plan}
unfoldable use Rattle.krieg_strategy.specs.Unfolded.{trees_of}
use Rattle.krieg_share.specs.Sharing.{Shared, nothing_shared, has_node, number_of, refused_number, node_for, with_own, share, share_other, share_edges, share_roots, shared, shared_roots, AreShared}
use Rattle.krieg_strategy.proofs.Unfolding.{get_front, get_next, trees_length}

pub no_more : {X : Type 0} (xs : List X) → xs ++ [] ≡ xs
no_more [] = refl
no_more (x ∷ xs) = ap (λ ys. x ∷ ys) (no_more xs)

-- what holds at each place of a list, and of what is put behind it, holds at each place of both
pub at_each : {X : Type 0} (xs : List X) (x : X) (P : ℕ → X → Type 0) → ((i : ℕ) (y : X) → slice_get xs i ≡ Some y → P i y) → P (length xs) x → (i : ℕ) (y : X) → slice_get (xs ++ x ∷ []) i ≡ Some y → P i y
at_each [] x P old new zero y e = let d : x ≡ y = cc in subst (P zero) d new
at_each [] x P old new (suc i) y e = absurd cc
at_each (z ∷ xs) x P old new zero y e = old zero y e
at_each (z ∷ xs) x P old new (suc i) y e = at_each xs x (λ j w. P (suc j) w) (λ j w h. old (suc j) w h) new i y e

module _ {M K : Type 0} where
  more_trees : (ns : List (Node M K)) (ts : List (Tree M K)) (n : Node M K) → trees_on ts (ns ++ n ∷ []) ≡ trees_on ts ns ++ tree_on (trees_on ts ns) n ∷ []
  more_trees [] ts n = refl
  more_trees (m ∷ ns) ts n = more_trees ns (ts ++ tree_on ts m ∷ []) n

  -- the tree of a node that is put behind others
  pub next_tree : (ns : List (Node M K)) (n : Node M K) → trees_of (ns ++ n ∷ []) ≡ trees_of ns ++ tree_on (trees_of ns) n ∷ []
  unfolding trees_of
  next_tree ns n = more_trees ns [] n

module _ (G : Game) where
  -- nodes have come behind those that stand
  pub record Grows (s s' : Shared G) : Type 0 where
    pub sets : (more : List (List G.Position)) × (s'.sets ≡ s.sets ++ more)
    pub nodes : (more : List (Node G.Move G.Key)) × (s'.nodes ≡ s.nodes ++ more)

  pub grows_none : (s : Shared G) → Grows s s
  grows_none s = record { sets = ([], sym (no_more s.sets)); nodes = ([], sym (no_more s.nodes)) }

  pub grows_then : (a b c : Shared G) → Grows a b → Grows b c → Grows a c
  grows_then a b c g h = record {
    sets = (g.sets.0 ++ h.sets.0, h.sets.1 ∙ ap (λ xs. xs ++ h.sets.0) g.sets.1 ∙ append_assoc a.sets g.sets.0 h.sets.0);
    nodes = (g.nodes.0 ++ h.nodes.0, h.nodes.1 ∙ ap (λ xs. xs ++ h.nodes.0) g.nodes.1 ∙ append_assoc a.nodes g.nodes.0 h.nodes.0);
  }

  grows_unless : (b : Bool) (s s' : Shared G) → Grows s s' → Grows s (cond b s s')
  grows_unless true s s' g = grows_none s
  grows_unless false s s' g = g

  pub own_grows : (B : List G.Position) (t : G.Move) (ks : List G.Key) (s : Shared G) → Grows s (with_own G B t ks s)
  own_grows B t ks s = record { sets = (B ∷ [], refl); nodes = (node_for G s.sets B t ks ∷ [], refl) }

  mutual
    pub share_grows : (n : Tree G.Move G.Key) (B : List G.Position) (s : Shared G) → Grows s (share G n B s)
    share_grows (Try t other es) B s =
        let s1 = share_other G other (refused G B t) s in
        let s2 = share_edges G es B t s1 in
        let inner = grows_then s s1 s2 (other_grows other (refused G B t) s) (edges_grow es B t s1) in
        grows_unless (has_node G B s.sets) s (with_own G B t (edge_keys es) s2) (grows_then s s2 (with_own G B t (edge_keys es) s2) inner (own_grows B t (edge_keys es) s2))

    pub other_grows : (m : Maybe G.Move G.Key) (R : List G.Position) (s : Shared G) → Grows s (share_other G m R s)
    other_grows Nothing R s = grows_none s
    other_grows (Just n) R s = share_grows n R s

    pub edges_grow : (es : Edges G.Move G.Key) (B : List G.Position) (t : G.Move) (s : Shared G) → Grows s (share_edges G es B t s)
    edges_grow NoEdges B t s = grows_none s
    edges_grow (Edge key n es) B t s =
        let s1 = share G n (class G B t key) s in
        grows_then s s1 (share_edges G es B t s1) (share_grows n (class G B t key) s) (edges_grow es B t s1)

  -- a set keeps its node
  pub still_in : (s s' : Shared G) → Grows s s' → (X : List G.Position) → In X s.sets → In X s'.sets
  still_in s s' g X i = subst (In X) (sym g.sets.1) (in_append_left s.sets g.sets.0 X i)

module _ (G : Game) (L : IsGame G) where
  pub node_in : (B : List G.Position) (Xs : List (List G.Position)) → has_node G B Xs ≡ true → In B Xs
  node_in B Xs h =
      let a = any_at (λ X. same_list G.position_lt X B) Xs h in
      subst (λ X. In X Xs) (same_list_eq G.position_lt L.position_order a.0 B a.2) a.1

  pub no_node_in : (B : List G.Position) (Xs : List (List G.Position)) → has_node G B Xs ≡ false → In B Xs → ⊥
  no_node_in B Xs h i = both_ways (has_node G B Xs) h (any_from (λ X. same_list G.position_lt X B) Xs B i (same_list_refl G.position_lt L.position_order B))

  -- at its number stands the set
  pub number_at : (B : List G.Position) (Xs : List (List G.Position)) → In B Xs → slice_get Xs (number_of G B Xs) ≡ Some B
  number_at B [] i = absurd i
  number_at B (X ∷ Xs) i = go (same_list G.position_lt X B) refl i (number_at B Xs)
    where
      go : (b : Bool) → same_list G.position_lt X B ≡ b → (X ≡ B) ⊎ In B Xs → (In B Xs → slice_get Xs (number_of G B Xs) ≡ Some B) → slice_get (X ∷ Xs) (cond b zero (suc (number_of G B Xs))) ≡ Some B
      go true e j r = ap Some (same_list_eq G.position_lt L.position_order X B e)
      go false e (inl d) r = absurd (both_ways (same_list G.position_lt X B) e (subst (λ Y. same_list G.position_lt X Y ≡ true) d (same_list_refl G.position_lt L.position_order X)))
      go false e (inr j) r = r j

  pub number_within : (B : List G.Position) (Xs : List (List G.Position)) → In B Xs → number_of G B Xs < length Xs
  number_within B Xs i = slice_get_within Xs (number_of G B Xs) B (number_at B Xs i)

  -- it stays where more sets come behind
  pub number_kept : (B : List G.Position) (Xs Ys : List (List G.Position)) → In B Xs → number_of G B (Xs ++ Ys) ≡ number_of G B Xs
  number_kept B [] Ys i = absurd i
  number_kept B (X ∷ Xs) Ys i = go (same_list G.position_lt X B) refl i (number_kept B Xs Ys)
    where
      go : (b : Bool) → same_list G.position_lt X B ≡ b → (X ≡ B) ⊎ In B Xs → (In B Xs → number_of G B (Xs ++ Ys) ≡ number_of G B Xs) → cond b zero (suc (number_of G B (Xs ++ Ys))) ≡ cond b zero (suc (number_of G B Xs))
      go true e j r = refl
      go false e (inl d) r = absurd (both_ways (same_list G.position_lt X B) e (subst (λ Y. same_list G.position_lt X Y ≡ true) d (same_list_refl G.position_lt L.position_order X)))
      go false e (inr j) r = ap suc (r j)

  -- the set of a canonical node that is not too large
  abbrev IsSmall : ℕ → List G.Position → Type 0
  IsSmall k X = (m : Tree G.Move G.Key) × IsCanon G m X × (size m ≤ k)

  mutual
    -- the sets that get a node are those of canonical nodes within the tree
    new_in : (n : Tree G.Move G.Key) (B : List G.Position) (s : Shared G) → IsCanon G n B → (X : List G.Position) → In X (share G n B s).sets → In X s.sets ⊎ IsSmall (size n) X
    new_in (Try t other es) B s c X i =
        go (has_node G B s.sets) i (new_other other (refused G B t) s c.refused_part X) (new_edges es B t (share_other G other (refused G B t) s) c.parts X)
      where
        s1 : Shared G
        s1 = share_other G other (refused G B t) s

        s2 : Shared G
        s2 = share_edges G es B t s1

        behind : In X s1.sets ⊎ IsSmall (size_edges es) X → (In X s1.sets → In X s.sets ⊎ IsSmall (size_other other) X) → In X s.sets ⊎ IsSmall (size (Try t other es)) X
        behind (inr m) f = inr (m.0, m.1, (let l = m.2 in omega arith))
        behind (inl j) f = first (f j)
          where
            first : In X s.sets ⊎ IsSmall (size_other other) X → In X s.sets ⊎ IsSmall (size (Try t other es)) X
            first (inl k) = inl k
            first (inr m) = inr (m.0, m.1, (let l = m.2 in omega arith))

        placed : In X s2.sets ⊎ In X (B ∷ []) → (In X s1.sets → In X s.sets ⊎ IsSmall (size_other other) X) → (In X s2.sets → In X s1.sets ⊎ IsSmall (size_edges es) X) → In X s.sets ⊎ IsSmall (size (Try t other es)) X
        placed (inl j) f g = behind (g j) f
        placed (inr (inl e)) f g = inr (Try t other es, subst (λ Y. IsCanon G (Try t other es) Y) e c, omega arith)
        placed (inr (inr j)) f g = absurd j

        go : (b : Bool) → In X (cond b s (with_own G B t (edge_keys es) s2)).sets → (In X s1.sets → In X s.sets ⊎ IsSmall (size_other other) X) → (In X s2.sets → In X s1.sets ⊎ IsSmall (size_edges es) X) → In X s.sets ⊎ IsSmall (size (Try t other es)) X
        go true j f g = inl j
        go false j f g = placed (append_in s2.sets (B ∷ []) X j) f g

    new_other : (m : Maybe G.Move G.Key) (R : List G.Position) (s : Shared G) → IsCanonOther G m R → (X : List G.Position) → In X (share_other G m R s).sets → In X s.sets ⊎ IsSmall (size_other m) X
    new_other Nothing R s c X i = inl i
    new_other (Just n) R s c X i = new_in n R s c.1 X i

    new_edges : (es : Edges G.Move G.Key) (B : List G.Position) (t : G.Move) (s : Shared G) → AreCanon G es B t → (X : List G.Position) → In X (share_edges G es B t s).sets → In X s.sets ⊎ IsSmall (size_edges es) X
    new_edges NoEdges B t s c X i = inl i
    new_edges (Edge key n es) B t s c X i = go (new_edges es B t s1 c.1 X i) (new_in n (class G B t key) s c.0 X)
      where
        s1 : Shared G
        s1 = share G n (class G B t key) s

        first : In X s.sets ⊎ IsSmall (size n) X → In X s.sets ⊎ IsSmall (size_edges (Edge key n es)) X
        first (inl k) = inl k
        first (inr m) = inr (m.0, m.1, (let l = m.2 in omega arith))

        go : In X s1.sets ⊎ IsSmall (size_edges es) X → (In X s1.sets → In X s.sets ⊎ IsSmall (size n) X) → In X s.sets ⊎ IsSmall (size_edges (Edge key n es)) X
        go (inl j) f = first (f j)
        go (inr m) f = inr (m.0, m.1, (let l = m.2 in omega arith))

  -- so a set gets no node before its own
  pub none_before : (t : G.Move) (other : Maybe G.Move G.Key) (es : Edges G.Move G.Key) (B : List G.Position) (s : Shared G) → IsCanon G (Try t other es) B → has_node G B s.sets ≡ false
      → In B (share_edges G es B t (share_other G other (refused G B t) s)).sets → ⊥
  none_before t other es B s c h i = late (new_edges es B t s1 c.parts B i)
    where
      s1 : Shared G
      s1 = share_other G other (refused G B t) s

      too_small : (k : ℕ) → k < size (Try t other es) → IsSmall k B → ⊥
      too_small k l m = let e = ap size (canon_is_one G L m.0 (Try t other es) B m.1 c) in let a = m.2 in absurd (omega arith)

      early : In B s.sets ⊎ IsSmall (size_other other) B → ⊥
      early (inl j) = no_node_in B s.sets h j
      early (inr m) = too_small (size_other other) (omega arith) m

      late : In B s1.sets ⊎ IsSmall (size_edges es) B → ⊥
      late (inl j) = early (new_other other (refused G B t) s c.refused_part B j)
      late (inr m) = too_small (size_edges es) (omega arith) m

  pub none_shared : AreShared G (nothing_shared G)
  none_shared = record { as_many = refl; once = tt; below = λ i n e. absurd cc; canonical = λ i X e. absurd cc }

  module _ (s : Shared G) (a : AreShared G s) where
    -- the number of a set leads to its canonical tree
    pub leads : (X : List G.Position) (n : Tree G.Move G.Key) → IsCanon G n X → In X s.sets → led_to (trees_of s.nodes) (Some (number_of G X s.sets)) ≡ Just n
    leads X n c i =
        let r = a.canonical (number_of G X s.sets) X (number_at X s.sets i) in
        ap as_maybe r.2 ∙ ap Just (canon_is_one G L r.0 n X r.1 c)

    leads_other : (m : Maybe G.Move G.Key) (R : List G.Position) → IsCanonOther G m R → (is_nil R ≡ false → In R s.sets) → led_to (trees_of s.nodes) (refused_number G R s.sets) ≡ m
    leads_other Nothing R c i = ap (λ b. led_to (trees_of s.nodes) (cond b None (Some (number_of G R s.sets)))) c
    leads_other (Just n) R c i = ap (λ b. led_to (trees_of s.nodes) (cond b None (Some (number_of G R s.sets)))) c.0 ∙ leads R n c.1 (i c.0)

    leads_edges : (es : Edges G.Move G.Key) (B : List G.Position) (t : G.Move) → AreCanon G es B t → ((key : G.Key) → In key (edge_keys es) → In (class G B t key) s.sets)
        → edges_on (trees_of s.nodes) (map (λ key. (key, number_of G (class G B t key) s.sets)) (edge_keys es)) ≡ es
    leads_edges NoEdges B t c i = refl
    leads_edges (Edge key n es) B t c i =
        let first = leads (class G B t key) n c.0 (i key (inl refl)) in
        let rest = leads_edges es B t c.1 (λ k j. i k (inr j)) in
        λ x. edge_to key (first x) (rest x)

    -- the node of a set whose parts have theirs
    module _ (t : G.Move) (other : Maybe G.Move G.Key) (es : Edges G.Move G.Key) (B : List G.Position) (c : IsCanon G (Try t other es) B)
        (there : is_nil (refused G B t) ≡ false → In (refused G B t) s.sets) (parts : (key : G.Key) → In key (edge_keys es) → In (class G B t key) s.sets) where
      own : Node G.Move G.Key
      own = node_for G s.sets B t (edge_keys es)

      own_tree : tree_on (trees_of s.nodes) (node_for G s.sets B t (edge_keys es)) ≡ Try t other es
      own_tree =
          let o = leads_other other (refused G B t) c.refused_part there in
          let e = leads_edges es B t c.parts parts in
          λ x. Try t (o x) (e x)

      pub own_below : IsBelow (length s.nodes) (node_for G s.sets B t (edge_keys es))
      own_below = record { no_part = λ i e. no_part (is_nil (refused G B t)) refl i e; edges_part = λ e i. edges_part e (map_in (λ key. (key, number_of G (class G B t key) s.sets)) (edge_keys es) e i) }
        where
          low : (X : List G.Position) → In X s.sets → number_of G X s.sets < length s.nodes
          low X j = let w = number_within X s.sets j in let m = a.as_many in omega arith

          no_part : (b : Bool) → is_nil (refused G B t) ≡ b → (i : ℕ) → cond b None (Some (number_of G (refused G B t) s.sets)) ≡ Some i → i < length s.nodes
          no_part true n i e = absurd cc
          no_part false n i e = let d : number_of G (refused G B t) s.sets ≡ i = cc in let l = low (refused G B t) (there n) in omega arith

          edges_part : (e : G.Key × ℕ) → (key : G.Key) × In key (edge_keys es) × ((key, number_of G (class G B t key) s.sets) ≡ e) → e.1 < length s.nodes
          edges_part e k = let d = ap (λ (x : G.Key × ℕ). x.1) k.2 in let l = low (class G B t k.0) (parts k.0 k.1) in omega arith

      pub own_shared : (In B s.sets → ⊥) → AreShared G (with_own G B t (edge_keys es) s)
      own_shared none = record {
        as_many = length-append s.nodes (node_for G s.sets B t (edge_keys es) ∷ []) ∙ (let m = a.as_many in omega (arith, length-append s.sets (B ∷ [])));
        once = once_append s.sets (B ∷ []) a.once ((λ i. absurd i), tt) (λ X i j. apart X i j);
        below = at_each s.nodes (node_for G s.sets B t (edge_keys es)) (λ i n. IsBelow i n) a.below own_below;
        canonical = at_each s.sets B Has (λ i X e. old i X (a.canonical i X e)) (Try t other es, c, new);
      }
        where
          nd : Node G.Move G.Key
          nd = node_for G s.sets B t (edge_keys es)

          apart : (X : List G.Position) → In X s.sets → In X (B ∷ []) → ⊥
          apart X i (inl e) = none (subst (λ Y. In Y s.sets) (sym e) i)
          apart X i (inr j) = absurd j

          Has : ℕ → List G.Position → Type 0
          Has i X = (n : Tree G.Move G.Key) × IsCanon G n X × (slice_get (trees_of (s.nodes ++ node_for G s.sets B t (edge_keys es) ∷ [])) i ≡ Some n)

          trees : trees_of (s.nodes ++ node_for G s.sets B t (edge_keys es) ∷ []) ≡ trees_of s.nodes ++ tree_on (trees_of s.nodes) (node_for G s.sets B t (edge_keys es)) ∷ []
          trees = next_tree s.nodes (node_for G s.sets B t (edge_keys es))

          old : (i : ℕ) (X : List G.Position) → (n : Tree G.Move G.Key) × IsCanon G n X × (slice_get (trees_of s.nodes) i ≡ Some n) → Has i X
          old i X r = (
            r.0,
            r.1,
            ap (λ ts. slice_get ts i) trees
                ∙ get_front (trees_of s.nodes) (tree_on (trees_of s.nodes) (node_for G s.sets B t (edge_keys es)) ∷ []) i (slice_get_within (trees_of s.nodes) i r.0 r.2) ∙ r.2,
          )

          new : slice_get (trees_of (s.nodes ++ node_for G s.sets B t (edge_keys es) ∷ [])) (length s.sets) ≡ Some (Try t other es)
          new =
              ap (λ ts. slice_get ts (length s.sets)) trees
              ∙ ap (slice_get (trees_of s.nodes ++ tree_on (trees_of s.nodes) (node_for G s.sets B t (edge_keys es)) ∷ [])) (sym a.as_many ∙ sym (trees_length s.nodes))
              ∙ get_next (trees_of s.nodes) [] (tree_on (trees_of s.nodes) (node_for G s.sets B t (edge_keys es)))
              ∙ ap Some own_tree

  mutual
    -- after a canonical tree was gone through all is as it should be, and its set has a node
    pub tree_shared : (n : Tree G.Move G.Key) (B : List G.Position) (s : Shared G) → IsCanon G n B → AreShared G s → AreShared G (share G n B s) × In B (share G n B s).sets
    tree_shared (Try t other es) B s c a =
        go (has_node G B s.sets) refl (other_shared other (refused G B t) s c.refused_part a) (edges_shared es B t (share_other G other (refused G B t) s) c.parts)
      where
        s1 : Shared G
        s1 = share_other G other (refused G B t) s

        s2 : Shared G
        s2 = share_edges G es B t s1

        go : (b : Bool) → has_node G B s.sets ≡ b → AreShared G s1 × (is_nil (refused G B t) ≡ false → In (refused G B t) s1.sets) → (AreShared G s1 → AreShared G s2 × ((key : G.Key) → In key (edge_keys es) → In (class G B t key) s2.sets))
            → AreShared G (cond b s (with_own G B t (edge_keys es) s2)) × In B (cond b s (with_own G B t (edge_keys es) s2)).sets
        go true e o f = (a, node_in B s.sets e)
        go false e o f =
            let r = f o.0 in (
              own_shared s2 r.0 t other es B c (λ n. still_in G s1 s2 (edges_grow G es B t s1) (refused G B t) (o.1 n)) r.1 (none_before t other es B s c e),
              in_append_right s2.sets (B ∷ []) B (inl refl),
            )

    pub other_shared : (m : Maybe G.Move G.Key) (R : List G.Position) (s : Shared G) → IsCanonOther G m R → AreShared G s → AreShared G (share_other G m R s) × (is_nil R ≡ false → In R (share_other G m R s).sets)
    other_shared Nothing R s c a = (a, λ n. absurd (both_ways (is_nil R) n c))
    other_shared (Just n) R s c a = let r = tree_shared n R s c.1 a in (r.0, λ h. r.1)

    pub edges_shared : (es : Edges G.Move G.Key) (B : List G.Position) (t : G.Move) (s : Shared G) → AreCanon G es B t → AreShared G s
        → AreShared G (share_edges G es B t s) × ((key : G.Key) → In key (edge_keys es) → In (class G B t key) (share_edges G es B t s).sets)
    edges_shared NoEdges B t s c a = (a, λ key i. absurd i)
    edges_shared (Edge key n es) B t s c a =
        let s1 = share G n (class G B t key) s in
        let h = tree_shared n (class G B t key) s c.0 a in
        let r = edges_shared es B t s1 c.1 h.0 in
        (r.0, λ k i. placed h.1 r.1 k i)
      where
        s1 : Shared G
        s1 = share G n (class G B t key) s

        placed : In (class G B t key) s1.sets → ((k : G.Key) → In k (edge_keys es) → In (class G B t k) (share_edges G es B t s1).sets) → (k : G.Key) → (key ≡ k) ⊎ In k (edge_keys es) → In (class G B t k) (share_edges G es B t s1).sets
        placed h r k (inl e) = subst (λ x. In (class G B t x) (share_edges G es B t s1).sets) e (still_in G s1 (share_edges G es B t s1) (edges_grow G es B t s1) (class G B t key) h)
        placed h r k (inr i) = r k i

module _ (G : Game) (L : IsGame G) (O : Outset G) where
  pub roots_grow : (plan : Plan G O) (S : List G.Position) (s : Shared G) → Grows G s (share_roots G O plan S s)
  roots_grow [] S s = grows_none G s
  roots_grow (r ∷ rs) S s =
      let s1 = share G r.1 (opening_set G O S r.0) s in
      grows_then G s s1 (share_roots G O rs S s1) (share_grows G r.1 (opening_set G O S r.0) s) (roots_grow rs S s1)

  pub roots_shared : (plan : Plan G O) (S : List G.Position) (s : Shared G) → AreCanonRoots G O plan S → AreShared G s
      → AreShared G (share_roots G O plan S s) × ((r : O.Root × Tree G.Move G.Key) → In r plan → In (opening_set G O S r.0) (share_roots G O plan S s).sets)
  roots_shared [] S s c a = (a, λ r i. absurd i)
  roots_shared (r ∷ rs) S s c a =
      let s1 = share G r.1 (opening_set G O S r.0) s in
      let h = tree_shared G L r.1 (opening_set G O S r.0) s c.0 a in
      let k = roots_shared rs S s1 c.1 h.0 in
      (k.0, λ q i. placed h.1 k.1 q i)
    where
      s1 : Shared G
      s1 = share G r.1 (opening_set G O S r.0) s

      placed : In (opening_set G O S r.0) s1.sets → ((q : O.Root × Tree G.Move G.Key) → In q rs → In (opening_set G O S q.0) (share_roots G O rs S s1).sets)
          → (q : O.Root × Tree G.Move G.Key) → (r ≡ q) ⊎ In q rs → In (opening_set G O S q.0) (share_roots G O rs S s1).sets
      placed h k q (inl e) = subst (λ (x : O.Root × Tree G.Move G.Key). In (opening_set G O S x.0) (share_roots G O rs S s1).sets) e (still_in G s1 (share_roots G O rs S s1) (roots_grow rs S s1) (opening_set G O S r.0) h)
      placed h k q (inr i) = k q i

  roots_lead : (s : Shared G) → AreShared G s → (plan : Plan G O) (S : List G.Position) → AreCanonRoots G O plan S → ((r : O.Root × Tree G.Move G.Key) → In r plan → In (opening_set G O S r.0) s.sets)
      → roots_on (trees_of s.nodes) (map (λ (r : O.Root × Tree G.Move G.Key). (r.0, number_of G (opening_set G O S r.0) s.sets)) plan) ≡ plan
  roots_lead s a [] S c i = refl
  roots_lead s a (r ∷ rs) S c i =
      let first = leads G L s a (opening_set G O S r.0) r.1 c.0 (i r (inl refl)) in
      let rest = roots_lead s a rs S c.1 (λ q j. i q (inr j)) in
      λ x. root_to r.0 (first x) (rest x)

  -- a canonical plan that is shared unfolds to itself
  pub shared_unfolds : (S : List G.Position) (plan : Plan G O) → AreCanonRoots G O plan S → unfold_plan (shared G O plan S).nodes (shared_roots G O plan S) ≡ plan
  shared_unfolds S plan c =
      let h = roots_shared plan S (nothing_shared G) c (none_shared G L) in
      roots_lead (shared G O plan S) h.0 plan S c h.1
