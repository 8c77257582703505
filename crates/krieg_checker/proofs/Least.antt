-- What is reached is closed, and is in every list that is.
use Rattle.std.proofs.Common.{◌≡◌, Bool, true, false, not, cond, List, [], ◌∷◌, ◌++◌, inl, inr, flat_map, refl, sym, ap, subst}
use Rattle.krieg_checker.proofs.Common.{In, same, Tree, Try, Maybe, Nothing, Just, Edges, NoEdges, Edge, first_edge, first_root, Game, IsGame, refused, class, given, all_outcomes, Outset, IsOutset, Plan, openings, opening_set, all_starts, From, No, On, Path, Pair, pair_at, first_pairs, next_at, next_pairs, IsClosed, reached, reached_other, reached_at, reached_from, ReachedIsLeast}
use Rattle.krieg_theory.proofs.Ascending.{in_as_set, as_set_in}
use Rattle.krieg_theory.proofs.Keys.{at_key_in, in_at_key, key_occurs}
use Rattle.krieg_theory.proofs.Lists.{in_append_left, in_flat, flat_in, in_map, in_filter, filter_in}
use Rattle.krieg_theory.proofs.Steps.{in_outs}
use Rattle.krieg_checker.proofs.ReachedParts.{others, edges, by_part, in_others, in_after, in_rest}

module _ (G : Game) (O : Outset G) where
  -- what is reached along edges is reached at the first one with the key
  at_is : (path : Path G O) (es : Edges G.Move G.Key) (key : G.Key) (B : List G.Position) → reached_at G O path es key B ≡ reached_other G O path (first_edge G.key_lt es key) B
  at_is path NoEdges key B = refl
  at_is path (Edge key' n es) key B = go (same G.key_lt key' key) (at_is path es key B)
    where
      go : (b : Bool) → reached_at G O path es key B ≡ reached_other G O path (first_edge G.key_lt es key) B →
          cond b (reached G O path n B) (reached_at G O path es key B) ≡ reached_other G O path (cond b (Just n) (first_edge G.key_lt es key)) B
      go true h = refl
      go false h = h

  -- a member reaches the node
  member_there : (path : Path G O) (n : Tree G.Move G.Key) (B : List G.Position) (p : G.Position) → In p B → In (path, n, p) (reached G O path n B)
  member_there path (Try t other es) B p i = in_append_left _ _ (path, Try t other es, p) (in_map (λ p. (path, Try t other es, p)) B p i)

  pair_there : (path : Path G O) (o : Maybe G.Move G.Key) (B : List G.Position) (p : G.Position) (y : Pair G O) → In p B → In y (pair_at G O path o p) → In y (reached_other G O path o B)
  pair_there path Nothing B p y i j = absurd j
  pair_there path (Just n) B p y i (inl e) = subst (λ z. In z (reached G O path n B)) e (member_there path n B p i)
  pair_there path (Just n) B p y i (inr j) = absurd j

  module _ (L : IsGame G) where
    -- what comes next after a member at the node
    next_there : (path : Path G O) (t : G.Move) (other : Maybe G.Move G.Key) (es : Edges G.Move G.Key) (B : List G.Position) (p : G.Position) (y : Pair G O) → In p B → In y (next_at G O path (Try t other es) p) →
        In y (others G O path t other B ++ edges G O path t es B)
    next_there path t other es B p y i j = go (G.legal p t) refl j
      where
        go : (b : Bool) → G.legal p t ≡ b → In y (cond b (flat_map (λ o. pair_at G O (On o.0 ∷ path) (first_edge G.key_lt es o.0) o.1) (G.outcomes p t)) (pair_at G O (No ∷ path) other p)) →
            In y (others G O path t other B ++ edges G O path t es B)
        go true legal k =
            let o = flat_in (λ o. pair_at G O (On o.0 ∷ path) (first_edge G.key_lt es o.0) o.1) (G.outcomes p t) y k in
            let all = in_outs G L B t p o.0 i legal o.1 in
            let q = in_as_set G.position_lt L.position_order o.0.1 _ (in_at_key G.key_lt L.key_order o.0.0 (all_outcomes G B t) o.0 all refl) in
            in_after G O path t other es B y o.0.0 (key_occurs G.key_lt L.key_order (all_outcomes G B t) o.0 all)
            (subst (In y) (sym (at_is (On o.0.0 ∷ path) es o.0.0 (class G B t o.0.0))) (pair_there (On o.0.0 ∷ path) (first_edge G.key_lt es o.0.0) (class G B t o.0.0) o.0.1 y q o.2))
        go false illegal k = in_others G O path t other es B y (pair_there (No ∷ path) other (refused G B t) p y (in_filter (λ p. not (G.legal p t)) B p i (ap not illegal)) k)

    mutual
      closed : (path : Path G O) (n : Tree G.Move G.Key) (B : List G.Position) (x y : Pair G O) → In x (reached G O path n B) → In y (next_pairs G O x) → In y (reached G O path n B)
      closed path (Try t other es) B x y i j =
          in_rest G O path t other es B y
          (by_part G O path t other es B (In y (others G O path t other B ++ edges G O path t es B)) x i (λ p k e. next_there path t other es B p y k (subst (λ z. In y (next_pairs G O z)) (sym e) j))
          (λ k. in_others G O path t other es B y (closed_other (No ∷ path) other (refused G B t) x y k j))
          (λ key k l. in_after G O path t other es B y key k (closed_at (On key ∷ path) es key (class G B t key) x y l j)))

      closed_other : (path : Path G O) (o : Maybe G.Move G.Key) (B : List G.Position) (x y : Pair G O) → In x (reached_other G O path o B) → In y (next_pairs G O x) → In y (reached_other G O path o B)
      closed_other path Nothing B x y i j = absurd i
      closed_other path (Just n) B x y i j = closed path n B x y i j

      closed_at : (path : Path G O) (es : Edges G.Move G.Key) (key : G.Key) (B : List G.Position) (x y : Pair G O) → In x (reached_at G O path es key B) → In y (next_pairs G O x) → In y (reached_at G O path es key B)
      closed_at path NoEdges key B x y i j = absurd i
      closed_at path (Edge key' n es) key B x y i j = go (same G.key_lt key' key) i (λ k. closed path n B x y k j) (λ k. closed_at path es key B x y k j)
        where
          go : (b : Bool) → In x (cond b (reached G O path n B) (reached_at G O path es key B)) → (In x (reached G O path n B) → In y (reached G O path n B)) → (In x (reached_at G O path es key B) → In y (reached_at G O path es key B)) →
              In y (cond b (reached G O path n B) (reached_at G O path es key B))
          go true k f g = f k
          go false k f g = g k

    module _ (R : List (Pair G O)) (next : (x y : Pair G O) → In x R → In y (next_pairs G O x) → In y R) where
      -- a node that all members reach in R
      abbrev At : Path G O → Maybe G.Move G.Key → List G.Position → Type 0
      At path o B = (p : G.Position) (y : Pair G O) → In p B → In y (pair_at G O path o p) → In y R

      others_in : (path : Path G O) (t : G.Move) (other : Maybe G.Move G.Key) (es : Edges G.Move G.Key) (B : List G.Position) → At path (Just (Try t other es)) B → At (No ∷ path) other (refused G B t)
      others_in path t other es B here p y i j =
          let m = filter_in (λ p. not (G.legal p t)) B p i in
          next (path, Try t other es, p) y (here p (path, Try t other es, p) m.0 (inl refl)) (go (G.legal p t) m.1)
        where
          go : (b : Bool) → not b ≡ true → In y (cond b (flat_map (λ o. pair_at G O (On o.0 ∷ path) (first_edge G.key_lt es o.0) o.1) (G.outcomes p t)) (pair_at G O (No ∷ path) other p))
          go true e = absurd cc
          go false e = j

      edges_in : (path : Path G O) (t : G.Move) (other : Maybe G.Move G.Key) (es : Edges G.Move G.Key) (B : List G.Position) → At path (Just (Try t other es)) B → (key : G.Key) → At (On key ∷ path) (first_edge G.key_lt es key) (class G B t key)
      edges_in path t other es B here key q y i j =
          let o = at_key_in G.key_lt L.key_order key (all_outcomes G B t) q (as_set_in G.position_lt L.position_order q _ i) in
          let p = flat_in (given G t) B o.0 o.1 in
          next (path, Try t other es, p.0) y (here p.0 (path, Try t other es, p.0) p.1 (inl refl))
          (go p.0 (G.legal p.0 t) o.0 p.2 (subst (λ k. In y (pair_at G O (On k ∷ path) (first_edge G.key_lt es k) o.0.1)) (sym o.2) (subst (λ r. In y (pair_at G O (On key ∷ path) (first_edge G.key_lt es key) r)) (sym o.3) j)))
        where
          go : (p : G.Position) (b : Bool) (o : G.Key × G.Position) → In o (cond b (G.outcomes p t) []) → In y (pair_at G O (On o.0 ∷ path) (first_edge G.key_lt es o.0) o.1) → In y (cond b (flat_map (λ o. pair_at G O (On o.0 ∷ path) (first_edge G.key_lt es o.0) o.1) (G.outcomes p t)) (pair_at G O (No ∷ path) other p))
          go p true o k l = in_flat (λ o. pair_at G O (On o.0 ∷ path) (first_edge G.key_lt es o.0) o.1) (G.outcomes p t) o y k l
          go p false o k l = absurd k

      mutual
        least : (path : Path G O) (n : Tree G.Move G.Key) (B : List G.Position) → At path (Just n) B → (x : Pair G O) → In x (reached G O path n B) → In x R
        least path (Try t other es) B there x i =
            by_part G O path t other es B (In x R) x i (λ p k e. there p x k (inl e)) (λ k. least_other (No ∷ path) other (refused G B t) (others_in path t other es B there) x k)
            (λ key k l. least_at (On key ∷ path) es key (class G B t key) (edges_in path t other es B there key) x l)

        least_other : (path : Path G O) (o : Maybe G.Move G.Key) (B : List G.Position) → At path o B → (x : Pair G O) → In x (reached_other G O path o B) → In x R
        least_other path Nothing B here x i = absurd i
        least_other path (Just n) B here x i = least path n B here x i

        least_at : (path : Path G O) (es : Edges G.Move G.Key) (key : G.Key) (B : List G.Position) → At path (first_edge G.key_lt es key) B → (x : Pair G O) → In x (reached_at G O path es key B) → In x R
        least_at path NoEdges key B here x i = absurd i
        least_at path (Edge key' n es) key B here x i = go (same G.key_lt key' key) here i (λ h k. least path n B h x k) (λ h k. least_at path es key B h x k)
          where
            go : (b : Bool) → At path (cond b (Just n) (first_edge G.key_lt es key)) B → In x (cond b (reached G O path n B) (reached_at G O path es key B)) → (At path (Just n) B → In x (reached G O path n B) → In x R) →
                (At path (first_edge G.key_lt es key) B → In x (reached_at G O path es key B) → In x R) → In x R
            go true h k f g = f h k
            go false h k f g = g h k

    -- those at the root with a key
    abbrev at : Plan G O → List G.Position → O.Root → List (Pair G O)
    at plan S key = reached_other G O (From key ∷ []) (first_root O.root_lt plan key) (opening_set G O S key)

    pub reached_is_least : IsOutset G O → ReachedIsLeast G O
    reached_is_least LO plan S = (record { first = first; next = next }, least_of)
      where
        first : (x : Pair G O) → In x (first_pairs G O plan S) → In x (reached_from G O plan S)
        first x i =
            let s = flat_in (λ s. pair_at G O (From s.0 ∷ []) (first_root O.root_lt plan s.0) s.1) (all_starts G O S) x i in
            let q = in_as_set G.position_lt L.position_order s.0.1 _ (in_at_key O.root_lt LO.root_order s.0.0 (all_starts G O S) s.0 s.1 refl) in
            in_flat (at plan S) (openings G O S) s.0.0 x (key_occurs O.root_lt LO.root_order (all_starts G O S) s.0 s.1) (pair_there (From s.0.0 ∷ []) (first_root O.root_lt plan s.0.0) (opening_set G O S s.0.0) s.0.1 x q s.2)

        next : (x y : Pair G O) → In x (reached_from G O plan S) → In y (next_pairs G O x) → In y (reached_from G O plan S)
        next x y i j =
            let key = flat_in (at plan S) (openings G O S) x i in
            in_flat (at plan S) (openings G O S) key.0 y key.1 (closed_other (From key.0 ∷ []) (first_root O.root_lt plan key.0) (opening_set G O S key.0) x y key.2 j)

        least_of : (R : List (Pair G O)) → IsClosed G O plan S R → (x : Pair G O) → In x (reached_from G O plan S) → In x R
        least_of R c x i =
            let key = flat_in (at plan S) (openings G O S) x i in
            least_other R c.next (From key.0 ∷ []) (first_root O.root_lt plan key.0) (opening_set G O S key.0) (λ p y k l. starts key.0 p y k l) x key.2
          where
            starts : (key : O.Root) (p : G.Position) (y : Pair G O) → In p (opening_set G O S key) → In y (pair_at G O (From key ∷ []) (first_root O.root_lt plan key) p) → In y R
            starts key p y k l =
                let s = at_key_in O.root_lt LO.root_order key (all_starts G O S) p (as_set_in G.position_lt L.position_order p _ k) in
                c.first y (in_flat (λ s. pair_at G O (From s.0 ∷ []) (first_root O.root_lt plan s.0) s.1) (all_starts G O S) s.0 y s.1
                (subst (λ r. In y (pair_at G O (From r ∷ []) (first_root O.root_lt plan r) s.0.1)) (sym s.2) (subst (λ r. In y (pair_at G O (From key ∷ []) (first_root O.root_lt plan key) r)) (sym s.3) l)))
