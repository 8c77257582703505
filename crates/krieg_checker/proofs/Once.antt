-- No pair is reached twice.
use Rattle.std.proofs.Common.{◌≡◌, Bool, true, false, cond, List, [], ◌∷◌, ◌++◌, ◌⊎◌, inl, inr, map, length, sym, ap, ◌∙◌, arith, append_assoc, length-append}
use Rattle.krieg_checker.proofs.Common.{In, at_key, same, Tree, Try, Maybe, Nothing, Just, Edges, NoEdges, Edge, first_root, Game, IsGame, refused, keys, class, all_outcomes, Outset, IsOutset, openings, opening_set, all_starts, IsOnce, Step, From, No, On, Path, Pair, reached, reached_other, reached_at, ReachedIsOnce}
use Rattle.krieg_theory.proofs.Lists.{append_in, flat_in, map_in}
use Rattle.krieg_costs.proofs.Onces.{once_append, once_map, once_flat, once_filter, once_set}
use Rattle.krieg_checker.proofs.ReachedParts.{here, others, after, edges, by_part}

module _ {S : Type 0} where
  -- no path goes on from itself to itself
  not_longer : (path front : List S) (s : S) → path ≡ front ++ s ∷ path → ⊥
  not_longer path front s e = let n = ap (λ (xs : List S). length xs) e in let m = length-append front (s ∷ path) in absurd (omega (arith, n, m))

  -- two ways on from a path that end alike begin with the same step
  same_step : (path a b : List S) (s t : S) → a ++ s ∷ path ≡ b ++ t ∷ path → s ≡ t
  same_step path [] [] s t e = cc
  same_step path [] (y ∷ b) s t e = let f : path ≡ b ++ t ∷ path = cc in absurd (not_longer path b t f)
  same_step path (x ∷ a) [] s t e = let f : path ≡ a ++ s ∷ path = cc in absurd (not_longer path a s f)
  same_step path (x ∷ a) (y ∷ b) s t e = let f : a ++ s ∷ path ≡ b ++ t ∷ path = cc in same_step path a b s t f

  -- q goes on from the path
  abbrev Below : List S → List S → Type 0
  Below path q = (front : List S) × (q ≡ front ++ path)

  below_more : (s : S) (path q : List S) → Below (s ∷ path) q → Below path q
  below_more s path q b = (b.0 ++ s ∷ [], b.1 ∙ sym (append_assoc b.0 (s ∷ []) path))

  apart : (s t : S) (path q : List S) → Below (s ∷ path) q → Below (t ∷ path) q → s ≡ t
  apart s t path q a b = same_step path a.0 b.0 s t (sym a.1 ∙ b.1)

module _ (G : Game) (O : Outset G) where
  mutual
    below : (path : Path G O) (n : Tree G.Move G.Key) (B : List G.Position) (x : Pair G O) → In x (reached G O path n B) → Below path x.0
    below path (Try t other es) B x i =
        by_part G O path t other es B (Below path x.0) x i (λ p j e. ([], ap (λ (y : Pair G O). y.0) (sym e)))
        (λ j. below_more No path x.0 (below_other (No ∷ path) other (refused G B t) x j))
        (λ key k j. below_more (On key) path x.0 (below_at (On key ∷ path) es key (class G B t key) x j))

    below_other : (path : Path G O) (o : Maybe G.Move G.Key) (B : List G.Position) (x : Pair G O) → In x (reached_other G O path o B) → Below path x.0
    below_other path Nothing B x i = absurd i
    below_other path (Just n) B x i = below path n B x i

    below_at : (path : Path G O) (es : Edges G.Move G.Key) (key : G.Key) (B : List G.Position) (x : Pair G O) → In x (reached_at G O path es key B) → Below path x.0
    below_at path NoEdges key B x i = absurd i
    below_at path (Edge key' n es) key B x i = go (same G.key_lt key' key) i (below path n B x) (below_at path es key B x)
      where
        go : (b : Bool) → In x (cond b (reached G O path n B) (reached_at G O path es key B)) → (In x (reached G O path n B) → Below path x.0) → (In x (reached_at G O path es key B) → Below path x.0) → Below path x.0
        go true j f g = f j
        go false j f g = g j

  -- what stands at a node does not stand below it
  not_here : (path : Path G O) (n : Tree G.Move G.Key) (B : List G.Position) (s : Step O.Root G.Key) (x : Pair G O) → In x (map (λ p. (path, n, p)) B) → Below (s ∷ path) x.0 → ⊥
  not_here path n B s x i b =
      let p = map_in (λ p. (path, n, p)) B x i in
      not_longer path b.0 s (ap (λ (y : Pair G O). y.0) p.2 ∙ b.1)

  same_on : (a b : G.Key) → ◌≡◌ {A = Step O.Root G.Key} (On a) (On b) → a ≡ b
  same_on a b e = cc

  not_on : (k : G.Key) → ◌≡◌ {A = Step O.Root G.Key} No (On k) → ⊥
  not_on k e = cc

  same_from : (a b : O.Root) → ◌≡◌ {A = Step O.Root G.Key} (From a) (From b) → a ≡ b
  same_from a b e = cc

  -- no two parts have a pair in common
  module _ (path : Path G O) (t : G.Move) (other : Maybe G.Move G.Key) (es : Edges G.Move G.Key) (B : List G.Position) where
    keys_apart : (a b : G.Key) (x : Pair G O) → In x (after G O path t es B a) → In x (after G O path t es B b) → a ≡ b
    keys_apart a b x i j = same_on a b (apart (On a) (On b) path x.0 (below_at (On a ∷ path) es a (class G B t a) x i) (below_at (On b ∷ path) es b (class G B t b) x j))

    others_apart : (x : Pair G O) → In x (others G O path t other B) → In x (edges G O path t es B) → ⊥
    others_apart x i j =
        let k = flat_in (after G O path t es B) (keys G B t) x j in
        not_on k.0 (apart No (On k.0) path x.0 (below_other (No ∷ path) other (refused G B t) x i) (below_at (On k.0 ∷ path) es k.0 (class G B t k.0) x k.2))

    here_apart : (x : Pair G O) → In x (here G O path (Try t other es) B) → In x (others G O path t other B ++ edges G O path t es B) → ⊥
    here_apart x i j = go (append_in (others G O path t other B) (edges G O path t es B) x j)
      where
        go : In x (others G O path t other B) ⊎ In x (edges G O path t es B) → ⊥
        go (inl k) = not_here path (Try t other es) B No x i (below_other (No ∷ path) other (refused G B t) x k)
        go (inr k) =
            let key = flat_in (after G O path t es B) (keys G B t) x k in
            not_here path (Try t other es) B (On key.0) x i (below_at (On key.0 ∷ path) es key.0 (class G B t key.0) x key.2)

  module _ (L : IsGame G) where
    once_keys : (B : List G.Position) (t : G.Move) → IsOnce (keys G B t)
    once_keys B t = once_set G.key_lt L.key_order (map (λ o. o.0) (all_outcomes G B t))

    once_class : (B : List G.Position) (t : G.Move) (key : G.Key) → IsOnce (class G B t key)
    once_class B t key = once_set G.position_lt L.position_order (at_key G.key_lt key (all_outcomes G B t))

    mutual
      once : (path : Path G O) (n : Tree G.Move G.Key) (B : List G.Position) → IsOnce B → IsOnce (reached G O path n B)
      once path (Try t other es) B h =
          once_append (here G O path (Try t other es) B) (others G O path t other B ++ edges G O path t es B)
          (once_map (λ p. (path, Try t other es, p)) B (λ a b e. ap (λ (y : Pair G O). y.2) e) h)
          (once_append (others G O path t other B) (edges G O path t es B) (once_other (No ∷ path) other (refused G B t) (once_filter _ B h))
          (once_flat (after G O path t es B) (keys G B t) (once_keys B t) (λ key. once_at (On key ∷ path) es key (class G B t key) (once_class B t key)) (keys_apart path t other es B))
          (others_apart path t other es B))
          (here_apart path t other es B)

      once_other : (path : Path G O) (o : Maybe G.Move G.Key) (B : List G.Position) → IsOnce B → IsOnce (reached_other G O path o B)
      once_other path Nothing B h = tt
      once_other path (Just n) B h = once path n B h

      once_at : (path : Path G O) (es : Edges G.Move G.Key) (key : G.Key) (B : List G.Position) → IsOnce B → IsOnce (reached_at G O path es key B)
      once_at path NoEdges key B h = tt
      once_at path (Edge key' n es) key B h = go (same G.key_lt key' key) (once path n B h) (once_at path es key B h)
        where
          go : (b : Bool) → IsOnce (reached G O path n B) → IsOnce (reached_at G O path es key B) → IsOnce (cond b (reached G O path n B) (reached_at G O path es key B))
          go true f g = f
          go false f g = g

    pub reached_is_once : IsOutset G O → ReachedIsOnce G O
    reached_is_once LO plan S =
        once_flat (λ key. reached_other G O (From key ∷ []) (first_root O.root_lt plan key) (opening_set G O S key)) (openings G O S) (once_set O.root_lt LO.root_order (map (λ o. o.0) (all_starts G O S)))
        (λ key. once_other (From key ∷ []) (first_root O.root_lt plan key) (opening_set G O S key) (once_set G.position_lt L.position_order (at_key O.root_lt key (all_starts G O S))))
        (λ a b y i j. same_from a b (apart (From a) (From b) [] y.0 (below_other (From a ∷ []) (first_root O.root_lt plan a) (opening_set G O S a) y i) (below_other (From b ∷ []) (first_root O.root_lt plan b) (opening_set G O S b) y j)))
