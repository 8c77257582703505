-- What is reached from a node, part by part.
use Rattle.std.proofs.Common.{◌≡◌, List, ◌∷◌, ◌++◌, ◌⊎◌, inl, inr, map, flat_map}
use Rattle.krieg_checker.proofs.Common.{In, Tree, Try, Maybe, Edges, Game, refused, keys, class, Outset, No, On, Path, Pair, reached, reached_other, reached_at}
use Rattle.krieg_theory.proofs.Lists.{append_in, in_append_left, in_append_right, flat_in, in_flat, map_in}

module _ (G : Game) (O : Outset G) where
  -- those that stand at the node
  abbrev pub here : Path G O → Tree G.Move G.Key → List G.Position → List (Pair G O)
  here path n B = map (λ p. (path, n, p)) B

  -- those over the node for the illegal case
  abbrev pub others : Path G O → G.Move → Maybe G.Move G.Key → List G.Position → List (Pair G O)
  others path t other B = reached_other G O (No ∷ path) other (refused G B t)

  -- those after a key
  abbrev pub after : Path G O → G.Move → Edges G.Move G.Key → List G.Position → G.Key → List (Pair G O)
  after path t es B key = reached_at G O (On key ∷ path) es key (class G B t key)

  abbrev pub edges : Path G O → G.Move → Edges G.Move G.Key → List G.Position → List (Pair G O)
  edges path t es B = flat_map (after path t es B) (keys G B t)

  module _ (path : Path G O) (t : G.Move) (other : Maybe G.Move G.Key) (es : Edges G.Move G.Key) (B : List G.Position) where
    -- a pair is one of these
    pub by_part : (A : Type 0) (x : Pair G O) → In x (reached G O path (Try t other es) B) → ((p : G.Position) → In p B → (path, Try t other es, p) ≡ x → A) →
        (In x (others path t other B) → A) → ((key : G.Key) → In key (keys G B t) → In x (after path t es B key) → A) → A
    by_part A x i at over on = first (append_in (here path (Try t other es) B) (others path t other B ++ edges path t es B) x i)
      where
        rest : In x (others path t other B) ⊎ In x (edges path t es B) → A
        rest (inl j) = over j
        rest (inr j) = let k = flat_in (after path t es B) (keys G B t) x j in on k.0 k.1 k.2

        first : In x (here path (Try t other es) B) ⊎ In x (others path t other B ++ edges path t es B) → A
        first (inl j) = let p = map_in (λ p. (path, Try t other es, p)) B x j in at p.0 p.1 p.2
        first (inr j) = rest (append_in (others path t other B) (edges path t es B) x j)

    pub in_others : (x : Pair G O) → In x (others path t other B) → In x (others path t other B ++ edges path t es B)
    in_others x i = in_append_left (others path t other B) (edges path t es B) x i

    pub in_after : (x : Pair G O) (key : G.Key) → In key (keys G B t) → In x (after path t es B key) → In x (others path t other B ++ edges path t es B)
    in_after x key k i = in_append_right (others path t other B) (edges path t es B) x (in_flat (after path t es B) (keys G B t) key x k i)

    pub in_rest : (x : Pair G O) → In x (others path t other B ++ edges path t es B) → In x (reached G O path (Try t other es) B)
    in_rest x i = in_append_right (here path (Try t other es) B) (others path t other B ++ edges path t es B) x i
