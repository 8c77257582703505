-- Nodes for the sets of parts, one after another, and then the node of the whole.
use Rattle.std.proofs.Common.{◌≡◌, ℕ, zero, suc, Bool, true, false, cond, ◌⊎◌, List, [], ◌∷◌, ◌++◌, inl, inr, length, map, refl, sym, ap, ◌∙◌, subst, arith, Option, Some, None, length-append}
use Rattle.std.proofs.lemmas.Bool.{cond-false, cond-true, false_from_ne_true}
use Rattle.std.proofs.lemmas.List.{append_assoc, map-append}
use Rattle.krieg_theory.specs.Sets.{In, is_nil}
use Rattle.krieg_theory.specs.Tree.{Try, Maybe, Nothing, Just, Edges}
use Rattle.krieg_theory.specs.Game.{Game, IsGame}
use Rattle.krieg_theory.specs.Split.{refused, class, keys}
use Rattle.krieg_theory.specs.Canonical.{edge_keys, IsCanon}
use Rattle.krieg_theory.specs.Computed.{canon, edge_with, edges_of}
use Rattle.krieg_theory.specs.Plans.{Outset, opening_set, root_with, roots_of}
use Rattle.krieg_theory.proofs.Lists.{append_in, in_append_right}
use Rattle.krieg_theory.proofs.Theorems.{canon_is_computed}
use Rattle.krieg_theory.proofs.First.{just_can}
use Rattle.krieg_costs.specs.Sums.{total, same_list}
use Rattle.krieg_costs.proofs.Totals.{total_append}
use Rattle.krieg_costs.proofs.Pairs.{same_list_eq, same_list_refl}
use Rattle.krieg_strategy.specs.Nodes.{Node}
use Rattle.krieg_strategy.specs.WellFormed.{IsBelow}
use Rattle.krieg_share.specs.Sharing.{Shared, has_node, number_of, refused_number, node_for, with_own, share, share_other, share_edges, share_roots, AreShared}
use Rattle.krieg_share.specs.Parts.{share_sets, numbered, IsOver}
use Rattle.krieg_share.proofs.Sharing.{no_more, Grows, grows_none, grows_then, own_grows, other_grows, edges_grow, still_in, node_in, number_kept, none_before, own_below, own_shared, other_shared, edges_shared}

map_agree : {X Y : Type 0} (f g : X → Y) (xs : List X) → ((x : X) → In x xs → f x ≡ g x) → map f xs ≡ map g xs
map_agree f g [] h = refl
map_agree f g (x ∷ xs) h = let a = h x (inl refl) in let r = map_agree f g xs (λ y i. h y (inr i)) in λ i. a i ∷ r i

pub map_twice : {X Y Z : Type 0} (f : X → Y) (g : Y → Z) (xs : List X) → map g (map f xs) ≡ map (λ x. g (f x)) xs
map_twice f g [] = refl
map_twice f g (x ∷ xs) = ap (λ zs. g (f x) ∷ zs) (map_twice f g xs)

map_itself : {X : Type 0} (xs : List X) → map (λ x. x) xs ≡ xs
map_itself [] = refl
map_itself (x ∷ xs) = ap (λ ys. x ∷ ys) (map_itself xs)

module _ (G : Game) where
  -- what is over a limit stays so
  pub still_over : (nodes edges : ℕ) (s s' : Shared G) → Grows G s s' → IsOver G nodes edges s → IsOver G nodes edges s'
  still_over nodes edges s s' g (inl h) = inl (let e = ap length g.nodes.1 ∙ length-append s.nodes g.nodes.0 in omega arith)
  still_over nodes edges s s' g (inr h) = inr (let e = ap (total (λ n. length n.edges)) g.nodes.1 ∙ total_append (λ (n : Node G.Move G.Key). length n.edges) s.nodes g.nodes.0 in omega arith)

  -- the edges of a tree by the sets that they lead to
  pub edges_are : (j : ℕ) (B : List G.Position) (t : G.Move) (ks : List G.Key) (s : Shared G)
      → share_edges G (edges_of G ks (λ key. canon G j (class G B t key))) B t s ≡ share_sets G j (map (λ key. (key, class G B t key)) ks) s
  edges_are j B t [] s = refl
  edges_are j B t (k ∷ ks) s = go (canon G j (class G B t k)) (edges_are j B t ks)
    where
      go : (m : Maybe G.Move G.Key) → ((u : Shared G) → share_edges G (edges_of G ks (λ key. canon G j (class G B t key))) B t u ≡ share_sets G j (map (λ key. (key, class G B t key)) ks) u)
          → share_edges G (edge_with G k m (edges_of G ks (λ key. canon G j (class G B t key)))) B t s ≡ share_sets G j (map (λ key. (key, class G B t key)) ks) (share_other G m (class G B t k) s)
      go Nothing r = r s
      go (Just n) r = r (share G n (class G B t k) s)

  module _ {K : Type 0} (j : ℕ) where
    pub sets_grow : (cs : List (K × List G.Position)) (s : Shared G) → Grows G s (share_sets G j cs s)
    sets_grow [] s = grows_none G s
    sets_grow (c ∷ cs) s =
        let s1 = share_other G (canon G j c.1) c.1 s in
        grows_then G s s1 (share_sets G j cs s1) (other_grows G (canon G j c.1) c.1 s) (sets_grow cs s1)

module _ (G : Game) (O : Outset G) where
  -- the roots of a plan by the sets that they lead to
  pub roots_are : (j : ℕ) (S : List G.Position) (ks : List O.Root) (s : Shared G)
      → share_roots G O (roots_of G O ks (λ key. canon G j (opening_set G O S key))) S s ≡ share_sets G j (map (λ key. (key, opening_set G O S key)) ks) s
  roots_are j S [] s = refl
  roots_are j S (k ∷ ks) s = go (canon G j (opening_set G O S k)) (roots_are j S ks)
    where
      go : (m : Maybe G.Move G.Key) → ((u : Shared G) → share_roots G O (roots_of G O ks (λ key. canon G j (opening_set G O S key))) S u ≡ share_sets G j (map (λ key. (key, opening_set G O S key)) ks) u)
          → share_roots G O (root_with G O k m (roots_of G O ks (λ key. canon G j (opening_set G O S key)))) S s ≡ share_sets G j (map (λ key. (key, opening_set G O S key)) ks) (share_other G m (opening_set G O S k) s)
      go Nothing r = r s
      go (Just n) r = r (share G n (opening_set G O S k) s)

module _ (G : Game) (L : IsGame G) where
  -- a set that is put behind others gets the next number
  pub number_last : (B : List G.Position) (Xs : List (List G.Position)) → (In B Xs → ⊥) → number_of G B (Xs ++ B ∷ []) ≡ length Xs
  number_last B [] h = cond-true (same_list G.position_lt B B) zero (suc zero) (same_list_refl G.position_lt L.position_order B)
  number_last B (X ∷ Xs) h =
      let r = number_last B Xs (λ i. h (inr i)) in
      cond-false (same_list G.position_lt X B) zero (suc (number_of G B (Xs ++ B ∷ []))) (false_from_ne_true _ (λ e. h (inl (same_list_eq G.position_lt L.position_order X B e)))) ∙ ap suc r

  -- how far the sets of a list have come to have nodes
  pub record AreSharing {K : Type 0} (j : ℕ) (s0 s : Shared G) (pushed : List (K × ℕ)) (rest all : List (K × List G.Position)) : Type 0 where
    pub joined : share_sets G j rest s ≡ share_sets G j all s0
    pub front : List (K × List G.Position)
    pub whole : front ++ rest ≡ all
    pub placed : (c : K × List G.Position) → In c front → In c.1 s.sets
    pub numbers : pushed ≡ numbered G s.sets front

  module _ {K : Type 0} (j : ℕ) where
    pub no_set : (s : Shared G) (all : List (K × List G.Position)) → AreSharing j s s [] all all
    no_set s all = record { joined = refl; front = []; whole = refl; placed = λ c i. absurd i; numbers = refl }

    pub all_sets : (s0 s : Shared G) (pushed : List (K × ℕ)) (all : List (K × List G.Position)) → AreSharing j s0 s pushed [] all → (pushed ≡ numbered G s.sets all) × (s ≡ share_sets G j all s0)
    all_sets s0 s pushed all a = (a.numbers ∙ ap (λ cs. numbered G s.sets cs) (sym (no_more a.front) ∙ a.whole), a.joined)

    module _ (s0 s s' : Shared G) (pushed : List (K × ℕ)) (c : K × List G.Position) (rest all : List (K × List G.Position)) (a : AreSharing j s0 s pushed (c ∷ rest) all) where
      pub one_set : s' ≡ share_other G (canon G j c.1) c.1 s → (to : ℕ) → In c.1 s'.sets → to ≡ number_of G c.1 s'.sets → AreSharing j s0 s' (pushed ++ (c.0, to) ∷ []) rest all
      one_set e to i n = record {
        joined = ap (share_sets G j rest) e ∙ a.joined;
        front = a.front ++ c ∷ [];
        whole = append_assoc a.front (c ∷ []) rest ∙ a.whole;
        placed = λ d k. placed d (append_in a.front (c ∷ []) d k);
        numbers =
            ap (λ xs. xs ++ (c.0, to) ∷ []) (a.numbers ∙ map_agree _ _ a.front (λ d k. ap (λ x. (d.0, x)) (kept d k)))
            ∙ ap (λ x. numbered G s'.sets a.front ++ (c.0, x) ∷ []) n
            ∙ sym (map-append (λ (d : K × List G.Position). (d.0, number_of G d.1 s'.sets)) a.front (c ∷ []));
      }
        where
          grows : Grows G s s'
          grows = subst (λ u. Grows G s u) (sym e) (other_grows G (canon G j c.1) c.1 s)

          kept : (d : K × List G.Position) → In d a.front → number_of G d.1 s.sets ≡ number_of G d.1 s'.sets
          kept d k = sym (ap (number_of G d.1) grows.sets.1 ∙ number_kept G L d.1 s.sets grows.sets.0 (a.placed d k))

          placed : (d : K × List G.Position) → In d a.front ⊎ In d (c ∷ []) → In d.1 s'.sets
          placed d (inl k) = still_in G s s' grows d.1 (a.placed d k)
          placed d (inr (inl f)) = subst (λ (x : K × List G.Position). In x.1 s'.sets) f i
          placed d (inr (inr k)) = absurd k

      -- one of them is too large: so are all together
      pub set_over : (nodes edges : ℕ) → IsOver G nodes edges (share_other G (canon G j c.1) c.1 s) → IsOver G nodes edges (share_sets G j all s0)
      set_over nodes edges o =
          let u = share_other G (canon G j c.1) c.1 s in
          subst (λ x. IsOver G nodes edges x) a.joined (still_over G nodes edges u (share_sets G j rest u) (sets_grow G j rest u) o)

  -- a set that gets nodes: what comes for its parts, and then its own
  module _ (j i : ℕ) (B : List G.Position) (t : G.Move) (other : Maybe G.Move G.Key) (is : canon G j B ≡ Just (Try t other (edges_of G (keys G B t) (λ key. canon G i (class G B t key))))) where
    abbrev es : Edges G.Move G.Key
    es = edges_of G (keys G B t) (λ key. canon G i (class G B t key))

    canonical : IsCanon G (Try t other (edges_of G (keys G B t) (λ key. canon G i (class G B t key)))) B
    canonical =
        let c = canon_is_computed G L B j (just_can G L j B (Try t other es) is) in
        let e : c.0 ≡ Try t other es = (let d : Just c.0 ≡ Just (Try t other es) = sym c.1 ∙ is in cc) in
        subst (λ n. IsCanon G n B) e c.2

    module _ (s : Shared G) (a : AreShared G s) where
      -- once the members have nodes that refuse the try
      abbrev pub first : Shared G
      first = share_other G other (refused G B t) s

      -- the sets of what may be heard, with their keys
      abbrev pub parts : List (G.Key × List G.Position)
      parts = map (λ key. (key, class G B t key)) (keys G B t)

      -- and once these have
      abbrev pub before : Shared G
      before = share_sets G i (map (λ key. (key, class G B t key)) (keys G B t)) (share_other G other (refused G B t) s)

      before_is : share_edges G es B t first ≡ before
      before_is = edges_are G i B t (keys G B t) first

      pub first_shared : AreShared G (share_other G other (refused G B t) s)
      first_shared = (other_shared G L other (refused G B t) s canonical.refused_part a).0

      refused_in : is_nil (refused G B t) ≡ false → In (refused G B t) first.sets
      refused_in = (other_shared G L other (refused G B t) s canonical.refused_part a).1

      parts_in : AreShared G (share_edges G es B t first) × ((key : G.Key) → In key (edge_keys es) → In (class G B t key) (share_edges G es B t first).sets)
      parts_in = edges_shared G L es B t first canonical.parts first_shared

      first_grows : Grows G first (share_edges G es B t first)
      first_grows = edges_grow G es B t first

      refused_still : is_nil (refused G B t) ≡ false → In (refused G B t) (share_edges G es B t first).sets
      refused_still n = still_in G first (share_edges G es B t first) first_grows (refused G B t) (refused_in n)

      pub before_shared : AreShared G (share_sets G i (map (λ key. (key, class G B t key)) (keys G B t)) (share_other G other (refused G B t) s))
      before_shared = subst (λ u. AreShared G u) before_is parts_in.0

      module _ (new : has_node G B s.sets ≡ false) where
        whole_is : share_other G (canon G j B) B s ≡ with_own G B t (edge_keys es) (share_edges G es B t first)
        whole_is = ap (λ m. share_other G m B s) is ∙ cond-false (has_node G B s.sets) s (with_own G B t (edge_keys es) (share_edges G es B t first)) new

        before_grows : Grows G (share_edges G es B t first) (share_other G (canon G j B) B s)
        before_grows = subst (λ u. Grows G (share_edges G es B t first) u) (sym whole_is) (own_grows G B t (edge_keys es) (share_edges G es B t first))

        -- the parts alone are too large: so is the whole
        pub first_over : (nodes edges : ℕ) → IsOver G nodes edges (share_other G other (refused G B t) s) → IsOver G nodes edges (share_other G (canon G j B) B s)
        first_over nodes edges o =
            still_over G nodes edges first (share_other G (canon G j B) B s) (grows_then G first (share_edges G es B t first) (share_other G (canon G j B) B s) first_grows before_grows) o

        pub before_over : (nodes edges : ℕ) → IsOver G nodes edges (share_sets G i (map (λ key. (key, class G B t key)) (keys G B t)) (share_other G other (refused G B t) s)) → IsOver G nodes edges (share_other G (canon G j B) B s)
        before_over nodes edges o =
            still_over G nodes edges (share_edges G es B t first) (share_other G (canon G j B) B s) before_grows (subst (λ u. IsOver G nodes edges u) (sym before_is) o)

        none_in : In B (share_edges G es B t first).sets → ⊥
        none_in = none_before G L t other es B s canonical new

        -- the set has no node yet
        pub still_new : has_node G B (share_sets G i (map (λ key. (key, class G B t key)) (keys G B t)) (share_other G other (refused G B t) s)).sets ≡ false
        still_new = subst (λ (u : Shared G). has_node G B u.sets ≡ false) before_is (false_from_ne_true _ (λ e. none_in (node_in G L B (share_edges G es B t first).sets e)))

        pub whole_shared : AreShared G (share_other G (canon G j B) B s)
        whole_shared = subst (λ u. AreShared G u) (sym whole_is) (own_shared G L (share_edges G es B t first) parts_in.0 t other es B canonical refused_still parts_in.1 none_in)

        -- the node that it gets
        module _ (no : Option ℕ) (edges : List (G.Key × ℕ)) (no_is : no ≡ refused_number G (refused G B t) first.sets) (edges_is : edges ≡ numbered G before.sets parts) where
          no_kept : (b : Bool) → is_nil (refused G B t) ≡ b → cond b None (Some (number_of G (refused G B t) first.sets)) ≡ cond b None (Some (number_of G (refused G B t) (share_edges G es B t first).sets))
          no_kept true e = refl
          no_kept false e = ap Some (sym (ap (number_of G (refused G B t)) first_grows.sets.1 ∙ number_kept G L (refused G B t) first.sets first_grows.sets.0 (refused_in e)))

          no_same : no ≡ refused_number G (refused G B t) (share_edges G es B t first).sets
          no_same = no_is ∙ no_kept (is_nil (refused G B t)) refl

          edges_same : edges ≡ map (λ key. (key, number_of G (class G B t key) (share_edges G es B t first).sets)) (edge_keys es)
          edges_same =
              edges_is
              ∙ ap (λ (u : Shared G). numbered G u.sets parts) (sym before_is)
              ∙ map_twice (λ key. (key, class G B t key)) (λ (c : G.Key × List G.Position). (c.0, number_of G c.1 (share_edges G es B t first).sets)) (keys G B t)
              ∙ ap (map (λ key. (key, number_of G (class G B t key) (share_edges G es B t first).sets))) (sym canonical.same_keys)

          own_is : record { mv = t; no = no; edges = edges } ≡ node_for G (share_edges G es B t first).sets B t (edge_keys es)
          own_is = let e = no_same in let f = edges_same in λ x. record { mv = t; no = e x; edges = f x }

          -- its keys are those that may be heard
          pub own_keys : map (λ (e : G.Key × ℕ). e.0) edges ≡ keys G B t
          own_keys =
              ap (map (λ (e : G.Key × ℕ). e.0)) edges_is
              ∙ map_twice (λ (c : G.Key × List G.Position). (c.0, number_of G c.1 before.sets)) (λ (e : G.Key × ℕ). e.0) parts
              ∙ map_twice (λ key. (key, class G B t key)) (λ (c : G.Key × List G.Position). c.0) (keys G B t)
              ∙ map_itself (keys G B t)

          pub lower : IsBelow (length before.nodes) (record { mv = t; no = no; edges = edges })
          lower =
              subst (λ (u : Shared G). IsBelow (length u.nodes) (record { mv = t; no = no; edges = edges })) before_is
              (subst (λ n. IsBelow (length (share_edges G es B t first).nodes) n) (sym own_is) (own_below G L (share_edges G es B t first) parts_in.0 t other es B canonical refused_still parts_in.1))

          pub placed_whole : record { sets = before.sets ++ B ∷ []; nodes = before.nodes ++ record { mv = t; no = no; edges = edges } ∷ [] } ≡ share_other G (canon G j B) B s
          placed_whole = let e = before_is in let o = own_is in (λ x. record { sets = (sym e x).sets ++ B ∷ []; nodes = (sym e x).nodes ++ o x ∷ [] }) ∙ sym whole_is

          pub its_number : number_of G B (share_other G (canon G j B) B s).sets ≡ length before.nodes
          its_number =
              ap (λ (u : Shared G). number_of G B u.sets) whole_is
              ∙ number_last B (share_edges G es B t first).sets none_in
              ∙ sym parts_in.0.as_many
              ∙ ap (λ (u : Shared G). length u.nodes) before_is

          pub its_place : In B (share_other G (canon G j B) B s).sets
          its_place = subst (λ (u : Shared G). In B u.sets) (sym whole_is) (in_append_right (share_edges G es B t first).sets (B ∷ []) B (inl refl))
