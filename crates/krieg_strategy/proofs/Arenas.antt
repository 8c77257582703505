-- Slots and their ranges, also once more edges stand behind all.
use Rattle.std.proofs.Common.{◌≡◌, ℕ, ◌+◌, ◌-◌, ◌<◌, ◌≤◌, List, [], ◌∷◌, ◌++◌, ◌⊎◌, inl, inr, length, map, take, drop, refl, sym, ap, ◌∙◌, subst, arith, Some, get_or, length-append, length-drop}
use Rattle.std.specs.Prelude.{slice_get, slice_range, option_map}
use Rattle.std.proofs.lemmas.List.{length-take-le, take-append-le, drop-append-le, length-map, map-append}
use Rattle.std.proofs.lemmas.Option.{slice_get-map, slice_get_read, slice_get_within}
use Rattle.std.proofs.Math.Seq.{drop-append_seam, take-length}
use Rattle.std.proofs.lemmas.Bool.{cases_lt}
use Rattle.krieg_theory.proofs.Lists.{append_in}
use Rattle.krieg_costs.proofs.Totals.{total_append}
use Rattle.krieg_plan.proofs.Listed.{get_in}
use Rattle.krieg_strategy.proofs.Common.{Move, In, total, Key, IsArena, node_in, nodes_in, edge_of, Node, HasOrder, IsBelow, Slot, StrategyEdge, MOST_NODES, MOST_EDGES}
use Rattle.krieg_strategy.proofs.Unfolding.{get_front, get_next}

-- the length of a range
range_length : {X : Type 0} (xs : List X) (a b : ℕ) → b ≤ length xs → length (slice_range xs a b) ≡ b - a
range_length xs a b h = length-take-le (b - a) (drop a xs) (omega (arith, length-drop a xs))

-- a range within a list, whatever follows that
range_front : {X : Type 0} (xs ys : List X) (a b : ℕ) → a ≤ b → b ≤ length xs → slice_range (xs ++ ys) a b ≡ slice_range xs a b
range_front xs ys a b h k =
    ap (take (b - a)) (drop-append-le a xs ys (omega arith)) ∙ take-append-le (b - a) (drop a xs) ys (omega (arith, length-drop a xs))

-- what follows a list
range_next : {X : Type 0} (xs ys : List X) (b : ℕ) → b ≡ length xs + length ys → slice_range (xs ++ ys) (length xs) b ≡ ys
range_next xs ys b e =
    ap (λ n. take n (drop (length xs) (xs ++ ys))) (omega arith) ∙ ap (take (length ys)) (drop-append_seam xs ys) ∙ take-length ys

module _ (es : List StrategyEdge) where
  -- each slot has as many edges as its range is long
  pub counted : (ss : List Slot) → ((s : Slot) → In s ss → (s.from ≤ s.to) × (s.to ≤ length es)) → total (λ n. length n.edges) (nodes_in es ss) ≡ total (λ s. s.to - s.from) ss
  counted [] h = refl
  counted (s ∷ ss) h =
      let here : length (map edge_of (slice_range es s.from s.to)) ≡ s.to - s.from = length-map (slice_range es s.from s.to) edge_of ∙ range_length es s.from s.to (h s (inl refl)).1 in
      let rest = counted ss (λ t i. h t (inr i)) in
      omega arith

  -- the nodes stay where more edges stand behind all
  same_nodes : (more : List StrategyEdge) (ss : List Slot) → ((s : Slot) → In s ss → (s.from ≤ s.to) × (s.to ≤ length es)) → nodes_in (es ++ more) ss ≡ nodes_in es ss
  same_nodes more [] h = refl
  same_nodes more (s ∷ ss) h =
      let here = h s (inl refl) in
      let range = range_front es more s.from s.to here.0 here.1 in
      let rest = same_nodes more ss (λ t i. h t (inr i)) in
      λ i. (record { mv = s.mv; no = s.no; edges = map edge_of (range i) }) ∷ rest i

module _ (es : List StrategyEdge) (ss : List Slot) (a : IsArena es ss) where
  module _ (ns : List (Node Move Key)) (view : nodes_in es ss ≡ ns) (i : ℕ) (within : i < length ns) (s : Slot) (at : s ≡ get_or ss i s) where
    there : slice_get ss i ≡ Some s
    there = slice_get_read ss (length ss) i s refl (omega (arith, ap length view, length-map ss (node_in es))) at

    -- the range of a slot
    pub range_at : (s.from ≤ s.to) × (s.to ≤ length es)
    range_at = a.ranges s (get_in ss i s there)

    module _ (own : List StrategyEdge) (is : own ≡ slice_range es s.from s.to) where
      -- its node, with the edges of that range
      abbrev pub seen : Node Move Key
      seen = record { mv = s.mv; no = s.no; edges = map edge_of own }

      first : slice_get (nodes_in es ss) i ≡ Some seen
      first =
          slice_get-map (node_in es) ss i ∙ ap (option_map (node_in es)) there
          ∙ ap (λ (xs : List StrategyEdge). Some (record { mv = s.mv; no = s.no; edges = map edge_of xs })) (sym is)

      pub node_at : slice_get ns i ≡ Some seen
      node_at = sym (ap (λ xs. slice_get xs i) view) ∙ first

      pub below_at : IsBelow i seen
      below_at = a.below i seen first

      pub order_at : HasOrder seen
      order_at = a.have_order i seen first

  module _ (more : List StrategyEdge) (s : Slot) (from : s.from ≡ length es) (to : s.to ≡ length es + length more) where
    -- the node of a new slot
    abbrev pub added : Node Move Key
    added = record { mv = s.mv; no = s.no; edges = map edge_of more }

    -- the nodes are those from before, and the new one
    pub grown_nodes : nodes_in (es ++ more) (ss ++ s ∷ []) ≡ nodes_in es ss ++ added ∷ []
    grown_nodes =
        map-append (node_in (es ++ more)) ss (s ∷ [])
        ∙ ap (λ ns. ns ++ node_in (es ++ more) s ∷ []) (same_nodes es more ss a.ranges)
        ∙ ap (λ (xs : List StrategyEdge). nodes_in es ss ++ record { mv = s.mv; no = s.no; edges = map edge_of xs } ∷ []) (ap (λ n. slice_range (es ++ more) n s.to) from ∙ range_next es more s.to to)

    as_many : length (nodes_in es ss) ≡ length ss
    as_many = length-map ss (node_in es)

    -- what holds of the nodes from before, and of the new one, holds of each
    each : (P : ℕ → Node Move Key → Type 0) → ((i : ℕ) (n : Node Move Key) → slice_get (nodes_in es ss) i ≡ Some n → P i n) → P (length ss) added
        → (i : ℕ) (n : Node Move Key) → slice_get (nodes_in (es ++ more) (ss ++ s ∷ [])) i ≡ Some n → P i n
    each P old new i n e = by_place (cases_lt i (length ss))
      where
        there : slice_get (nodes_in es ss ++ added ∷ []) i ≡ Some n
        there = sym (ap (λ ns. slice_get ns i) grown_nodes) ∙ e

        by_place : (i < length ss) ⊎ (length ss ≤ i) → P i n
        by_place (inl h) = old i n (sym (get_front (nodes_in es ss) (added ∷ []) i (omega (arith, as_many))) ∙ there)
        by_place (inr h) =
            let within = slice_get_within (nodes_in es ss ++ added ∷ []) i n there in
            let last : i ≡ length (nodes_in es ss) = omega (arith, within, as_many, length-append (nodes_in es ss) (added ∷ [])) in
            let same : added ≡ n = (let g : Some added ≡ Some n = sym (get_next (nodes_in es ss) [] added) ∙ ap (slice_get (nodes_in es ss ++ added ∷ [])) (sym last) ∙ there in cc) in
            subst (λ m. P i m) same (subst (λ j. P j added) (sym (last ∙ as_many)) new)

    -- and it is an arena again
    pub grown : length ss < MOST_NODES → length es + length more ≤ MOST_EDGES → IsBelow (length ss) added → HasOrder added → IsArena (es ++ more) (ss ++ s ∷ [])
    grown few_ss few_es below order = record {
      ranges = λ t i. range t (append_in ss (s ∷ []) t i);
      counted = total_append (λ (s : Slot). s.to - s.from) ss (s ∷ []) ∙ omega (arith, a.counted, length-append es more);
      few_edges = omega (arith, length-append es more);
      few_nodes = omega (arith, length-append ss (s ∷ []));
      below = each IsBelow a.below below;
      have_order = each (λ i n. HasOrder n) a.have_order order;
    }
      where
        range : (t : Slot) → In t ss ⊎ In t (s ∷ []) → (t.from ≤ t.to) × (t.to ≤ length (es ++ more))
        range t (inl i) = let r = a.ranges t i in (r.0, omega (arith, r.1, length-append es more))
        range t (inr (inl e)) = subst (λ x. (x.from ≤ x.to) × (x.to ≤ length (es ++ more))) e (omega arith, omega (arith, length-append es more))
        range t (inr (inr i)) = absurd i

    -- the same of the nodes as they are seen
    pub pushed : (ns : List (Node Move Key)) → nodes_in es ss ≡ ns → (es' : List StrategyEdge) (ss' : List Slot) → es' ≡ es ++ more → ss' ≡ ss ++ s ∷ [] →
        length ns < MOST_NODES → total (λ n. length n.edges) ns + length more ≤ MOST_EDGES → IsBelow (length ns) added → HasOrder added → IsArena es' ss' × (nodes_in es' ss' ≡ ns ++ added ∷ [])
    pushed ns view es' ss' e f few_ss few_es below order =
        let many : length ss ≡ length ns = sym as_many ∙ ap length view in
        let edges : total (λ n. length n.edges) ns ≡ length es = sym (ap (λ (xs : List (Node Move Key)). total (λ n. length n.edges) xs) view) ∙ counted es ss a.ranges ∙ a.counted in
        let arena = grown (omega arith) (omega arith) (subst (λ i. IsBelow i added) (sym many) below) order in (
          subst (λ x. IsArena x ss') (sym e) (subst (λ x. IsArena (es ++ more) x) (sym f) arena),
          (λ i. nodes_in (e i) (f i)) ∙ grown_nodes ∙ ap (λ xs. xs ++ added ∷ []) view,
        )
