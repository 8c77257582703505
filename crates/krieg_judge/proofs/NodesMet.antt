-- A node in a position: what its try needs, and what comes next.
use Rattle.std.proofs.Common.{◌≡◌, ℕ, zero, suc, ◌+◌, ◌-◌, ◌<◌, ◌≤◌, Bool, true, false, not, ◌&&◌, List, [], ◌∷◌, ◌⊎◌, inl, inr, flat_map, length, refl, sym, ap, ◌∙◌, arith, Option, Some, None}
use Rattle.std.specs.Prelude.{if◌then◌else◌}
use Rattle.std.specs.List.{list_all}
use Rattle.std.proofs.lemmas.Bool.{cond-true, cond-false, le-leb, lt-leb}
use Rattle.std.proofs.lemmas.List.{length-map}
use Rattle.krieg_theory.proofs.Theorems.{first_edge_wins}
use Rattle.krieg_strategy.proofs.Unfolding.{edge_tree}
use Rattle.krieg_judge.proofs.Common.{Pos, Move, Dialect, Try, Maybe, Nothing, Just, wins, wins_at, wins_other, chess, Key, key_lt, NodeTree, within, Node, first_to, led_to, tree_on, edges_on, IsBelow, MOST_WORST, Adds, pair_at, LinksAdd, NodeAdds, link_held, Findings, is_legal, stalemates, outcomes, after, moves, node_cost}
use Rattle.krieg_judge.proofs.Adding.{adds_then, adds_same}

-- a number of moves more, or both are above what may be claimed
abbrev pub IsMore : ℕ → ℕ → Type 0
IsMore more done = (more ≡ done + 1) ⊎ ((MOST_WORST < more) × (MOST_WORST < done + 1))

all_same : {X : Type 0} (f g : X → Bool) (xs : List X) → ((x : X) → f x ≡ g x) → list_all f xs ≡ list_all g xs
all_same f g [] h = refl
all_same f g (x ∷ xs) h = ap (λ b. b && list_all f xs) (h x) ∙ ap (λ b. g x && b) (all_same f g xs h)

-- nothing is won within no move
other_none : (d : Dialect) (o : Maybe Move Key) (p : Pos) → wins_other (chess d) o p 0 ≡ false
other_none d Nothing p = refl
other_none d (Just (Try t other es)) p = refl

module _ (d : Dialect) (trees : List NodeTree) (n : Node Move Key) (below : IsBelow (length trees) n) (p : Pos) where
  -- an illegal try leaves the number as it is
  illegal_wins : (j : ℕ) → is_legal p n.mv ≡ false → wins (chess d) (tree_on trees n) p j ≡ wins_other (chess d) (led_to trees n.no) p j
  illegal_wins zero h = sym (other_none d (led_to trees n.no) p)
  illegal_wins (suc j) h = cond-false (is_legal p n.mv) _ _ h

  edge_wins : (o : Key × Pos) (j : ℕ) → wins_at (chess d) (edges_on trees n.edges) o.0 o.1 j ≡ wins_other (chess d) (led_to trees (first_to key_lt n.edges o.0)) o.1 j
  edge_wins o j = first_edge_wins (chess d) (edges_on trees n.edges) o.0 o.1 j ∙ ap (λ m. wins_other (chess d) m o.1 j) (edge_tree key_lt trees n.edges below.edges_part o.0)

  module _ (done more : ℕ) (is : IsMore more done) (legal : is_legal p n.mv ≡ true) where
    -- a legal one takes a move, and leaves no stalemate and each reply at its edge
    legal_wins : (k j : ℕ) → k ≤ MOST_WORST → j ≡ k - done →
        wins (chess d) (tree_on trees n) p j ≡ (within (if stalemates p n.mv then None else Some more) k && list_all (link_held d key_lt n.edges more trees k) (outcomes d p n.mv))
    legal_wins k zero small e = sym (go is (stalemates p n.mv))
      where
        late : IsMore more done → k < more
        late (inl h) = omega arith
        late (inr h) = omega (arith, h.0)

        go : IsMore more done → (s : Bool) → (within (if s then None else Some more) k && list_all (link_held d key_lt n.edges more trees k) (outcomes d p n.mv)) ≡ false
        go m true = refl
        go m false = ap (λ b. b && list_all (link_held d key_lt n.edges more trees k) (outcomes d p n.mv)) (lt-leb more k (late m))
    legal_wins k (suc j) small e =
        cond-true (is_legal p n.mv) _ _ legal
        ∙ ap (λ b. not (stalemates p n.mv) && b) (all_same _ _ (outcomes d p n.mv) (λ o. edge_wins o j ∙ ap (λ i. wins_other (chess d) (led_to trees (first_to key_lt n.edges o.0)) o.1 i) (fewer is)))
        ∙ ap (λ b. b && list_all (link_held d key_lt n.edges more trees k) (outcomes d p n.mv)) (sym (go is (stalemates p n.mv)))
      where
        fewer : IsMore more done → j ≡ k - more
        fewer (inl h) = omega arith
        fewer (inr h) = absurd (omega (arith, h.1))

        enough : IsMore more done → more ≤ k
        enough (inl h) = omega arith
        enough (inr h) = absurd (omega (arith, h.1))

        go : IsMore more done → (s : Bool) → within (if s then None else Some more) k ≡ not s
        go m true = refl
        go m false = le-leb more k (enough m)

pub legal_adds : (d : Dialect) (n : Node Move Key) (done more : ℕ) (p : Pos) (old mid new : Findings) (need : Option ℕ) (os : List (Key × Pos)) → IsMore more done → is_legal p n.mv ≡ true →
    need ≡ (if stalemates p n.mv then None else Some more) → os ≡ outcomes d p n.mv → ((d : Dialect) (trees : List NodeTree) → Adds d trees old mid (λ k. within need k) []) → LinksAdd d key_lt n.edges more mid new os →
    NodeAdds d n done p old new
legal_adds d n done more p old mid new need os is legal needs are a b trees below =
    let to = λ (o : Key × Pos). pair_at (chess d) (first_to key_lt n.edges o.0) o.1 in
    adds_same d trees old new _ _ _ _
    (λ k small. (λ i. within (needs i) k && list_all (link_held d key_lt n.edges more trees k) (are i)) ∙ sym (legal_wins d trees n below p done more is legal k (k - done) small refl))
    (ap (flat_map to) are ∙ sym (cond-true (is_legal p n.mv) _ _ legal))
    (adds_then d trees old mid new (λ k. within need k) (λ k. list_all (link_held d key_lt n.edges more trees k) os) [] (flat_map to os) (a d trees) (b trees))

pub illegal_adds : (d : Dialect) (n : Node Move Key) (done : ℕ) (p q : Pos) (old new : Findings) → is_legal p n.mv ≡ false → q ≡ p →
    ((d : Dialect) (trees : List NodeTree) → Adds d trees old new (λ k. wins_other (chess d) (led_to trees n.no) q (k - done)) (pair_at (chess d) n.no q)) → NodeAdds d n done p old new
illegal_adds d n done p q old new illegal is a trees below =
    adds_same d trees old new _ _ _ _ (λ k small. ap (λ x. wins_other (chess d) (led_to trees n.no) x (k - done)) is ∙ sym (illegal_wins d trees n below p (k - done) illegal))
    (ap (pair_at (chess d) n.no) is ∙ sym (cond-false (is_legal p n.mv) _ _ illegal)) (a d trees)

-- what a node takes, where its try is legal and where it is not
pub legal_cost : (d : Dialect) (n : Node Move Key) (p q : Pos) → is_legal p n.mv ≡ true → q ≡ after p n.mv → node_cost (chess d) n p ≡ suc (length (moves q))
unfolding outcomes
legal_cost d n p q h e =
    ap (λ (os : List (Key × Pos)). suc (length os)) (cond-true (is_legal p n.mv) _ _ h) ∙ ap suc (length-map (moves (after p n.mv)) _)
    ∙ ap (λ x. suc (length (moves x))) (sym e)

pub illegal_cost : (d : Dialect) (n : Node Move Key) (p : Pos) → is_legal p n.mv ≡ false → node_cost (chess d) n p ≡ 1
illegal_cost d n p h = ap (λ (os : List (Key × Pos)). suc (length os)) (cond-false (is_legal p n.mv) _ _ h)
