-- A pair is taken, and what comes next waits in its place.
use Rattle.std.proofs.Common.{◌≡◌, ℕ, ◌+◌, ◌-◌, ◌<◌, ◌≤◌, Bool, true, false, ◌&&◌, List, [], ◌∷◌, ◌++◌, ◌⊎◌, inl, inr, map, length, refl, sym, ap, ◌∙◌, subst, arith, Some}
use Rattle.std.specs.Prelude.{slice_get}
use Rattle.std.specs.List.{All, list_all}
use Rattle.std.specs.BTreeMap.Range.{IsLtBy}
use Rattle.std.specs.Ordering.{is_lt, nat_cmp, ordering_then}
use Rattle.std.specs.declared.cmp.Ordering.TheVariants.{Less, Greater}
use Rattle.std.proofs.lemmas.Cmp.{ranked, by_ranked}
use Rattle.std.proofs.lemmas.List.{map-append}
use Rattle.std.proofs.lemmas.List.Folds.{list_all-append}
use Rattle.std.proofs.lemmas.List.Elements.{All-contains}
use Rattle.krieg_pack.proofs.Membership.{in_contains}
use Rattle.krieg_theory.proofs.Lists.{append_in, in_append_left, in_append_right}
use Rattle.krieg_game.proofs.ChessLaws.{chess_is_game}
use Rattle.krieg_strategy.proofs.Unfolding.{get_there, node_tree, trees_length}
use Rattle.krieg_judge.proofs.Common.{Pos, Move, Dialect, In, Key, position_cmp, wins_other, chess, outset, within, total, Node, led_to, trees_of, IsBelow, MOST_WORST, enough, held, waiting, cost_at, node_cost, pair_cost, pair_lt, next_at, next_of, reached, NodeAdds, PairAdds, AreStarted, root_links, start_cost, starts_held, Findings, Strategy}
use Rattle.krieg_judge.proofs.Waiting.{pair_cmp}
use Rattle.krieg_judge.proofs.Adding.{adds_same, and_true}
use Rattle.krieg_judge.proofs.Reaching.{lower_before, same_before, reached_there}
use Rattle.krieg_judge.proofs.Taken.{AreTaken, none_taken, no_more, one_taken, all_taken}

-- pairs in the order of a map stand so in the theory's
less_pair : (d : Dialect) (a b : ℕ × Pos) → pair_cmp a b ≡ Less → pair_lt (chess d) a b ≡ true
less_pair d a b h =
    by_ranked (a.0 < b.0) (a.0 ≡ b.0) (b.0 < a.0) (nat_cmp a.0 b.0) (ranked a.0 b.0 (nat_cmp a.0 b.0) refl)
    (λ e l. lower_before (chess d) (chess_is_game d) a b l)
    (λ e s. same_before (chess d) (chess_is_game d) a b s (ap is_lt (sym (ap (λ o. ordering_then o (position_cmp a.1 b.1)) e) ∙ h)))
    (λ e g. absurd (not_less (sym (ap (λ o. ordering_then o (position_cmp a.1 b.1)) e) ∙ h)))
  where
    not_less : Greater ≡ Less → ⊥
    not_less e = cc

-- what a node adds is what its number adds
pub pair_adds : (s : Strategy) (x : (ℕ × Pos) × ℕ) (n : Node Move Key) (p : Pos) (old new : Findings) → x.0.0 < length s.nodes → slice_get s.nodes x.0.0 ≡ Some n → IsBelow x.0.0 n → p ≡ x.0.1 → NodeAdds s.dialect n x.1 p old new → PairAdds s x old new
pair_adds s x n p old new within at below is h =
    let trees = trees_of s.nodes in
    let lower : IsBelow (length trees) n = record { no_part = λ i e. (let b = below.no_part i e in omega (arith, b, trees_length s.nodes)); edges_part = λ e i. (let b = below.edges_part e i in omega (arith, b, trees_length s.nodes)) } in
    adds_same s.dialect trees old new _ _ _ _
    (λ k small. ap (λ m. wins_other (chess s.dialect) m p (k - x.1)) (sym (node_tree s.nodes s.well_formed.below x.0.0 n at)) ∙ ap (λ q. wins_other (chess s.dialect) (led_to trees (Some x.0.0)) q (k - x.1)) is)
    (ap (λ q. next_at (chess s.dialect) n q) is ∙ ap (λ o. next_of (chess s.dialect) o x.0.1) (sym at)) (h trees lower)

pub pair_costs : (s : Strategy) (x : ℕ × Pos) (n : Node Move Key) (p : Pos) → slice_get s.nodes x.0 ≡ Some n → p ≡ x.1 → pair_cost (chess s.dialect) (outset s.dialect s.side) s.nodes (root_links s) x ≡ node_cost (chess s.dialect) n p
pair_costs s x n p at is = ap (λ o. cost_at (chess s.dialect) o x.1) at ∙ ap (λ q. node_cost (chess s.dialect) n q) (sym is)

-- it takes a unit at least
pub some_cost : (s : Strategy) (x : ℕ × Pos) → x.0 < length s.nodes → 0 < pair_cost (chess s.dialect) (outset s.dialect s.side) s.nodes (root_links s) x
some_cost s x h =
    let n = get_there s.nodes x.0 h in
    subst (λ o. 0 < cost_at (chess s.dialect) o x.1) (sym n.1) (omega arith)

turned : (a b c : Bool) → (a && (b && (c && true))) ≡ (c && (a && b))
turned true true true = refl
turned true true false = refl
turned true false true = refl
turned true false false = refl
turned false b true = refl
turned false b false = refl

module _ (s : Strategy) (set : List Pos) where
  abbrev taken_in : List (ℕ × Pos) → List (ℕ × Pos) → Type 0
  taken_in T W = AreTaken (chess s.dialect) (outset s.dialect s.side) s.nodes (root_links s) set T W

  abbrev cost : ℕ × Pos → ℕ
  cost x = pair_cost (chess s.dialect) (outset s.dialect s.side) s.nodes (root_links s) x

  abbrev all : List (ℕ × Pos)
  all = reached (chess s.dialect) (outset s.dialect s.side) s.nodes (root_links s) set

  -- the pairs that were taken, with what waits; and what is enough for that is enough for the set
  pub record IsWalked (found : Findings) (units start : ℕ) : Type 0 where
    pub enough_part : (k : ℕ) → k ≤ MOST_WORST → enough s.dialect (trees_of s.nodes) found k ≡ list_all (starts_held s (trees_of s.nodes) k) set
    pub taken : List (ℕ × Pos)
    pub are_taken : taken_in taken (waiting found)
    pub paid : units + (total cost taken + total (start_cost s) set) ≡ start

  pub begun : (found : Findings) (units start : ℕ) → AreStarted s set found → units + total (start_cost s) set ≡ start → IsWalked found units start
  begun found units start a e = record {
    enough_part = a.enough_part (trees_of s.nodes);
    taken = [];
    are_taken = none_taken (chess s.dialect) (outset s.dialect s.side) s.nodes (root_links s) set (chess_is_game s.dialect) s.well_formed.below s.well_formed.roots_below (waiting found) (λ y. (a.pairs_part y).0) (λ y. (a.pairs_part y).1);
    paid = omega (arith, e);
  }

  module _ (old mid : Findings) (x : (ℕ × Pos) × ℕ) (units start : ℕ) (w : IsWalked old units start) (need : mid.need ≡ old.need) (last : old.waiting.entries ≡ mid.waiting.entries ++ x ∷ [])
      (below : All (λ q. IsLtBy pair_cmp q x.0) (waiting mid)) where
    waits : waiting old ≡ waiting mid ++ x.0 ∷ []
    waits = ap (λ (es : List ((ℕ × Pos) × ℕ)). map (λ e. e.0) es) last ∙ map-append (λ (e : (ℕ × Pos) × ℕ). e.0) mid.waiting.entries (x ∷ [])

    there : In x.0 (waiting old)
    there = subst (In x.0) (sym waits) (in_append_right (waiting mid) (x.0 ∷ []) x.0 (inl refl))

    rest : (y : ℕ × Pos) → In y (waiting old) → (y ≡ x.0) ⊎ In y (waiting mid)
    rest y i = go (append_in (waiting mid) (x.0 ∷ []) y (subst (In y) waits i))
      where
        go : In y (waiting mid) ⊎ In y (x.0 ∷ []) → (y ≡ x.0) ⊎ In y (waiting mid)
        go (inl a) = inr a
        go (inr (inl e)) = inl (sym e)
        go (inr (inr a)) = absurd a

    kept : (y : ℕ × Pos) → In y (waiting mid) → In y (waiting old)
    kept y i = subst (In y) (sym waits) (in_append_left (waiting mid) (x.0 ∷ []) y i)

    less : (y : ℕ × Pos) → In y (waiting mid) → pair_lt (chess s.dialect) y x.0 ≡ true
    less y i = less_pair s.dialect y x.0 (All-contains (λ q. IsLtBy pair_cmp q x.0) (waiting mid) y below (in_contains y (waiting mid) i))

    -- the next pair is at one of the nodes
    pub in_range : x.0.0 < length s.nodes
    in_range = reached_there (chess s.dialect) (chess_is_game s.dialect) (outset s.dialect s.side) s.nodes (root_links s) set s.well_formed.below s.well_formed.roots_below x.0 (w.are_taken.waiting_reached x.0 there)

    -- there are units for it where all that is reached can be paid
    pub affords : start + cost x.0 ≤ units + (total (start_cost s) set + total cost all)
    affords =
        let n = no_more (chess s.dialect) (outset s.dialect s.side) s.nodes (root_links s) set (chess_is_game s.dialect) s.well_formed.below s.well_formed.roots_below w.taken (waiting old) (waiting mid) x.0 w.are_taken there rest kept less in
        omega (arith, n, w.paid)

    pub less_units : units ≤ start
    less_units = omega (arith, w.paid)

    enough_popped : (k : ℕ) → enough s.dialect (trees_of s.nodes) old k ≡ (held s.dialect (trees_of s.nodes) k x && enough s.dialect (trees_of s.nodes) mid k)
    enough_popped k =
        let h = held s.dialect (trees_of s.nodes) k in
        ap (λ (es : List ((ℕ × Pos) × ℕ)). within old.need k && list_all h es) last
        ∙ ap (λ b. within old.need k && b) (list_all-append h mid.waiting.entries (x ∷ []))
        ∙ ap (λ n. within n k && (list_all h mid.waiting.entries && (h x && true))) (sym need)
        ∙ turned (within mid.need k) (list_all h mid.waiting.entries) (h x)

    pub stepped : (new : Findings) (left : ℕ) → PairAdds s x mid new → left + cost x.0 ≡ units → IsWalked new left start
    stepped new left adds paid = record {
      enough_part = λ k small. adds.enough_part k small ∙ sym (enough_popped k) ∙ w.enough_part k small;
      taken = x.0 ∷ w.taken;
      are_taken = one_taken (chess s.dialect) (outset s.dialect s.side) s.nodes (root_links s) set (chess_is_game s.dialect) s.well_formed.below s.well_formed.roots_below w.taken (waiting old) (waiting mid) x.0 w.are_taken there rest kept less (waiting new) (λ y. (adds.pairs_part y).0) (λ y. (adds.pairs_part y).1);
      paid = omega (arith, paid, w.paid);
    }

  -- nothing waits
  pub finished : (found : Findings) (units start : ℕ) → IsWalked found units start → found.waiting.entries ≡ [] →
      ((k : ℕ) → k ≤ MOST_WORST → within found.need k ≡ list_all (starts_held s (trees_of s.nodes) k) set) × (units + (total (start_cost s) set + total cost all) ≡ start)
  finished found units start w none = (
    λ k small. sym (and_true (within found.need k)) ∙ ap (λ (es : List ((ℕ × Pos) × ℕ)). within found.need k && list_all (held s.dialect (trees_of s.nodes) k) es) (sym none) ∙ w.enough_part k small,
    omega (arith, w.paid, all_taken (chess s.dialect) (outset s.dialect s.side) s.nodes (root_links s) set (chess_is_game s.dialect) s.well_formed.below s.well_formed.roots_below w.taken (waiting found) w.are_taken (λ y i. subst (λ (es : List ((ℕ × Pos) × ℕ)). In y (map (λ e. e.0) es)) none i)),
  )

-- where a map has no entry
pub no_entry : {X : Type 0} (es : List X) → (0 < length es → ⊥) → es ≡ []
no_entry [] h = refl
no_entry (e ∷ es) h = absurd (h (omega arith))
