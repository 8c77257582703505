-- The strategy of the opening sets is that of the best plan.
use Rattle.std.proofs.Common.{false, refl, ◌∷◌, ◌≤◌, true, Bool, ◌≡◌, ℕ, zero, suc, ◌<◌, ◌⊎◌, inl, inr, List, [], length, map, Ok, sym, ap, subst, ◌∙◌, arith}
use Rattle.std.specs.Prelude.{not}
use Rattle.std.specs.List.{list_any}
use Rattle.std.proofs.lemmas.Bool.{and_parts, both_ways}
use Rattle.std.proofs.lemmas.List.{length-map}
use Rattle.std.proofs.Math.Nat.{le-max_left}
use Rattle.krieg_board.specs.Pos.{Pos}
use Rattle.krieg_board.specs.declared.men.Move.{Move}
use Rattle.krieg_board.specs.declared.men.Side.{Side}
use Rattle.krieg_words.specs.declared.dialects.Dialect.{Dialect}
use Rattle.krieg_theory.specs.Sets.{In}
use Rattle.krieg_theory.specs.Can.{can, least}
use Rattle.krieg_theory.specs.Plans.{IsCanonPlan, opening_set, openings, greatest, canon_plan, canon_worst, all_starts, is_over}
use Rattle.krieg_theory.proofs.Ascending.{as_set_ascending}
use Rattle.krieg_theory.proofs.Lists.{all_at, map_in}
use Rattle.krieg_theory.proofs.Least.{can_least}
use Rattle.krieg_theory.proofs.Planned.{canon_plan_is, canon_plan_worst, worst_enough, worst_least}
use Rattle.krieg_game.specs.Keys.{Key, RootKey, root_lt}
use Rattle.krieg_game.specs.Chess.{chess}
use Rattle.krieg_game.specs.Outset.{outset}
use Rattle.krieg_game.proofs.KeyLaws.{root_order}
use Rattle.krieg_plan.specs.Order.{is_ascending}
use Rattle.krieg_game.proofs.ChessLaws.{chess_is_game, outset_is_lawful}
use Rattle.krieg_plan.specs.Trees.{NodeTree, PlanTrees}
use Rattle.krieg_table.specs.SetRows.{SetRows, set_at}
use Rattle.krieg_strategy.specs.Nodes.{Node}
use Rattle.krieg_strategy.specs.Unfolded.{unfold_plan}
use Rattle.krieg_strategy.specs.Roots.{root_of}
use Rattle.krieg_strategy.specs.WellFormed.{AreBelow, IsStrategy}
use Rattle.krieg_strategy.specs.declared.limits.TheConstants.{MOST_NODES, MOST_EDGES, MOST_ROOTS}
use Rattle.krieg_search.specs.declared.openings.Opening.{Opening}
use Rattle.krieg_search.specs.declared.decide.Findings.{Findings}
use Rattle.krieg_search.specs.Openings.{opening_in}
use Rattle.krieg_search.specs.Decision.{IsWon}
use Rattle.krieg_solve.specs.Solutions.{IsBest}
use Rattle.krieg_solve.proofs.Solving.{worst_of}
use Rattle.krieg_share.specs.declared.answer.Answer.{Answer}
use Rattle.krieg_share.specs.declared.answer.Answer.TheVariants.{Mates, None}
use Rattle.krieg_share.specs.declared.sharer.Sharer.{Sharer}
use Rattle.krieg_share.specs.Sharing.{Shared, AreShared, nothing_shared, number_of, shared, shared_roots}
use Rattle.krieg_share.specs.Parts.{share_sets, numbered, IsOver}
use Rattle.krieg_share.specs.Sharers.{sets_with_nodes, shared_by, IsSharing}
use Rattle.krieg_share.specs.Answers.{IsSharedAs, IsShared, IsBestStrategy, IsLargeStrategy, IsStrategyAnswer, MakesStrategy}
use Rattle.krieg_share.proofs.Sharing.{shared_unfolds, roots_shared, none_shared, number_within}
use Rattle.krieg_share.proofs.Parts.{map_twice, roots_are}
use Rattle.krieg_share.proofs.Sharers.{ascends}

-- from no nodes on
module _ (d : Dialect) (j : ℕ) (T : SetRows) (os : List Opening) (s s' : Sharer) (table : s.table ≡ T) (placed : s.placed.keys ≡ []) (nodes : s.nodes ≡ []) where
  nothing_yet : shared_by d s ≡ nothing_shared (chess d)
  nothing_yet = λ x. record { sets = map (set_at s.table) (placed x); nodes = nodes x }

  pub as_shared : (worst : ℕ) (roots : List (RootKey × ℕ)) → worst ≡ greatest (λ (c : RootKey × List Pos). least (chess d) j c.1) (map (opening_in T) os)
      → roots ≡ numbered (chess d) (sets_with_nodes s') (map (opening_in s.table) os) → shared_by d s' ≡ share_sets (chess d) j (map (opening_in s.table) os) (shared_by d s) → IsSharing d s' → length os ≤ MOST_ROOTS → IsSharedAs d j (map (opening_in T) os) worst s'.nodes roots
  as_shared worst roots w r e k few =
      let f = nothing_yet in
      let all : shared_by d s' ≡ share_sets (chess d) j (map (opening_in T) os) (nothing_shared (chess d)) = e ∙ (λ x. share_sets (chess d) j (map (opening_in (table x)) os) (f x)) in
      record {
        greatest_least = w;
        nodes_are = ap (λ (u : Shared (chess d)). u.nodes) all;
        have_order = k.have_order;
        fits = record {
          few_nodes = k.few_nodes;
          few_edges = (let c = k.counted in let l = k.few_edges in omega arith);
          few_roots = (
              let x : length roots ≡ length os =
              ap length r ∙ length-map (map (opening_in s.table) os) (λ (c : RootKey × List Pos). (c.0, number_of (chess d) c.1 (sets_with_nodes s'))) ∙ length-map os (opening_in s.table) in
              omega arith);
        };
        roots_are = r ∙ (λ x. numbered (chess d) (all x).sets (map (opening_in (table x)) os));
      }

module _ (d : Dialect) (who : Side) (S : List Pos) (n : ℕ) (cut : Bool) (w : Findings) (had : ℕ) (a : IsWon d who S n cut w had) where
  abbrev P : PlanTrees
  P = canon_plan (chess d) (outset d who) n S

  abbrev ks : List RootKey
  ks = openings (chess d) (outset d who) S

  -- what is heard before the first own turn, with what is possible then
  abbrev pub cs : List (RootKey × List Pos)
  cs = map (opening_in w.table) w.openings.items

  canonical : IsCanonPlan (chess d) (outset d who) P S
  canonical = canon_plan_is (chess d) (chess_is_game d) (outset d who) (outset_is_lawful d who) n S a.can

  best : IsBest d who S n (canon_worst (chess d) (outset d who) n S) P
  best = record {
    canonical = canonical;
    worst_case = canon_plan_worst (chess d) (chess_is_game d) (outset d who) (outset_is_lawful d who) n S a.can;
    within = worst_enough (chess d) (chess_is_game d) (outset d who) (outset_is_lawful d who) n S a.can;
    least = λ other k m. worst_least (chess d) (chess_is_game d) (outset d who) (outset_is_lawful d who) n S other k m;
  }

  shared_is : share_sets (chess d) n (map (opening_in w.table) w.openings.items) (nothing_shared (chess d)) ≡ shared (chess d) (outset d who) P S
  shared_is =
      ap (λ (xs : List (RootKey × List Pos)). share_sets (chess d) n xs (nothing_shared (chess d))) a.found.sets
      ∙ sym (roots_are (chess d) (outset d who) n S ks (nothing_shared (chess d)))

  -- the number of the node after something was heard
  abbrev place : RootKey → RootKey × ℕ
  place key = (key, number_of (chess d) (opening_set (chess d) (outset d who) S key) (shared (chess d) (outset d who) P S).sets)

  roots_same : numbered (chess d) (share_sets (chess d) n (map (opening_in w.table) w.openings.items) (nothing_shared (chess d))).sets (map (opening_in w.table) w.openings.items) ≡ shared_roots (chess d) (outset d who) P S
  roots_same =
      let e = shared_is in
      let f = a.found.sets in
      (λ x. numbered (chess d) (e x).sets (f x))
      ∙ map_twice (λ key. (key, opening_set (chess d) (outset d who) S key)) (λ (c : RootKey × List Pos). (c.0, number_of (chess d) c.1 (shared (chess d) (outset d who) P S).sets)) ks
      ∙ ap (map place) (sym canonical.same_keys)
      ∙ map_twice (λ (r : RootKey × NodeTree). r.0) place P

  pub is_strategy : (worst : ℕ) (nodes : List (Node Move Key)) (roots : List (RootKey × ℕ)) → IsSharedAs d n (map (opening_in w.table) w.openings.items) worst nodes roots → IsBestStrategy d who S n worst nodes roots
  is_strategy worst nodes roots k =
      let e : nodes ≡ (shared (chess d) (outset d who) P S).nodes = k.nodes_are ∙ ap (λ (u : Shared (chess d)). u.nodes) shared_is in
      let f : roots ≡ shared_roots (chess d) (outset d who) P S = k.roots_are ∙ roots_same in
      let plan : unfold_plan nodes roots ≡ P = (λ x. unfold_plan (e x) (f x)) ∙ shared_unfolds (chess d) (chess_is_game d) (outset d who) S P canonical.roots in
      let least_is : worst ≡ canon_worst (chess d) (outset d who) n S = k.greatest_least ∙ ap (greatest (λ (c : RootKey × List Pos). least (chess d) n c.1)) a.found.sets ∙ worst_of d who S n in
      record {
        best = subst (λ (p : PlanTrees). IsBest d who S n worst p) (sym plan) (subst (λ (i : ℕ). IsBest d who S n i P) (sym least_is) best);
        nodes_are = e ∙ ap (λ (p : PlanTrees). (shared (chess d) (outset d who) p S).nodes) (sym plan);
        roots_are = f ∙ ap (λ (p : PlanTrees). shared_roots (chess d) (outset d who) p S) (sym plan);
        fits = k.fits;
      }

  -- a root that is there leads to a node
  root_within : (r : RootKey × NodeTree) → In r P → (place r.0).1 < length (shared (chess d) (outset d who) P S).nodes
  root_within r i =
      let h = roots_shared (chess d) (chess_is_game d) (outset d who) P S (nothing_shared (chess d)) canonical.roots (none_shared (chess d) (chess_is_game d)) in
      let l = number_within (chess d) (chess_is_game d) (opening_set (chess d) (outset d who) S r.0) (shared (chess d) (outset d who) P S).sets (h.1 r i) in
      let m = h.0.as_many in
      omega arith

  some_least : (X : List Pos) → can (chess d) n X ≡ true → 0 < least (chess d) n X
  some_least X c = go (least (chess d) n X) refl (can_least (chess d) (chess_is_game d) n X c)
    where
      go : (i : ℕ) → least (chess d) n X ≡ i → can (chess d) (least (chess d) n X) X ≡ true → 0 < least (chess d) n X
      go zero e h = absurd (both_ways false refl (subst (λ i. can (chess d) i X ≡ true) e h))
      go (suc i) e h = omega arith

  some_greatest : (qs : List RootKey) → ((key : RootKey) → In key qs → can (chess d) n (opening_set (chess d) (outset d who) S key) ≡ true) → 0 < length qs
      → 0 < greatest (λ key. least (chess d) n (opening_set (chess d) (outset d who) S key)) qs
  some_greatest [] h l = absurd (omega arith)
  some_greatest (q ∷ qs) h l =
      let a = some_least (opening_set (chess d) (outset d who) S q) (h q (inl refl)) in
      let b = le-max_left (least (chess d) n (opening_set (chess d) (outset d who) S q)) (greatest (λ key. least (chess d) n (opening_set (chess d) (outset d who) S key)) qs) in
      omega arith

  pub makes_strategy : n ≤ 255 → (worst : ℕ) (nodes : List (Node Move Key)) (roots : List (RootKey × ℕ)) → IsSharedAs d n (map (opening_in w.table) w.openings.items) worst nodes roots → 0 < length roots → IsStrategy nodes roots worst
  makes_strategy small worst nodes roots k l = record {
    some_nodes = (let f = first roots l in let g = below f.0 f.1 in omega arith);
    few_nodes = k.fits.few_nodes;
    below = subst (λ (ns : List (Node Move Key)). AreBelow ns) (sym e) h.0.below;
    have_order = k.have_order;
    roots_below = below;
    roots_ascend = ap (λ (rs : List (RootKey × ℕ)). is_ascending root_lt (map (λ (r : RootKey × ℕ). r.0) rs)) f ∙ ap (is_ascending root_lt) keys_are ∙ ascends root_lt ks (as_set_ascending root_lt root_order (map (λ o. o.0) (all_starts (chess d) (outset d who) S)));
    some_worst = (let c = and_parts (not (list_any (is_over (chess d) (outset d who)) S)) _ a.can in let g = some_greatest ks (all_at (λ key. can (chess d) n (opening_set (chess d) (outset d who) S key)) ks c.1) some_keys in let x = least_is in omega arith);
    most_worst = (let b = best.within in let x = least_is in omega arith);
  }
    where
      e : nodes ≡ (shared (chess d) (outset d who) P S).nodes
      e = k.nodes_are ∙ ap (λ (u : Shared (chess d)). u.nodes) shared_is

      f : roots ≡ shared_roots (chess d) (outset d who) P S
      f = k.roots_are ∙ roots_same

      h : AreShared (chess d) (shared (chess d) (outset d who) P S) × ((r : RootKey × NodeTree) → In r P → In (opening_set (chess d) (outset d who) S r.0) (shared (chess d) (outset d who) P S).sets)
      h = roots_shared (chess d) (chess_is_game d) (outset d who) P S (nothing_shared (chess d)) canonical.roots (none_shared (chess d) (chess_is_game d))

      least_is : worst ≡ canon_worst (chess d) (outset d who) n S
      least_is = k.greatest_least ∙ ap (greatest (λ (c : RootKey × List Pos). least (chess d) n c.1)) a.found.sets ∙ worst_of d who S n

      keys_are : map (λ (r : RootKey × ℕ). r.0) (shared_roots (chess d) (outset d who) P S) ≡ ks
      keys_are = map_twice (λ (r : RootKey × NodeTree). place r.0) (λ (r : RootKey × ℕ). r.0) P ∙ canonical.same_keys

      first : {X : Type 0} (xs : List X) → 0 < length xs → (x : X) × In x xs
      first [] z = absurd (omega arith)
      first (x ∷ xs) z = (x, inl refl)

      some_keys : 0 < length ks
      some_keys = let x = ap length f in let y = ap length keys_are in let z = length-map (shared_roots (chess d) (outset d who) P S) (λ (r : RootKey × ℕ). r.0) in omega arith

      below : (r : RootKey × ℕ) → In r roots → r.1 < length nodes
      below r i =
          let t = map_in (λ (x : RootKey × NodeTree). place x.0) P r (subst (λ (rs : List (RootKey × ℕ)). In r rs) f i) in
          let b = root_within t.0 t.1 in
          let x = ap (λ (y : RootKey × ℕ). y.1) t.2 in
          let y = ap length e in
          omega arith

  pub is_large : IsOver (chess d) MOST_NODES MOST_EDGES (share_sets (chess d) n (map (opening_in w.table) w.openings.items) (nothing_shared (chess d))) ⊎ (MOST_ROOTS < length (map (opening_in w.table) w.openings.items)) → IsLargeStrategy d who S n
  is_large h = record { plan = P; worst = canon_worst (chess d) (outset d who) n S; best = best; large = go h }
    where
      many : length (map (opening_in w.table) w.openings.items) ≡ length P
      many = ap length a.found.sets ∙ length-map ks _ ∙ ap length (sym canonical.same_keys) ∙ length-map P (λ (r : RootKey × NodeTree). r.0)

      go : IsOver (chess d) MOST_NODES MOST_EDGES (share_sets (chess d) n (map (opening_in w.table) w.openings.items) (nothing_shared (chess d))) ⊎ (MOST_ROOTS < length (map (opening_in w.table) w.openings.items))
          → IsOver (chess d) MOST_NODES MOST_EDGES (shared (chess d) (outset d who) P S) ⊎ (MOST_ROOTS < length P)
      go (inl o) = inl (subst (λ u. IsOver (chess d) MOST_NODES MOST_EDGES u) shared_is o)
      go (inr l) = inr (let m = many in omega arith)

  pub answered : (x : Answer) → IsShared d n (map (opening_in w.table) w.openings.items) (Ok x) → IsStrategyAnswer d who S n (Ok x)
  answered (Mates worst nodes roots) k = is_strategy worst nodes _ k
  answered None k = absurd k

  pub well_formed : n ≤ 255 → (x : Answer) → IsShared d n (map (opening_in w.table) w.openings.items) (Ok x) → MakesStrategy x
  well_formed small (Mates worst nodes roots) k = λ l. makes_strategy small worst nodes _ k (let e = length-map roots.items root_of in omega arith)
  well_formed small None k = absurd k
