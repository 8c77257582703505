-- A set of a table gets its node, once its parts have theirs.
use Rattle.std.proofs.Common.{◌≡◌, ℕ, suc, ◌+◌, ◌-◌, ◌<◌, ◌≤◌, Bool, true, false, cond, ◌⊎◌, List, [], ◌∷◌, ◌++◌, inl, inr, length, map, Option, Some, None, Result, Ok, Err, IfOk, OnOk, IsTrue, ◌↔◌, refl, sym, ap, ◌∙◌, subst, arith, length-append}
use Rattle.std.specs.Result.{IsErrAnd}
use Rattle.std.proofs.lemmas.Bool.{both_ways, cond-true, and_from}
use Rattle.std.proofs.lemmas.List.{map-append, length-map}
use Rattle.krieg_board.specs.Pos.{Pos}
use Rattle.krieg_board.specs.declared.men.Move.{Move}
use Rattle.krieg_words.specs.declared.dialects.Dialect.{Dialect}
use Rattle.krieg_theory.specs.Sets.{In, Ascending, is_nil}
use Rattle.krieg_theory.specs.Tree.{Tree, Try, Maybe, Just}
use Rattle.krieg_theory.specs.Game.{Game}
use Rattle.krieg_theory.specs.Split.{refused, class, keys, all_outcomes}
use Rattle.krieg_theory.specs.Computed.{canon, edge_with, edges_of}
use Rattle.krieg_theory.proofs.Ascending.{as_set_ascending}
use Rattle.krieg_theory.proofs.Lists.{append_in}
use Rattle.krieg_costs.specs.Sums.{IsOnce, total}
use Rattle.krieg_costs.proofs.Totals.{total_append}
use Rattle.krieg_accounts.specs.Stored.{stored}
use Rattle.krieg_accounts.specs.Laws.{refused_canon}
use Rattle.krieg_pack.specs.Order.{position_lt}
use Rattle.krieg_game.specs.Chess.{chess}
use Rattle.krieg_game.specs.Classes.{class_pair}
use Rattle.krieg_game.specs.Keys.{Key, key_lt}
use Rattle.krieg_game.proofs.ChessLaws.{chess_is_game}
use Rattle.krieg_game.proofs.KeyLaws.{key_order}
use Rattle.krieg_parting.specs.declared.parts.Parted.{Parted}
use Rattle.krieg_plan.specs.Order.{is_ascending}
use Rattle.krieg_split.specs.Parts.{IsParted}
use Rattle.krieg_table.specs.SetRows.{SetRows, set_at, sets as sets_of_rows}
use Rattle.krieg_table.specs.Entries.{entries}
use Rattle.krieg_table.specs.Table.{IsMore}
use Rattle.krieg_strategy.specs.Nodes.{Node}
use Rattle.krieg_strategy.specs.Edges.{edge_of}
use Rattle.krieg_strategy.specs.WellFormed.{IsBelow, HasOrder, HaveOrder}
use Rattle.krieg_strategy.specs.declared.edge.StrategyEdge.{StrategyEdge}
use Rattle.krieg_strategy.specs.declared.limits.TheConstants.{MOST_NODES, MOST_EDGES}
use Rattle.krieg_search.specs.declared.stop.SearchStop.{SearchStop}
use Rattle.krieg_search.specs.declared.stop.SearchStop.TheVariants.{Spent, Large, NoMemory}
use Rattle.krieg_search.specs.Openings.{AddsSets}
use Rattle.krieg_search.specs.WonSets.{WonBy, IsPaidFor}
use Rattle.krieg_solve.specs.Building.{edges_for}
use Rattle.krieg_search.proofs.Adding.{adds_nothing, still_paid}
use Rattle.krieg_solve.proofs.Building.{won_node, node_is}
use Rattle.krieg_share.specs.declared.sharer.Sharer.{Sharer}
use Rattle.krieg_share.specs.Sharing.{Shared, AreShared, has_node, number_of, node_number, refused_number, share, share_other}
use Rattle.krieg_share.specs.Parts.{share_sets, numbered, IsOver}
use Rattle.krieg_share.specs.Sharers.{node_by, sets_with_nodes, AreInTable, shared_by, IsSharing, HasNumber, Shares}
use Rattle.krieg_share.proofs.Sharing.{at_each, node_in}
use Rattle.krieg_share.proofs.Parts as parts
use Rattle.krieg_share.proofs.Placing.{not_placed}

pub some_is : (X : List Pos) (b : Bool) → (IsTrue b ↔ (X ≡ [])) → b ≡ false → is_nil X ≡ false
some_is [] b h e = absurd (both_ways b e (h.1 refl))
some_is (x ∷ X) b h e = refl

pub ascends : {K : Type 0} (lt : K → K → Bool) (ks : List K) → Ascending lt ks → is_ascending lt ks ≡ true
ascends lt [] a = refl
ascends lt (x ∷ []) a = refl
ascends lt (x ∷ y ∷ zs) a = and_from _ _ (a.0 y (inl refl)) (ascends lt (y ∷ zs) a.1)

same_sets : (T T' : SetRows) (ks : List ℕ) → IsMore T T' → ((i : ℕ) → In i ks → i < length T) → map (set_at T') ks ≡ map (set_at T) ks
same_sets T T' [] m h = refl
same_sets T T' (k ∷ ks) m h =
    let e = m.same k (h k (inl refl)) in
    let r = same_sets T T' ks m (λ i j. h i (inr j)) in
    λ x. e x ∷ r x

already_there : (G : Game) (n : Tree G.Move G.Key) (B : List G.Position) (s : Shared G) → has_node G B s.sets ≡ true → share G n B s ≡ s
already_there G (Try t other es) B s h = cond-true (has_node G B s.sets) s _ h

none_found : (r : Option ℕ) → ((x : ℕ) → r ≡ Some x → ⊥) → (b : Bool) (k : ℕ) → r ≡ cond b (Some k) None → b ≡ false
none_found r h true k e = absurd (h k e)
none_found r h false k e = refl

was_found : (n : ℕ) (b : Bool) (k : ℕ) → ◌≡◌ {A = Option ℕ} (Some n) (cond b (Some k) None) → (b ≡ true) × (n ≡ k)
was_found n true k e = (refl, cc)
was_found n false k e = absurd cc

module _ (d : Dialect) where
  edges_same : (j : ℕ) (B : List Pos) (m : Move) (ks : List Key) → edges_for d j (map (λ key. (key, class (chess d) B m key)) ks) ≡ edges_of (chess d) ks (λ key. canon (chess d) j (class (chess d) B m key))
  edges_same j B m [] = refl
  edges_same j B m (k ∷ ks) = ap (edge_with (chess d) k (canon (chess d) j (class (chess d) B m k))) (edges_same j B m ks)

  -- a step was too large: so is the whole
  pub too_many : {A B : Type 0} (P : SearchStop → Type 0) (r : Result B SearchStop) (e : SearchStop) (holds : A → Type 0) (wanted : B → Type 0) (s0 s1 s2 s3 : Sharer) (aim aim' : Shared (chess d))
      → ((x : SearchStop) → P x → e ≡ x) → IsErrAnd r P → (IsOver (chess d) MOST_NODES MOST_EDGES aim → IsOver (chess d) MOST_NODES MOST_EDGES aim') → Shares d (Err e) holds s0 s1 aim → Shares d r wanted s2 s3 aim'
  too_many P (Ok x) e holds wanted s0 s1 s2 s3 aim aim' same fails f k = absurd fails
  too_many {A = A} {B = B} P (Err x) e holds wanted s0 s1 s2 s3 aim aim' same fails f k = go x (subst (λ (y : SearchStop). Shares d {A = A} (Err y) holds s0 s1 aim) (same x fails) k)
    where
      go : (y : SearchStop) → Shares d {A = A} (Err y) holds s0 s1 aim → Shares d {A = B} (Err y) wanted s2 s3 aim'
      go Spent v = absurd v
      go Large v = f v
      go NoMemory v = tt

  -- sets have come to the table alone
  module _ (s s' : Sharer) (sets : AddsSets s.table s'.table) (placed : s'.placed ≡ s.placed) (nodes : s'.nodes ≡ s.nodes) (edges : s'.edges ≡ s.edges) (a : IsSharing d s) where
    pub still_shared : shared_by d s' ≡ shared_by d s
    still_shared =
        let e : sets_with_nodes s' ≡ sets_with_nodes s = (λ x. map (set_at s'.table) (placed x).keys) ∙ same_sets s.table s'.table s.placed.keys sets.more a.in_table in
        λ x. record { sets = e x; nodes = nodes x }

    pub still_sharing : IsSharing d s'
    still_sharing = record {
      paid = still_paid d s.table s'.table sets a.paid;
      in_table = λ i k. (let w = a.in_table i (subst (λ p. In i p.keys) placed k) in let l = sets.more.longer in omega arith);
      counted = edges ∙ a.counted ∙ ap (total (λ (n : Node Move Key). length n.edges)) (sym nodes);
      have_order = subst (λ (ns : List (Node Move Key)). HaveOrder ns) (sym nodes) a.have_order;
      few_nodes = (let f = a.few_nodes in let e = ap length nodes in omega arith);
      few_edges = (let f = a.few_edges in omega arith);
      shared = subst (λ u. AreShared (chess d) u) (sym still_shared) a.shared;
    }

  -- a set that is stored as won
  module _ (s : Sharer) (a : IsSharing d s) (set j : ℕ) (within : set < length s.table) where
    -- it has a node already
    pub known_answer : WonBy s.table (set_at s.table set) j → (n : ℕ) → Some n ≡ node_number (chess d) (set_at s.table set) (sets_with_nodes s)
        → HasNumber d s (set_at s.table set) n × IsSharing d s × AddsSets s.table s.table × (shared_by d s ≡ share_other (chess d) (canon (chess d) j (set_at s.table set)) (set_at s.table set) (shared_by d s))
    known_answer w n e =
        let B = set_at s.table set in
        let f = was_found n (has_node (chess d) B (sets_with_nodes s)) (number_of (chess d) B (sets_with_nodes s)) e in
        let t = won_node d s.table B j a.paid.ready w in (
          record { there = node_in (chess d) (chess_is_game d) B (sets_with_nodes s) f.0; is = f.1 },
          a,
          adds_nothing s.table a.paid.ready.counted,
          sym (ap (λ m. share_other (chess d) m B (shared_by d s)) t.1 ∙ already_there (chess d) t.0 B (shared_by d s) f.0),
        )

    pub has_none : (r : Option ℕ) → ((x : ℕ) → r ≡ Some x → ⊥) → r ≡ node_number (chess d) (set_at s.table set) (sets_with_nodes s) → has_node (chess d) (set_at s.table set) (sets_with_nodes s) ≡ false
    has_none r h e = none_found r h (has_node (chess d) (set_at s.table set) (sets_with_nodes s)) (number_of (chess d) (set_at s.table set) (sets_with_nodes s)) e

    -- it gets one
    module _ (new : has_node (chess d) (set_at s.table set) (sets_with_nodes s) ≡ false) (number : ℕ) (m : Move) (some : 0 < number) (at_most : number ≤ j)
        (won : stored position_lt (entries s.table) (set_at s.table set, number) ≡ Some (Some m)) (p : Parted) (q : IsParted d (set_at s.table set) m p) where
      abbrev B : List Pos
      B = set_at s.table set

      abbrev other : Maybe Move Key
      other = refused_canon (chess d) number p.refused

      is : canon (chess d) j B ≡ Just (Try m other (edges_of (chess d) (keys (chess d) B m) (λ key. canon (chess d) (number - 1) (class (chess d) B m key))))
      is =
          node_is d s.table B j number m a.paid some at_most won p q
          ∙ ap (λ es. Just (Try m other es)) (ap (edges_for d (number - 1)) q.classes_part ∙ edges_same (number - 1) B m (keys (chess d) B m))

      first_is : share_other (chess d) other p.refused (shared_by d s) ≡ share_other (chess d) other (refused (chess d) B m) (shared_by d s)
      first_is = ap (λ (R : List Pos). share_other (chess d) other R (shared_by d s)) q.refused_part

      pub refused_over : IsOver (chess d) MOST_NODES MOST_EDGES (share_other (chess d) (refused_canon (chess d) number p.refused) p.refused (shared_by d s))
          → IsOver (chess d) MOST_NODES MOST_EDGES (share_other (chess d) (canon (chess d) j (set_at s.table set)) (set_at s.table set) (shared_by d s))
      refused_over o = parts.first_over (chess d) (chess_is_game d) j (number - 1) B m other is (shared_by d s) a.shared new MOST_NODES MOST_EDGES (subst (λ u. IsOver (chess d) MOST_NODES MOST_EDGES u) first_is o)

      module _ (s1 : Sharer) (at1 : shared_by d s1 ≡ share_other (chess d) (refused_canon (chess d) number p.refused) p.refused (shared_by d s)) where
        abbrev before : Shared (chess d)
        before = share_sets (chess d) (number - 1) (map (λ key. (key, class (chess d) B m key)) (keys (chess d) B m)) (share_other (chess d) other (refused (chess d) B m) (shared_by d s))

        before_is : share_sets (chess d) (number - 1) (map class_pair p.classes.items) (shared_by d s1) ≡ before
        before_is = let e = q.classes_part in let f = at1 ∙ first_is in λ x. share_sets (chess d) (number - 1) (e x) (f x)

        pub classes_over : IsOver (chess d) MOST_NODES MOST_EDGES (share_sets (chess d) (number - 1) (map class_pair p.classes.items) (shared_by d s1))
            → IsOver (chess d) MOST_NODES MOST_EDGES (share_other (chess d) (canon (chess d) j (set_at s.table set)) (set_at s.table set) (shared_by d s))
        classes_over o = parts.before_over (chess d) (chess_is_game d) j (number - 1) B m other is (shared_by d s) a.shared new MOST_NODES MOST_EDGES (subst (λ u. IsOver (chess d) MOST_NODES MOST_EDGES u) before_is o)

        module _ (s2 : Sharer) (w2 : IsSharing d s2) (sets : AddsSets s.table s2.table) (at2 : shared_by d s2 ≡ share_sets (chess d) (number - 1) (map class_pair p.classes.items) (shared_by d s1)) where
          all_before : shared_by d s2 ≡ before
          all_before = at2 ∙ before_is

          same_set : set_at s2.table set ≡ B
          same_set = sets.more.same set within

          -- the set still has none
          pub not_yet : IsOnce (sets_of_rows s2.table) → In set s2.placed.keys → ⊥
          not_yet once =
              not_placed d s2.table once set (let l = sets.more.longer in omega arith) s2.placed.keys w2.in_table
              (subst (λ (X : List Pos). has_node (chess d) X (sets_with_nodes s2) ≡ false) (sym same_set)
              (subst (λ (u : Shared (chess d)). has_node (chess d) B u.sets ≡ false) (sym all_before) (parts.still_new (chess d) (chess_is_game d) j (number - 1) B m other is (shared_by d s) a.shared new)))

          module _ (next : Option ℕ) (es : List StrategyEdge) (next_is : next ≡ refused_number (chess d) p.refused (sets_with_nodes s1)) (es_are : map edge_of es ≡ numbered (chess d) (sets_with_nodes s2) (map class_pair p.classes.items)) where
            next_as : next ≡ refused_number (chess d) (refused (chess d) B m) (share_other (chess d) other (refused (chess d) B m) (shared_by d s)).sets
            next_as = let e = q.refused_part in let f = at1 ∙ first_is in next_is ∙ (λ x. refused_number (chess d) (e x) (f x).sets)

            es_as : map edge_of es ≡ numbered (chess d) before.sets (map (λ key. (key, class (chess d) B m key)) (keys (chess d) B m))
            es_as = let e = q.classes_part in let f = all_before in es_are ∙ (λ x. numbered (chess d) (f x).sets (e x))

            pub lower_numbers : IsBelow (length s2.nodes) (node_by m next es)
            lower_numbers =
                subst (λ (u : Shared (chess d)). IsBelow (length u.nodes) (node_by m next es)) (sym all_before)
                (parts.lower (chess d) (chess_is_game d) j (number - 1) B m other is (shared_by d s) a.shared new next (map edge_of es) next_as es_as)

            pub keys_ascend : HasOrder (node_by m next es)
            keys_ascend =
                ap (is_ascending key_lt) (parts.own_keys (chess d) (chess_is_game d) j (number - 1) B m other is (shared_by d s) a.shared new next (map edge_of es) next_as es_as)
                ∙ ascends key_lt (keys (chess d) B m) (as_set_ascending key_lt key_order (map (λ o. o.0) (all_outcomes (chess d) B m)))

            whole : record { sets = before.sets ++ B ∷ []; nodes = before.nodes ++ node_by m next es ∷ [] } ≡ share_other (chess d) (canon (chess d) j B) B (shared_by d s)
            whole = parts.placed_whole (chess d) (chess_is_game d) j (number - 1) B m other is (shared_by d s) a.shared new next (map edge_of es) next_as es_as

            own_over : (MOST_NODES < suc (length s2.nodes)) ⊎ (MOST_EDGES < s2.edges + length es) → IsOver (chess d) MOST_NODES MOST_EDGES (share_other (chess d) (canon (chess d) j B) B (shared_by d s))
            own_over h = subst (λ u. IsOver (chess d) MOST_NODES MOST_EDGES u) whole (go h)
              where
                n : Node Move Key
                n = node_by m next es

                same_nodes : s2.nodes ≡ before.nodes
                same_nodes = ap (λ (u : Shared (chess d)). u.nodes) all_before

                go : (MOST_NODES < suc (length s2.nodes)) ⊎ (MOST_EDGES < s2.edges + length es) → (MOST_NODES < length (before.nodes ++ node_by m next es ∷ [])) ⊎ (MOST_EDGES < total (λ (x : Node Move Key). length x.edges) (before.nodes ++ node_by m next es ∷ []))
                go (inl l) = inl (let e = ap length same_nodes in let f = length-append before.nodes (node_by m next es ∷ []) in omega arith)
                go (inr l) = inr (let e = ap (total (λ (x : Node Move Key). length x.edges)) same_nodes in let f = total_append (λ (x : Node Move Key). length x.edges) before.nodes (node_by m next es ∷ []) in let g = w2.counted in let h = length-map es edge_of in omega arith)

            module _ (s3 : Sharer) (table : s3.table ≡ s2.table) (placed : s3.placed.keys ≡ s2.placed.keys ++ set ∷ []) (nodes : s3.nodes ≡ s2.nodes ++ node_by m next es ∷ []) (edges : s3.edges ≡ s2.edges + length es)
                (few_nodes : length s2.nodes < MOST_NODES) (few_edges : s3.edges ≤ MOST_EDGES) where
              sets_now : sets_with_nodes s3 ≡ sets_with_nodes s2 ++ B ∷ []
              sets_now =
                  (λ x. map (set_at (table x)) (placed x)) ∙ map-append (set_at s2.table) s2.placed.keys (set ∷ []) ∙ ap (λ (X : List Pos). sets_with_nodes s2 ++ X ∷ []) same_set

              same : shared_by d s3 ≡ share_other (chess d) (canon (chess d) j B) B (shared_by d s)
              same =
                  let e = sets_now in
                  let f = all_before in
                  (λ x. record { sets = e x; nodes = nodes x }) ∙ (λ x. record { sets = (f x).sets ++ B ∷ []; nodes = (f x).nodes ++ node_by m next es ∷ [] }) ∙ whole

              in_table : AreInTable s3
              in_table i k = subst (λ (T : SetRows). i < length T) (sym table) (go (append_in s2.placed.keys (set ∷ []) i (subst (λ (ks : List ℕ). In i ks) placed k)))
                where
                  go : In i s2.placed.keys ⊎ In i (set ∷ []) → i < length s2.table
                  go (inl h) = w2.in_table i h
                  go (inr (inl h)) = let l = sets.more.longer in omega arith
                  go (inr (inr h)) = absurd h

              pub placed_answer : (number_at : ℕ) → number_at ≡ length s2.nodes
                  → HasNumber d s3 B number_at × IsSharing d s3 × AddsSets s.table s3.table × (shared_by d s3 ≡ share_other (chess d) (canon (chess d) j B) B (shared_by d s))
              placed_answer number_at e = (
                record {
                  there = subst (λ (u : Shared (chess d)). In B u.sets) (sym same) (parts.its_place (chess d) (chess_is_game d) j (number - 1) B m other is (shared_by d s) a.shared new next (map edge_of es) next_as es_as);
                  is =
                      e
                      ∙ ap (λ (u : Shared (chess d)). length u.nodes) all_before
                      ∙ sym (parts.its_number (chess d) (chess_is_game d) j (number - 1) B m other is (shared_by d s) a.shared new next (map edge_of es) next_as es_as)
                      ∙ ap (λ (u : Shared (chess d)). number_of (chess d) B u.sets) (sym same);
                },
                record {
                  paid = subst (λ T. IsPaidFor d true T) (sym table) w2.paid;
                  in_table = in_table;
                  counted = edges ∙ (let f = ap (total (λ (x : Node Move Key). length x.edges)) nodes in let g = total_append (λ (x : Node Move Key). length x.edges) s2.nodes (node_by m next es ∷ []) in let h = length-map es edge_of in let k = w2.counted in omega arith);
                  have_order = subst (λ (ns : List (Node Move Key)). HaveOrder ns) (sym nodes) (at_each s2.nodes (node_by m next es) (λ i x. HasOrder x) w2.have_order keys_ascend);
                  few_nodes = (let f = ap length nodes in let g = length-append s2.nodes (node_by m next es ∷ []) in omega arith);
                  few_edges = few_edges;
                  shared = subst (λ u. AreShared (chess d) u) (sym same) (parts.whole_shared (chess d) (chess_is_game d) j (number - 1) B m other is (shared_by d s) a.shared new);
                },
                subst (λ T. AddsSets s.table T) (sym table) sets,
                same,
              )

            -- what placing it comes to
            pub placing : (r : Result ℕ SearchStop) (s3 : Sharer) → s3.table ≡ s2.table → IfOk r (λ n. n ≡ length s2.nodes) → OnOk r (s3.placed.keys ≡ s2.placed.keys ++ set ∷ []) → OnOk r (s3.nodes ≡ s2.nodes ++ node_by m next es ∷ [])
                → OnOk r (s3.edges ≡ s2.edges + length es) → OnOk r (length s2.nodes < MOST_NODES) → OnOk r (s3.edges ≤ MOST_EDGES) → (r ≡ Err Large → (MOST_NODES < suc (length s2.nodes)) ⊎ (MOST_EDGES < s2.edges + length es)) → (r ≡ Err Spent → ⊥)
                → Shares d r (HasNumber d s3 (set_at s.table set)) s s3 (share_other (chess d) (canon (chess d) j (set_at s.table set)) (set_at s.table set) (shared_by d s))
            placing (Ok n) s3 table number_is placed nodes edges few_nodes few_edges large spent = placed_answer s3 table placed nodes edges few_nodes few_edges n number_is
            placing (Err Spent) s3 table number_is placed nodes edges few_nodes few_edges large spent = absurd (spent refl)
            placing (Err Large) s3 table number_is placed nodes edges few_nodes few_edges large spent = own_over (large refl)
            placing (Err NoMemory) s3 table number_is placed nodes edges few_nodes few_edges large spent = tt
