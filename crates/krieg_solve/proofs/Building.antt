-- The node of a set, and what it takes.
use Rattle.std.proofs.Common.{◌≡◌, ℕ, suc, ◌+◌, ◌-◌, ◌≤◌, ◌<◌, ◌^◌, true, false, ◌⊎◌, inl, inr, List, [], ◌∷◌, map, Some, Result, Ok, Err, max, refl, sym, ap, subst, ◌∙◌, arith}
use Rattle.std.specs.Result.{IsErrAnd}
use Rattle.std.proofs.Math.Nat.{le-max_left, le-max_right}
use Rattle.krieg_solve.proofs.Common.{Pos, Move, Dialect, In, is_nil, Just, size, size_other, size_edges, depth, depth_other, depth_edges, refused, keys, class, can, edge_with, edges_of, canon, made, known, refused_canon, Key, chess, class_pair, IsParted, Parted, NodeTree, SetRows, entries, SearchStop, Large, IsReady, sets_of, AddsSets, WonBy, Builds, IsPaidFor, edges_for, stored}
use Rattle.krieg_theory.specs.Tree.{Try}
use Rattle.krieg_theory.proofs.Lists.{map_in}
use Rattle.krieg_theory.proofs.Built.{canon_wins}
use Rattle.krieg_theory.proofs.Unique.{can_upto}
use Rattle.krieg_accounts.proofs.Tables.{result_can}
use Rattle.krieg_accounts.proofs.Canonical.{class_won, refused_won, stored_is_canon}
use Rattle.krieg_game.proofs.ChessLaws.{chess_is_game}
use Rattle.krieg_search.specs.declared.stop.SearchStop.TheVariants.{Spent, NoMemory}
use Rattle.krieg_search.proofs.Leaving.{sets_are}

-- what is stored as won stays so where only sets come
pub still_won : (T T' : SetRows) (X : List Pos) (j : ℕ) → AddsSets T T' → WonBy T X j → WonBy T' X j
still_won T T' X j a w = (w.0, w.1, w.2, w.3, subst (λ E. Rattle.krieg_accounts.specs.Stored.stored Rattle.krieg_pack.specs.Order.position_lt E (X, w.0) ≡ Some (Some w.3)) (sym a.noted) w.4)

-- the same in another set, which is equal
pub won_at : (T : SetRows) (X Y : List Pos) (j : ℕ) → Y ≡ X → WonBy T X j → WonBy T Y j
won_at T X Y j e w = subst (λ (Z : List Pos). WonBy T Z j) (sym e) w

-- a step was too large: so is the whole
pub too_large : {A B : Type 0} (P : SearchStop → Type 0) (r : Result B SearchStop) (e : SearchStop) (holds : A → Type 0) (wanted : B → Type 0) (nodes nodes' deepest deepest' : ℕ) (T0 T1 T2 T3 : SetRows) (had had' has has' deep deep' : ℕ)
    → ((x : SearchStop) → P x → e ≡ x) → IsErrAnd r P → ((had < nodes) ⊎ (deep < deepest) → (had' < nodes') ⊎ (deep' < deepest')) → Builds (Err e) holds nodes deepest T0 T1 had has deep → Builds r wanted nodes' deepest' T2 T3 had' has' deep'
too_large P (Ok x) e holds wanted nodes nodes' deepest deepest' T0 T1 T2 T3 had had' has has' deep deep' same fails f k = absurd fails
too_large {A = A} {B = B} P (Err x) e holds wanted nodes nodes' deepest deepest' T0 T1 T2 T3 had had' has has' deep deep' same fails f k =
    go x (subst (λ (y : SearchStop). Builds {A = A} (Err y) holds nodes deepest T0 T1 had has deep) (same x fails) k)
  where
    go : (y : SearchStop) → Builds {A = A} (Err y) holds nodes deepest T0 T1 had has deep → Builds {A = B} (Err y) wanted nodes' deepest' T2 T3 had' has' deep'
    go Spent v = absurd v
    go Large v = f v
    go NoMemory v = tt

pub size_some : (n : NodeTree) → 0 < size n
size_some (Try t o es) = omega arith

pub depth_some : (n : NodeTree) → 0 < depth n
depth_some (Try t o es) = omega arith

module _ (d : Dialect) where
  -- a set that is stored as won has a canonical node
  pub won_can : (T : SetRows) (X : List Pos) (j : ℕ) → IsReady d true T → WonBy T X j → can (chess d) j X ≡ true
  won_can T X j r w = can_upto (chess d) (chess_is_game d) w.0 j X w.2 (result_can (chess d) (chess_is_game d) true (entries T) r.sound X w.0 (Some w.3) w.4)

  pub won_node : (T : SetRows) (X : List Pos) (j : ℕ) → IsReady d true T → WonBy T X j → (n : NodeTree) × (canon (chess d) j X ≡ Just n)
  won_node T X j r w = let c = canon_wins (chess d) (chess_is_game d) j X (won_can T X j r w) in (c.0, c.1)

  -- so it takes some node, and some path
  pub no_nodes : (T : SetRows) (X : List Pos) (j left deep : ℕ) → IsReady d true T → WonBy T X j → left ≡ 0 → (left < size_other (canon (chess d) j X)) ⊎ (deep < depth_other (canon (chess d) j X))
  no_nodes T X j left deep r w e = let n = won_node T X j r w in let s = size_some n.0 in let q = ap size_other n.1 in inl (omega arith)

  pub no_path : (T : SetRows) (X : List Pos) (j left deep : ℕ) → IsReady d true T → WonBy T X j → deep ≡ 0 → (left < size_other (canon (chess d) j X)) ⊎ (deep < depth_other (canon (chess d) j X))
  no_path T X j left deep r w e = let n = won_node T X j r w in let s = depth_some n.0 in let q = ap depth_other n.1 in inr (omega arith)

  list_is : (B : List Pos) (m : Move) (j : ℕ) (ks : List Key) → edges_for d j (map (λ key. (key, class (chess d) B m key)) ks) ≡ edges_of (chess d) ks (λ key. canon (chess d) j (class (chess d) B m key))
  list_is B m j [] = refl
  list_is B m j (k ∷ ks) = ap (edge_with (chess d) k (canon (chess d) j (class (chess d) B m k))) (list_is B m j ks)

  -- how the set is won that is built, and what its try makes of it
  module _ (T : SetRows) (B : List Pos) (j number : ℕ) (m : Move) (paid : IsPaidFor d true T) (some : 0 < number) (within : number ≤ j) (stored : known (chess d) (entries T) (B, number) ≡ Some (Some m)) where
    before : suc (number - 1) ≡ number
    before = omega arith

    at_before : known (chess d) (entries T) (B, suc (number - 1)) ≡ Some (Some m)
    at_before = subst (λ (i : ℕ). known (chess d) (entries T) (B, i) ≡ Some (Some m)) (sym before) stored

    -- its split was paid for
    pub paid_by : made (chess d) B m < 2 ^ 64
    paid_by = paid.wins (B, number) m stored

    module _ (p : Parted) (q : IsParted d B m p) where
      pub classes_won : (C : List Pos) → In C (sets_of p.classes.items) → WonBy T C (number - 1)
      classes_won C i =
          let k = map_in (λ (key : Key). class (chess d) B m key) (keys (chess d) B m) C (subst (In C) (sets_are d B m p.classes.items q.classes_part) i) in
          subst (λ (X : List Pos). WonBy T X (number - 1)) k.2 (class_won (chess d) (chess_is_game d) true (entries T) paid.ready.sound B (number - 1) m at_before k.0 k.1)

      pub refused_is_won : is_nil p.refused ≡ false → WonBy T p.refused number
      refused_is_won n =
          subst (λ (X : List Pos). WonBy T X number) (sym q.refused_part)
          (subst (λ (i : ℕ). WonBy T (refused (chess d) B m) i) before (refused_won (chess d) (chess_is_game d) true (entries T) paid.ready.sound B (number - 1) m at_before (ap is_nil (sym q.refused_part) ∙ n)))

      -- the canonical node, by the parts
      pub node_is : canon (chess d) j B ≡ Just (Try m (refused_canon (chess d) number p.refused) (edges_for d (number - 1) (map class_pair p.classes.items)))
      node_is =
          stored_is_canon (chess d) (chess_is_game d) true (entries T) B j (number - 1) m paid.ready.sound at_before (let x = before in omega arith)
          ∙ ap (λ (i : ℕ). Just (Try m (refused_canon (chess d) i (refused (chess d) B m)) (edges_of (chess d) (keys (chess d) B m) (λ key. canon (chess d) (number - 1) (class (chess d) B m key))))) before
          ∙ ap (λ (X : List Pos). Just (Try m (refused_canon (chess d) number X) (edges_of (chess d) (keys (chess d) B m) (λ key. canon (chess d) (number - 1) (class (chess d) B m key))))) (sym q.refused_part)
          ∙ ap (λ es. Just (Try m (refused_canon (chess d) number p.refused) es)) (sym (ap (edges_for d (number - 1)) q.classes_part ∙ list_is B m (number - 1) (keys (chess d) B m)))

      sizes : size_other (canon (chess d) j B) ≡ 1 + (size_other (refused_canon (chess d) number p.refused) + size_edges (edges_for d (number - 1) (map class_pair p.classes.items)))
      sizes = ap size_other node_is

      depths : depth_other (canon (chess d) j B) ≡ 1 + max (depth_other (refused_canon (chess d) number p.refused)) (depth_edges (edges_for d (number - 1) (map class_pair p.classes.items)))
      depths = ap depth_other node_is

      -- the edges are too large
      pub edges_large : (left deep : ℕ) → 0 < left → 0 < deep → (left - 1 < size_edges (edges_for d (number - 1) (map class_pair p.classes.items))) ⊎ (deep - 1 < depth_edges (edges_for d (number - 1) (map class_pair p.classes.items)))
          → (left < size_other (canon (chess d) j B)) ⊎ (deep < depth_other (canon (chess d) j B))
      edges_large left deep a b (inl h) = inl (let s = sizes in omega arith)
      edges_large left deep a b (inr h) = inr (let s = depths in let x = le-max_right (depth_other (refused_canon (chess d) number p.refused)) (depth_edges (edges_for d (number - 1) (map class_pair p.classes.items))) in omega arith)

      -- the node for the illegal case is, with the edges
      pub other_large : (left has deep : ℕ) → 0 < left → 0 < deep → has + size_edges (edges_for d (number - 1) (map class_pair p.classes.items)) ≡ left - 1 → (has < size_other (refused_canon (chess d) number p.refused)) ⊎ (deep - 1 < depth_other (refused_canon (chess d) number p.refused))
          → (left < size_other (canon (chess d) j B)) ⊎ (deep < depth_other (canon (chess d) j B))
      other_large left has deep a b e (inl h) = inl (let s = sizes in omega arith)
      other_large left has deep a b e (inr h) = inr (let s = depths in let x = le-max_left (depth_other (refused_canon (chess d) number p.refused)) (depth_edges (edges_for d (number - 1) (map class_pair p.classes.items))) in omega arith)

      -- all fits
      pub node_fits : (left has has' deep : ℕ) → 0 < left → 0 < deep → has + size_edges (edges_for d (number - 1) (map class_pair p.classes.items)) ≡ left - 1 → has' + size_other (refused_canon (chess d) number p.refused) ≡ has
          → depth_edges (edges_for d (number - 1) (map class_pair p.classes.items)) ≤ deep - 1 → depth_other (refused_canon (chess d) number p.refused) ≤ deep - 1
          → (has' + size_other (canon (chess d) j B) ≡ left) × (depth_other (canon (chess d) j B) ≤ deep)
      node_fits left has has' deep a b e f g h = ((let s = sizes in omega arith), (let s = depths in omega arith))
