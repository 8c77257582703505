-- The roots of a plan, one after another.
use Rattle.std.proofs.Common.{true, ◌≡◌, ℕ, ◌+◌, ◌≤◌, ◌<◌, ◌⊎◌, inl, inr, cond, List, [], ◌∷◌, ◌++◌, max, refl, sym, ap, ◌∙◌, arith, Some, length, get_or, eq-or-lt_of_le}
use Rattle.std.specs.Ordering.{is_lt, nat_cmp, ord_max}
use Rattle.std.proofs.lemmas.Bool.{cases_lt}
use Rattle.std.proofs.lemmas.List.{append-nil, append_assoc}
use Rattle.std.proofs.Math.Nat.{le-max_left, le-max_right}
use Rattle.krieg_solve.proofs.Common.{Pos, Dialect, In, Just, size, depth, least, canon, greatest, stored, RootKey, chess, position_lt, NodeTree, PlanTrees, plan_size, plan_depth, SetRows, set_at, entries, AddsSets, AreNumbered, sets_in, Win, Opening, WonBy, IsPaidFor, with_root, roots_for}
use Rattle.krieg_theory.proofs.Lists.{in_map}
use Rattle.krieg_accounts.proofs.Tables.{wins_least}
use Rattle.krieg_game.proofs.ChessLaws.{chess_is_game}
use Rattle.krieg_pack.proofs.PackedOrder.{cmp_less, cmp_same, cmp_greater}
use Rattle.krieg_search.proofs.Adding.{adds_then, still_paid}
use Rattle.krieg_solve.proofs.Building.{still_won, won_at, won_can, won_node}
use Rattle.krieg_search.proofs.Checking.{item_in}

-- the greater of two numbers
pub greater_is : (a b : ℕ) → ord_max nat_cmp a b ≡ max a b
greater_is a b = go (cases_lt b a)
  where
    other : (a ≡ b) ⊎ (a < b) → cond (is_lt (nat_cmp b a)) a b ≡ max a b
    other (inl e) = let h : cond (is_lt (nat_cmp b a)) a b ≡ b = ap (λ o. cond (is_lt o) a b) (cmp_same b a (sym e)) in omega (arith, h)
    other (inr l) = let h : cond (is_lt (nat_cmp b a)) a b ≡ b = ap (λ o. cond (is_lt o) a b) (cmp_greater b a l) in omega (arith, h)

    go : (b < a) ⊎ (a ≤ b) → cond (is_lt (nat_cmp b a)) a b ≡ max a b
    go (inl l) = let h : cond (is_lt (nat_cmp b a)) a b ≡ a = ap (λ o. cond (is_lt o) a b) (cmp_less b a l) in omega (arith, h)
    go (inr l) = other (eq-or-lt_of_le l)

module _ (d : Dialect) (j : ℕ) where
  -- the same for the roots of a plan, and with the greatest of the least numbers
  pub record IsRooting (T0 T : SetRows) (pushed : PlanTrees) (worst : ℕ) (rest all : List (RootKey × List Pos)) (had has deep : ℕ) : Type 0 where
    pub joined : pushed ++ roots_for d j rest ≡ roots_for d j all
    pub numbers : max worst (greatest (λ (c : RootKey × List Pos). least (chess d) j c.1) rest) ≡ greatest (λ (c : RootKey × List Pos). least (chess d) j c.1) all
    pub nodes : has + plan_size (roots_for d j all) ≡ had + plan_size (roots_for d j rest)
    pub longest : plan_depth (roots_for d j rest) ≤ plan_depth (roots_for d j all)
    pub short : plan_depth (roots_for d j rest) ≤ deep → plan_depth (roots_for d j all) ≤ deep
    pub sets : AddsSets T0 T

  pub no_root : (T : SetRows) (all : List (RootKey × List Pos)) (had deep : ℕ) → AddsSets T T → IsRooting T T [] 0 all all had had deep
  no_root T all had deep s = record { joined = refl; numbers = omega arith; nodes = refl; longest = omega arith; short = λ h. h; sets = s }

  pub all_roots : (T0 T : SetRows) (pushed : PlanTrees) (worst : ℕ) (all : List (RootKey × List Pos)) (had has deep : ℕ) → IsRooting T0 T pushed worst [] all had has deep
      → (pushed ≡ roots_for d j all) × (worst ≡ greatest (λ (c : RootKey × List Pos). least (chess d) j c.1) all) × (has + plan_size (roots_for d j all) ≡ had) × (plan_depth (roots_for d j all) ≤ deep) × AddsSets T0 T
  all_roots T0 T pushed worst all had has deep a = (
    sym (append-nil pushed) ∙ a.joined,
    (let n = a.numbers in omega arith),
    (let n = a.nodes in omega arith),
    a.short (omega arith),
    a.sets,
  )

  module _ (T0 T1 : SetRows) (pushed : PlanTrees) (worst : ℕ) (c : RootKey × List Pos) (rest all : List (RootKey × List Pos)) (n : NodeTree) (had has deep : ℕ) (a : IsRooting T0 T1 pushed worst (c ∷ rest) all had has deep) (is : canon (chess d) j c.1 ≡ Just n) where
    next : roots_for d j (c ∷ rest) ≡ (c.0, n) ∷ roots_for d j rest
    next = ap (λ m. with_root c.0 m (roots_for d j rest)) is

    sizes : plan_size (roots_for d j (c ∷ rest)) ≡ size n + plan_size (roots_for d j rest)
    sizes = ap (λ (p : PlanTrees). plan_size p) next

    depths : plan_depth (roots_for d j (c ∷ rest)) ≡ max (depth n) (plan_depth (roots_for d j rest))
    depths = ap (λ (p : PlanTrees). plan_depth p) next

    -- the next node is too large
    pub root_large : (has < size n) ⊎ (deep < depth n) → (had < plan_size (roots_for d j all)) ⊎ (deep < plan_depth (roots_for d j all))
    root_large (inl h) = inl (let x = a.nodes in let s = sizes in omega arith)
    root_large (inr h) = inr (let x = a.longest in let s = depths in let m = le-max_left (depth n) (plan_depth (roots_for d j rest)) in omega arith)

    -- it fits, and its root is added
    pub one_root : (T2 : SetRows) (worse has' : ℕ) → worse ≡ max worst (least (chess d) j c.1) → has' + size n ≡ has → depth n ≤ deep → AddsSets T1 T2 → IsRooting T0 T2 (pushed ++ (c.0, n) ∷ []) worse rest all had has' deep
    one_root T2 worse has' w e f s = record {
      joined = append_assoc pushed ((c.0, n) ∷ []) (roots_for d j rest) ∙ ap (λ ys. pushed ++ ys) (sym next) ∙ a.joined;
      numbers = (let x = a.numbers in omega arith);
      nodes = (let x = a.nodes in let y = sizes in omega arith);
      longest = (let x = a.longest in let y = depths in let m = le-max_right (depth n) (plan_depth (roots_for d j rest)) in omega arith);
      short = λ h. a.short (let y = depths in omega arith);
      sets = adds_then T0 T1 T2 a.sets s;
    }

-- the opening whose root comes next
module _ (d : Dialect) (j : ℕ) (T0 T1 : SetRows) (os : List Opening) (k : ℕ) (x : Opening) (l : k < length os) (is : x ≡ get_or os k x) (s : AddsSets T0 T1) (paid : IsPaidFor d true T0) (n : AreNumbered T0 os) (won : (C : List Pos) → In C (sets_in T0 os) → WonBy T0 C j) where
  here : In x os
  here = item_in os k x l is

  pub root_within : x.set < length T1
  root_within = let m = n x here in let longer = s.more.longer in omega arith

  pub root_same : set_at T1 x.set ≡ set_at T0 x.set
  root_same = s.more.same x.set (n x here)

  pub root_won : WonBy T1 (set_at T1 x.set) j
  root_won = won_at T1 (set_at T0 x.set) (set_at T1 x.set) j root_same (still_won T0 T1 (set_at T0 x.set) j s (won (set_at T0 x.set) (in_map (λ o. set_at T0 o.set) os x here)))

  pub root_node : (m : NodeTree) × (canon (chess d) j (set_at T1 x.set) ≡ Just m)
  root_node = won_node d T1 (set_at T1 x.set) j (still_paid d T0 T1 s paid).ready root_won

  -- the number at which it is found to be won is the least
  pub root_least : (w : Win) → stored position_lt (entries T1) (set_at T1 x.set, w.moves) ≡ Some (Some w.mv) → least (chess d) j (set_at T0 x.set) ≡ w.moves
  root_least w e =
      let ready = (still_paid d T0 T1 s paid).ready in
      ap (least (chess d) j) (sym root_same) ∙ wins_least (chess d) (chess_is_game d) true (entries T1) ready.sound j (set_at T1 x.set) (w.moves, w.mv, e) (won_can d T1 (set_at T1 x.set) j ready root_won)
