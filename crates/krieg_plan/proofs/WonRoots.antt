-- A plan wins from a root exactly where the tree that is found there wins.
use Rattle.std.proofs.Common.{◌≡◌, ℕ, Bool, true, false, cond, [], ◌∷◌, refl}
use Rattle.krieg_plan.proofs.Common.{Pos, Side, Dialect, same, Just, wins, wins_other, wins_root, RootKey, root_lt, chess, outset, PlanTrees, first_root_in}

pub root_wins : (d : Dialect) (who : Side) (rs : PlanTrees) (key : RootKey) (p : Pos) (k : ℕ) → wins_root (chess d) (outset d who) rs key p k ≡ wins_other (chess d) (first_root_in rs key) p k
root_wins d who [] key p k = refl
root_wins d who (r ∷ rs) key p k = go (same root_lt r.0 key) (root_wins d who rs key p k)
  where
    go : (b : Bool) → wins_root (chess d) (outset d who) rs key p k ≡ wins_other (chess d) (first_root_in rs key) p k →
        cond b (wins (chess d) r.1 p k) (wins_root (chess d) (outset d who) rs key p k) ≡ wins_other (chess d) (cond b (Just r.1) (first_root_in rs key)) p k
    go true h = refl
    go false h = h
