-- A table that backs its results keeps the rules of backing, so it was paid for with at least the floor.
use Rattle.std.proofs.Common.{refl, ◌≡◌, ℕ, suc, true, false, List, Option, Some, None, sym, subst, ◌∙◌, arith}
use Rattle.std.specs.Prelude.{IfSome}
use Rattle.krieg_accounts.proofs.Common.{In, Game, IsGame, refused, legal_in_some, class, can, first_try, least, Outset, IsOutset, opening_set, Pair, block_pair, first_lost, HasWon, IsBacking, pairs, Table, StoredLost, StoredWon, IsEarlier, IsSound, AnswersPlan, StoredIsBacking, FloorIsCharged}
use Rattle.krieg_theory.proofs.First.{first_none}
use Rattle.krieg_theory.proofs.Planned.{can_plan_at}
use Rattle.krieg_costs.proofs.WonSets.{first_is}
use Rattle.krieg_costs.proofs.Backed.{floor_within}
use Rattle.krieg_accounts.proofs.Tables.{known_in, in_known, wins_least}

module _ (G : Game) (L : IsGame G) where
  lost_in : (T : Table G) (o : Option (Pair G)) → IfSome o (λ q. StoredLost G T q) → IfSome o (λ q. In q (pairs T))
  lost_in T None h = tt
  lost_in T (Some q) h = known_in G L T q None h

  -- at its least number
  won_in : (T : Table G) → IsSound G false T → (k : ℕ) (X : List G.Position) → StoredWon G T X → can G k X ≡ true → In (X, least G k X) (pairs T)
  won_in T s k X w c = subst (λ i. In (X, i) (pairs T)) (sym (wins_least G L false T s k X w c)) (known_in G L T (X, w.0) (Some w.1) w.2)

  keeps_lost : (T : Table G) → IsSound G false T → (B : List G.Position) (j : ℕ) → In (B, j) (pairs T) → can G j B ≡ false → (t : G.Move) → legal_in_some G B t ≡ true → IfSome (block_pair G j B t) (λ q. In q (pairs T))
  keeps_lost T s B j i c t l =
      let a = in_known G L T (B, j) i in
      let none : a.0 ≡ None = s.right B j a.0 a.1 ∙ first_none G L j B c in
      lost_in T (block_pair G j B t) ((s.backed B j a.0 a.1).earlier refl t l (subst (λ o. IsEarlier G o t) (sym none) tt))

  keeps_won : (T : Table G) → IsSound G false T → (B : List G.Position) (j : ℕ) (m : G.Move) → In (B, suc j) (pairs T) → can G j B ≡ false → first_try G (suc j) B ≡ Some m → HasWon G (pairs T) B j m
  keeps_won T s B j m i c f =
      let a = in_known G L T (B, suc j) i in
      let won : a.0 ≡ Some m = s.right B (suc j) a.0 a.1 ∙ f in
      let b = s.backed B (suc j) a.0 a.1 in
      let w = first_is G L j B m f in
      record {
        below = λ h. known_in G L T (B, j) None (b.below j h (omega arith));
        classes = λ key k. won_in T s j (class G B m key) (b.classes m won key k) (w.class_won key k);
        refused_part = λ e. won_in T s (suc j) (refused G B m) (b.refused_part m won e) (w.refused_won e);
        earlier = λ t l e. lost_in T (block_pair G (suc j) B t) (b.earlier refl t l (subst (λ o. IsEarlier G o t) (sym won) e));
      }

  pub stored_is_backing : StoredIsBacking G
  stored_is_backing T s = (keeps_lost T s, keeps_won T s)

module _ (G : Game) (L : IsGame G) (O : Outset G) (W : IsOutset G O) where
  pub table_backs : (n : ℕ) (S : List G.Position) (T : Table G) → IsSound G false T → AnswersPlan G O T n S → IsBacking G O n S (pairs T)
  table_backs n S T s a = record {
    all_won = λ c key i. won_in G L T s n (opening_set G O S key) (a.all_won c key i) ((can_plan_at G L O W S n c).1 key i);
    one_lost = λ e h. there (first_lost G O n S) (a.one_lost e h);
    keeps_lost = keeps_lost G L T s;
    keeps_won = keeps_won G L T s;
  }
    where
      there : (o : Option O.Root) → IfSome o (λ key. StoredLost G T (opening_set G O S key, n)) → IfSome o (λ key. In (opening_set G O S key, n) (pairs T))
      there None h = tt
      there (Some key) h = known_in G L T (opening_set G O S key, n) None h

  pub floor_is_charged : FloorIsCharged G O
  floor_is_charged n S T s a = floor_within G L O W n S (pairs T) (table_backs n S T s a)
