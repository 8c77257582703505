-- The canonical node of a set that is stored as won, by what is stored of its parts.
use Rattle.std.proofs.Common.{◌≡◌, ℕ, zero, suc, ◌≤◌, ◌<◌, Bool, true, false, List, [], ◌∷◌, Some, None, refl, sym, ap, inl, inr, ◌∙◌, arith}
use Rattle.krieg_accounts.proofs.Common.{In, is_nil, Game, IsGame, Try, Just, refused, keys, class, can, first_try, edges_of, node_of, canon, total, StoredIsCanon, Table, known, StoredWon, IsSound}
use Rattle.krieg_theory.proofs.Least.{least_le}
use Rattle.krieg_theory.proofs.Unique.{canon_upto, canon_step, part}
use Rattle.krieg_costs.proofs.WonSets.{first_is}
use Rattle.krieg_accounts.proofs.Tables.{result_can, wins_least}

pub in_total : {X : Type 0} (f : X → ℕ) (xs : List X) (x : X) → In x xs → f x ≤ total f xs
in_total f [] x i = absurd i
in_total f (y ∷ ys) x (inl e) = let a : f y ≡ f x = ap f e in omega arith
in_total f (y ∷ ys) x (inr i) = let ih = in_total f ys x i in omega arith

module _ (G : Game) (L : IsGame G) where
  -- the set is stored as won within j
  abbrev pub WonBy : Table G → List G.Position → ℕ → Type 0
  WonBy T X j = (i : ℕ) × (0 < i) × (i ≤ j) × (m : G.Move) × (known G T (X, i) ≡ Some (Some m))

  pub first_stored : (cut : Bool) → (T : Table G) → IsSound G cut T → (B : List G.Position) (k : ℕ) (m : G.Move) → known G T (B, suc k) ≡ Some (Some m) → (can G k B ≡ false) × (first_try G (suc k) B ≡ Some m)
  first_stored cut T s B k m h = (lost k (s.backed B (suc k) (Some m) h).below, sym (s.right B (suc k) (Some m) h))
    where
      lost : (n : ℕ) → ((i : ℕ) → 0 < i → i < suc n → known G T (B, i) ≡ Some None) → can G n B ≡ false
      lost zero f = refl
      lost (suc n) f = result_can G L cut T s B (suc n) None (f (suc n) (omega arith) (omega arith))

  pub canon_stored : (cut : Bool) → (T : Table G) → IsSound G cut T → (B : List G.Position) (j k : ℕ) (m : G.Move) → known G T (B, suc k) ≡ Some (Some m) → suc k ≤ j → canon G j B ≡ Just (Try m (part G L (suc k) (refused G B m)) (edges_of G (keys G B m) (λ key. canon G k (class G B m key))))
  canon_stored cut T s B j k m h l =
      let f = first_stored cut T s B k m h in
      canon_upto G L (suc k) j B l (result_can G L cut T s B (suc k) (Some m) h)
      ∙ canon_step G L k B f.0
      ∙ ap (λ o. node_of G o (λ t. part G L (suc k) (refused G B t)) (λ t. edges_of G (keys G B t) (λ key. canon G k (class G B t key)))) f.1

  pub by_least : (cut : Bool) → (T : Table G) → IsSound G cut T → (X : List G.Position) (j : ℕ) → StoredWon G T X → can G j X ≡ true → WonBy T X j
  by_least cut T s X j w c = (w.0, (s.backed X w.0 (Some w.1) w.2).some, (let e = wins_least G L cut T s j X w c in let h = least_le G j X in omega arith), w.1, w.2)

  pub class_won : (cut : Bool) → (T : Table G) → IsSound G cut T → (B : List G.Position) (k : ℕ) (m : G.Move) → known G T (B, suc k) ≡ Some (Some m) → (key : G.Key) → In key (keys G B m) → WonBy T (class G B m key) k
  class_won cut T s B k m h key i =
      let f = first_is G L k B m (first_stored cut T s B k m h).1 in
      by_least cut T s (class G B m key) k ((s.backed B (suc k) (Some m) h).classes m refl key i) (f.class_won key i)

  pub refused_won : (cut : Bool) → (T : Table G) → IsSound G cut T → (B : List G.Position) (k : ℕ) (m : G.Move) → known G T (B, suc k) ≡ Some (Some m) → is_nil (refused G B m) ≡ false → WonBy T (refused G B m) (suc k)
  refused_won cut T s B k m h e =
      let f = first_is G L k B m (first_stored cut T s B k m h).1 in
      by_least cut T s (refused G B m) (suc k) ((s.backed B (suc k) (Some m) h).refused_part m refl e) (f.refused_won e)

  pub stored_is_canon : StoredIsCanon G
  stored_is_canon cut T B j k m s h l = canon_stored cut T s B j k m h l
