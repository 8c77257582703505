-- One stretch of a search after another, and the note at the end of one.
use Rattle.std.proofs.Common.{Bool, ◌≡◌, ℕ, ◌+◌, ◌≤◌, ◌<◌, List, ◌++◌, length, Option, Some, None, is_some, ◌⊎◌, inl, inr, refl, sym, ap, subst, ◌∙◌, arith}
use Rattle.std.specs.Prelude.{IfSome, true}
use Rattle.krieg_theory.proofs.First.{first_none}
use Rattle.std.proofs.lemmas.Bool.{both_ways}
use Rattle.krieg_accounts.proofs.Common.{In, Game, IsGame, refused, tries, class, begins, first_try, Pair, made, price, block_pair, floor_price, AddsResult, Table, known, StoredLost, StoredWon, IsBacked, IsSound, StretchesJoin, NotedIsStretch, LostIsStretch, ShortOfPair, IsStretch, FallsShort, CoversPair, CoversTries, CoversSets}
use Rattle.krieg_theory.proofs.Lists.{in_append_left, in_append_right}
use Rattle.krieg_costs.proofs.Totals.{total_up_to}
use Rattle.krieg_accounts.proofs.Below.{below, below_has, below_in, not_below_itself, some_list}
use Rattle.krieg_accounts.proofs.Owed.{grows_kept, owed_over_at, owed_below_at}

module _ (G : Game) where
  -- nothing is done
  pub stretch_of_nothing : (cut : Bool) → (Q : List (Pair G) → Type 0) (T : Table G) (u : ℕ) → IsSound G cut T → IsStretch G cut Q 0 T T u u
  stretch_of_nothing cut Q T u s = record { sound = s; kept = λ q x h. h; news = λ R h q x k. inl k; exact = λ c. omega arith; at_most = omega arith; fewer = omega arith; won = λ q x k. inl k; paid = λ R q. omega arith }

  -- a try is split, which costs what it takes
  pub stretch_of_split : (cut : Bool) → (Q : List (Pair G) → Type 0) (T : Table G) (m had has : ℕ) → IsSound G cut T → has + m ≡ had → IsStretch G cut Q m T T had has
  stretch_of_split cut Q T m had has s e = record { sound = s; kept = λ q x h. h; news = λ R h q x k. inl k; exact = λ c. omega arith; at_most = omega arith; fewer = omega arith; won = λ q x k. inl k; paid = λ R q. omega arith }

  -- a try is cut, which takes nothing
  pub stretch_of_cut : (cut : Bool) → (Q : List (Pair G) → Type 0) (T : Table G) (m u : ℕ) → cut ≡ true → IsSound G cut T → IsStretch G cut Q m T T u u
  stretch_of_cut cut Q T m u may s = record { sound = s; kept = λ q x h. h; news = λ R h q x k. inl k; exact = λ c. absurd (both_ways cut c may); at_most = omega arith; fewer = omega arith; won = λ q x k. inl k; paid = λ R q. omega arith }

  -- one stretch behind another
  pub stretch_then : (cut : Bool) → (Q Q' : List (Pair G) → Type 0) (a b : ℕ) (T0 T1 T2 : Table G) (u0 u1 u2 : ℕ) → ((R : List (Pair G)) → Q R → Q' R) → IsStretch G cut Q a T0 T1 u0 u1 → IsStretch G cut Q' b T1 T2 u1 u2 → IsStretch G cut Q (a + b) T0 T2 u0 u2
  stretch_then cut Q Q' a b T0 T1 T2 u0 u1 u2 f w v = record {
    sound = v.sound;
    kept = λ q x h. v.kept q x (w.kept q x h);
    news = λ R h q x k. before R h q x (v.news R (f R h) q x k);
    exact = λ c. (let x = w.exact c in let y = v.exact c in omega arith);
    at_most = (let x = w.at_most in let y = v.at_most in omega arith);
    fewer = (let x = w.fewer in let y = v.fewer in omega arith);
    won = λ q m k. paid_before q m (v.won q m k);
    paid = λ R q. (let x = w.paid R q in let y = v.paid R (f R q) in omega arith);
  }
    where
      before : (R : List (Pair G)) → Q R → (q : Pair G) (x : Option G.Move) → (known G T1 q ≡ Some x) ⊎ In q R → (known G T0 q ≡ Some x) ⊎ In q R
      before R h q x (inl k) = w.news R h q x k
      before R h q x (inr i) = inr i

      paid_first : (q : Pair G) (m : G.Move) → (known G T0 q ≡ Some (Some m)) ⊎ (u1 + made G q.0 m ≤ u0) → (known G T0 q ≡ Some (Some m)) ⊎ (u2 + made G q.0 m ≤ u0)
      paid_first q m (inl k) = inl k
      paid_first q m (inr e) = let y = v.fewer in inr (omega arith)

      paid_before : (q : Pair G) (m : G.Move) → (known G T1 q ≡ Some (Some m)) ⊎ (u2 + made G q.0 m ≤ u1) → (known G T0 q ≡ Some (Some m)) ⊎ (u2 + made G q.0 m ≤ u0)
      paid_before q m (inl k) = paid_first q m (w.won q m k)
      paid_before q m (inr e) = let x = w.fewer in inr (omega arith)

  -- units that fall short behind a stretch did so before it
  pub short_then : (cut : Bool) → (Q Q' : List (Pair G) → Type 0) (a b : ℕ) (T0 T1 : Table G) (u0 u1 : ℕ) → ((R : List (Pair G)) → Q R → Q' R) → IsStretch G cut Q a T0 T1 u0 u1 → FallsShort G Q' b T1 u1 → FallsShort G Q (a + b) T0 u0
  short_then cut Q Q' a b T0 T1 u0 u1 f w v R q = let x = w.paid R q in let y = v R (f R q) in omega arith

  -- with the cost in another form, or with more of it
  pub stretch_cost : (cut : Bool) → (Q : List (Pair G) → Type 0) (a b : ℕ) (T0 T1 : Table G) (u0 u1 : ℕ) → a ≡ b → IsStretch G cut Q a T0 T1 u0 u1 → IsStretch G cut Q b T0 T1 u0 u1
  stretch_cost cut Q a b T0 T1 u0 u1 h w = subst (λ c. IsStretch G cut Q c T0 T1 u0 u1) h w

  pub short_cost : (Q : List (Pair G) → Type 0) (a b : ℕ) (T0 : Table G) (u0 : ℕ) → a ≤ b → FallsShort G Q a T0 u0 → FallsShort G Q b T0 u0
  short_cost Q a b T0 u0 h v R q = let x = v R q in omega arith

  -- for fewer lists
  pub stretch_for : (cut : Bool) → (Q Q' : List (Pair G) → Type 0) (a : ℕ) (T0 T1 : Table G) (u0 u1 : ℕ) → ((R : List (Pair G)) → Q R → Q' R) → IsStretch G cut Q' a T0 T1 u0 u1 → IsStretch G cut Q a T0 T1 u0 u1
  stretch_for cut Q Q' a T0 T1 u0 u1 f w = record { sound = w.sound; kept = w.kept; news = λ R q. w.news R (f R q); exact = w.exact; at_most = w.at_most; fewer = w.fewer; won = w.won; paid = λ R q. w.paid R (f R q) }

  -- what holds of stored results holds in each table that keeps them
  abbrev pub Kept : Table G → Table G → Type 0
  Kept T T' = (q : Pair G) (x : Option G.Move) → known G T q ≡ Some x → known G T' q ≡ Some x

  pub lost_kept : (T T' : Table G) (o : Option (Pair G)) → Kept T T' → IfSome o (λ q. StoredLost G T q) → IfSome o (λ q. StoredLost G T' q)
  lost_kept T T' None k h = tt
  lost_kept T T' (Some q) k h = k q None h

  pub wins_kept : (T T' : Table G) (X : List G.Position) → Kept T T' → StoredWon G T X → StoredWon G T' X
  wins_kept T T' X k w = (w.0, w.1, k (X, w.0) (Some w.1) w.2)

  pub backed_kept : (cut : Bool) → (T T' : Table G) (B : List G.Position) (j : ℕ) (o : Option G.Move) → Kept T T' → IsBacked G cut T B j o → IsBacked G cut T' B j o
  backed_kept cut T T' B j o k b = record {
    some = b.some;
    below = λ i h l. k (B, i) None (b.below i h l);
    earlier = λ c t l e. lost_kept T T' (block_pair G j B t) k (b.earlier c t l e);
    classes = λ m e key i. wins_kept T T' (class G B m key) k (b.classes m e key i);
    refused_part = λ m e n. wins_kept T T' (refused G B m) k (b.refused_part m e n);
  }

  -- what is sound where tries may not be cut is so where they may
  pub weaker : (cut : Bool) (T : Table G) → IsSound G cut T → IsSound G true T
  weaker cut T s = record {
    right = s.right;
    backed = λ B j o h. (let b = s.backed B j o h in record { some = b.some; below = b.below; earlier = λ c. absurd (both_ways true c refl); classes = b.classes; refused_part = b.refused_part });
  }

module _ (G : Game) (L : IsGame G) where
  -- a result that is right and backed is noted
  pub noted_sound : (cut : Bool) → (T T' : Table G) (B : List G.Position) (j : ℕ) (o : Option G.Move) → IsSound G cut T → AddsResult G.position_lt T T' (B, j) o → o ≡ first_try G j B → IsBacked G cut T B j o → IsSound G cut T'
  noted_sound cut T T' B j o s n e b = record {
    right = λ C i x h. right C i x (n.nothing_else (C, i) x h);
    backed = λ C i x h. backed C i x (n.nothing_else (C, i) x h);
  }
    where
      right : (C : List G.Position) (i : ℕ) (x : Option G.Move) → (known G T (C, i) ≡ Some x) ⊎ (◌≡◌ {A = Pair G} (B, j) (C, i) × (o ≡ x)) → x ≡ first_try G i C
      right C i x (inl a) = s.right C i x a
      right C i x (inr a) = sym a.1 ∙ e ∙ ap (λ (p : Pair G). first_try G p.1 p.0) a.0

      backed : (C : List G.Position) (i : ℕ) (x : Option G.Move) → (known G T (C, i) ≡ Some x) ⊎ (◌≡◌ {A = Pair G} (B, j) (C, i) × (o ≡ x)) → IsBacked G cut T' C i x
      backed C i x (inl a) = backed_kept G cut T T' C i x n.kept (s.backed C i x a)
      backed C i x (inr a) =
          let P : Pair G → Type 0 = λ p. IsBacked G cut T' p.0 p.1 x in
          subst P a.0 (subst (λ y. IsBacked G cut T' B j y) a.1 (backed_kept G cut T T' B j o n.kept b))

  -- the pair was expanded, and its result is noted
  pub stretch_noted : (cut : Bool) → (T0 T1 T2 : Table G) (B : List G.Position) (j : ℕ) (o : Option G.Move) (u0 u1 : ℕ) → IsStretch G cut (CoversTries G B j) (floor_price G (B, j)) T0 T1 u0 u1 → IfSome o (λ m. u1 + made G B m ≤ u0) → o ≡ first_try G j B → IsBacked G cut T1 B j o → known G T0 (B, j) ≡ None → AddsResult G.position_lt T1 T2 (B, j) o → IsStretch G cut (CoversPair G B j) 0 T0 T2 u0 u1
  stretch_noted cut T0 T1 T2 B j o u0 u1 w p e b none n = record {
    sound = noted_sound cut T1 T2 B j o w.sound n e b;
    kept = λ q x h. n.kept q x (w.kept q x h);
    news = λ R h q x k. before R h q x (n.nothing_else q x k);
    exact = λ h. (let a = w.exact h in let c = n.one_more (floor_price G) in omega arith);
    at_most = (let a = w.at_most in let c = n.one_more (floor_price G) in omega arith);
    fewer = w.fewer;
    won = λ q m k. taken q m (n.nothing_else q (Some m) k);
    paid = λ R q.
        let a = w.paid (below G L j (length B) R) (below_has G L R B j q) in
        let c = owed_over_at G L R (B, j) T0 T1 T2 (grows_kept G L T0 T1 w.kept) (grows_kept G L T1 T2 n.kept) (ap is_some none) (ap is_some n.here) q.1 in
        let d = total_up_to (made G B) (begins G j B) (tries G B) in
        omega arith;
  }
    where
      inside : (R : List (Pair G)) (q : Pair G) (x : Option G.Move) → (known G T0 q ≡ Some x) ⊎ In q (below G L j (length B) R) → (known G T0 q ≡ Some x) ⊎ In q R
      inside R q x (inl k) = inl k
      inside R q x (inr i) = inr (below_in G L j (length B) R q i)

      before : (R : List (Pair G)) → CoversPair G B j R → (q : Pair G) (x : Option G.Move) → (known G T1 q ≡ Some x) ⊎ (((B, j) ≡ q) × (o ≡ x)) → (known G T0 q ≡ Some x) ⊎ In q R
      before R h q x (inl k) = inside R q x (w.news (below G L j (length B) R) (below_has G L R B j h) q x k)
      before R h q x (inr e) = inr (subst (λ p. In p R) e.0 h.1)

      taken : (q : Pair G) (m : G.Move) → (known G T1 q ≡ Some (Some m)) ⊎ (((B, j) ≡ q) × (o ≡ Some m)) → (known G T0 q ≡ Some (Some m)) ⊎ (u1 + made G q.0 m ≤ u0)
      taken q m (inl k) = w.won q m k
      taken q m (inr h) = inr (subst (λ (x : Pair G). u1 + made G x.0 m ≤ u0) h.0 (subst (λ (x : Option G.Move). IfSome x (λ t. u1 + made G B t ≤ u0)) h.1 p))

  -- where tries may be cut, a set that is known to be lost is noted for nothing
  pub lost_is_stretch : LostIsStretch G
  lost_is_stretch T0 T1 B j u s c pos lost none n = record {
    sound = noted_sound true T0 T1 B j None s n (sym (first_none G L j B c)) backed;
    kept = n.kept;
    news = λ R h q x k. fresh R h q x (n.nothing_else q x k);
    exact = λ h. absurd (both_ways true h refl);
    at_most = (let p = n.one_more (floor_price G) in omega arith);
    fewer = omega arith;
    won = λ q m k. old q m (n.nothing_else q (Some m) k);
    paid = λ R q.
        let c = owed_over_at G L R (B, j) T0 T0 T1 (λ p h. h) (grows_kept G L T0 T1 n.kept) (ap is_some none) (ap is_some n.here) q.1 in
        omega arith;
  }
    where
      backed : IsBacked G true T0 B j None
      backed = record {
        some = pos;
        below = lost;
        earlier = λ h. absurd (both_ways true h refl);
        classes = λ m h. absurd (let k : ◌≡◌ {A = Option G.Move} None (Some m) = h in cc);
        refused_part = λ m h. absurd (let k : ◌≡◌ {A = Option G.Move} None (Some m) = h in cc);
      }

      fresh : (R : List (Pair G)) → CoversPair G B j R → (q : Pair G) (x : Option G.Move) → (known G T0 q ≡ Some x) ⊎ (((B, j) ≡ q) × (None ≡ x)) → (known G T0 q ≡ Some x) ⊎ In q R
      fresh R h q x (inl k) = inl k
      fresh R h q x (inr e) = inr (subst (λ p. In p R) e.0 h.1)

      old : (q : Pair G) (m : G.Move) → (known G T0 q ≡ Some (Some m)) ⊎ (((B, j) ≡ q) × (◌≡◌ {A = Option G.Move} None (Some m))) → (known G T0 q ≡ Some (Some m)) ⊎ (u + made G q.0 m ≤ u)
      old q m (inl k) = inl k
      old q m (inr h) = absurd (let k : ◌≡◌ {A = Option G.Move} None (Some m) = h.1 in cc)

  -- a pair is not stored while it is expanded
  pub still_unknown : (cut : Bool) → (T0 T1 : Table G) (B : List G.Position) (j : ℕ) (cost u0 u1 : ℕ) → 0 < j → IsStretch G cut (CoversTries G B j) cost T0 T1 u0 u1 → known G T0 (B, j) ≡ None → known G T1 (B, j) ≡ None
  still_unknown cut T0 T1 B j cost u0 u1 pos w none = go (known G T1 (B, j)) refl
    where
      apart : (x : Option G.Move) → (known G T0 (B, j) ≡ Some x) ⊎ In (B, j) (below G L j (length B) (some_list G L B j pos).0) → ⊥
      apart x (inl k) = let q : ◌≡◌ {A = Option (Option G.Move)} None (Some x) = sym none ∙ k in cc
      apart x (inr i) = not_below_itself G L (B, j) (some_list G L B j pos).0 i

      go : (r : Option (Option G.Move)) → known G T1 (B, j) ≡ r → known G T1 (B, j) ≡ None
      go None e = e
      go (Some x) e = let s = some_list G L B j pos in absurd (apart x (w.news (below G L j (length B) s.0) (below_has G L s.0 B j s.1) (B, j) x e))

  pub short_noted : (T0 : Table G) (B : List G.Position) (j : ℕ) (u0 : ℕ) → known G T0 (B, j) ≡ None → FallsShort G (CoversTries G B j) (price G B) T0 u0 → FallsShort G (CoversPair G B j) 0 T0 u0
  short_noted T0 B j u0 none v R q =
      let a = v (below G L j (length B) R) (below_has G L R B j q) in
      let c = owed_below_at G L R (B, j) T0 (ap is_some none) q.1 in
      omega arith

  pub noted_is_stretch : NotedIsStretch G
  noted_is_stretch cut = stretch_noted cut

  pub short_of_pair : ShortOfPair G
  short_of_pair T B j u none v = short_noted T B j u none v

  pub stretches_join : StretchesJoin G
  stretches_join cut Cs Ds j a b T0 T1 T2 u0 u1 u2 w v =
      stretch_then G cut (CoversSets G (Cs ++ Ds) j) (CoversSets G Ds j) a b T0 T1 T2 u0 u1 u2 (λ R h. (h.0, λ C i. h.1 C (in_append_right Cs Ds C i)))
      (stretch_for G cut (CoversSets G (Cs ++ Ds) j) (CoversSets G Cs j) a T0 T1 u0 u1 (λ R h. (h.0, λ C i. h.1 C (in_append_left Cs Ds C i))) w)
      v
