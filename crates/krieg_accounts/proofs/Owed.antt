-- What is owed over a stretch: of a whole list, and of the pairs below one of its pairs.
use Rattle.std.proofs.Common.{◌≡◌, ℕ, ◌+◌, ◌≤◌, Bool, true, false, cond, ◌⊎◌, inl, inr, List, [], ◌∷◌, length, Option, Some, None, is_some, refl, ap, ◌∙◌, arith}
use Rattle.std.proofs.lemmas.Bool.{cases_Bool, both_ways, cond-true, cond-false}
use Rattle.krieg_accounts.proofs.Common.{In, Game, IsGame, Pair, price, Table, known, owed, all_owed}
use Rattle.krieg_accounts.proofs.Below.{before, below, not_before_itself}

module _ (G : Game) (L : IsGame G) where
  abbrev pub Grows : Table G → Table G → Type 0
  Grows T T' = (p : Pair G) → is_some (known G T p) ≡ true → is_some (known G T' p) ≡ true

  pub grows_kept : (T T' : Table G) → ((q : Pair G) (x : Option G.Move) → known G T q ≡ Some x → known G T' q ≡ Some x) → Grows T T'
  grows_kept T T' k p h = go (known G T p) refl h
    where
      go : (o : Option (Option G.Move)) → known G T p ≡ o → is_some o ≡ true → is_some (known G T' p) ≡ true
      go None e h = absurd (both_ways false refl h)
      go (Some x) e h = ap is_some (k p x e)

  -- what is stored is owed no more
  owed_less : (T0 T1 : Table G) (p : Pair G) → Grows T0 T1 → owed G T1 p ≤ owed G T0 p
  owed_less T0 T1 p g = go (cases_Bool (is_some (known G T0 p)))
    where
      any : (b : Bool) → cond b 0 (price G p.0) ≤ price G p.0
      any true = omega arith
      any false = omega arith

      go : (is_some (known G T0 p) ≡ true) ⊎ (is_some (known G T0 p) ≡ false) → owed G T1 p ≤ owed G T0 p
      go (inl e) = let a = cond-true (is_some (known G T1 p)) 0 (price G p.0) (g p e) in omega arith
      go (inr e) = let a = cond-false (is_some (known G T0 p)) 0 (price G p.0) e in let b = any (is_some (known G T1 p)) in omega arith

  owed_cons : (q : Pair G) (R : List (Pair G)) (T : Table G) → all_owed G (q ∷ R) T ≡ owed G T q + all_owed G R T
  owed_cons q R T = refl

  below_yes : (q : Pair G) (R : List (Pair G)) (j n : ℕ) (T : Table G) → before G L j n q ≡ true → all_owed G (below G L j n (q ∷ R)) T ≡ owed G T q + all_owed G (below G L j n R) T
  below_yes q R j n T e = ap (λ (x : List (Pair G)). all_owed G x T) (cond-true (before G L j n q) (q ∷ below G L j n R) (below G L j n R) e)

  below_not : (q : Pair G) (R : List (Pair G)) (j n : ℕ) (T : Table G) → before G L j n q ≡ false → all_owed G (below G L j n (q ∷ R)) T ≡ all_owed G (below G L j n R) T
  below_not q R j n T e = ap (λ (x : List (Pair G)). all_owed G x T) (cond-false (before G L j n q) (q ∷ below G L j n R) (below G L j n R) e)

  -- the whole, by what is below
  pub owed_over : (R : List (Pair G)) (j n : ℕ) (T0 T1 T2 : Table G) → Grows T0 T1 → Grows T1 T2 → all_owed G R T2 + all_owed G (below G L j n R) T0 ≤ all_owed G R T0 + all_owed G (below G L j n R) T1
  owed_over [] j n T0 T1 T2 g h = omega arith
  owed_over (q ∷ R) j n T0 T1 T2 g h = go (cases_Bool (before G L j n q)) (owed_over R j n T0 T1 T2 g h)
    where
      go : (before G L j n q ≡ true) ⊎ (before G L j n q ≡ false) → all_owed G R T2 + all_owed G (below G L j n R) T0 ≤ all_owed G R T0 + all_owed G (below G L j n R) T1 → all_owed G (q ∷ R) T2 + all_owed G (below G L j n (q ∷ R)) T0 ≤ all_owed G (q ∷ R) T0 + all_owed G (below G L j n (q ∷ R)) T1
      go (inl e) ih =
          let b = owed_less T1 T2 q h in
          let x = below_yes q R j n T0 e in
          let y = below_yes q R j n T1 e in
          omega (arith, owed_cons q R T2, owed_cons q R T0)
      go (inr e) ih =
          let a = owed_less T0 T2 q (λ p k. h p (g p k)) in
          let x = below_not q R j n T0 e in
          let y = below_not q R j n T1 e in
          omega (arith, owed_cons q R T2, owed_cons q R T0)

  -- and by the pair itself, which is there, was owed and is owed no more
  pub owed_over_at : (R : List (Pair G)) (p : Pair G) (T0 T1 T2 : Table G) → Grows T0 T1 → Grows T1 T2 → is_some (known G T0 p) ≡ false → is_some (known G T2 p) ≡ true → In p R → all_owed G R T2 + all_owed G (below G L p.1 (length p.0) R) T0 + price G p.0 ≤ all_owed G R T0 + all_owed G (below G L p.1 (length p.0) R) T1
  owed_over_at [] p T0 T1 T2 g h none now i = absurd i
  owed_over_at (q ∷ R) p T0 T1 T2 g h none now (inl e) =
      let ih = owed_over R p.1 (length p.0) T0 T1 T2 g h in
      let a : owed G T0 q ≡ price G p.0 = ap (owed G T0) e ∙ cond-false (is_some (known G T0 p)) 0 _ none in
      let b : owed G T2 q ≡ 0 = ap (owed G T2) e ∙ cond-true (is_some (known G T2 p)) 0 _ now in
      let it : before G L p.1 (length p.0) q ≡ false = ap (before G L p.1 (length p.0)) e ∙ not_before_itself G L p in
      let x = below_not q R p.1 (length p.0) T0 it in
      let y = below_not q R p.1 (length p.0) T1 it in
      omega (arith, owed_cons q R T2, owed_cons q R T0)
  owed_over_at (q ∷ R) p T0 T1 T2 g h none now (inr i) = go (cases_Bool (before G L p.1 (length p.0) q)) (owed_over_at R p T0 T1 T2 g h none now i)
    where
      go : (before G L p.1 (length p.0) q ≡ true) ⊎ (before G L p.1 (length p.0) q ≡ false) → all_owed G R T2 + all_owed G (below G L p.1 (length p.0) R) T0 + price G p.0 ≤ all_owed G R T0 + all_owed G (below G L p.1 (length p.0) R) T1 → all_owed G (q ∷ R) T2 + all_owed G (below G L p.1 (length p.0) (q ∷ R)) T0 + price G p.0 ≤ all_owed G (q ∷ R) T0 + all_owed G (below G L p.1 (length p.0) (q ∷ R)) T1
      go (inl e) ih =
          let b = owed_less T1 T2 q h in
          let x = below_yes q R p.1 (length p.0) T0 e in
          let y = below_yes q R p.1 (length p.0) T1 e in
          omega (arith, owed_cons q R T2, owed_cons q R T0)
      go (inr e) ih =
          let a = owed_less T0 T2 q (λ p k. h p (g p k)) in
          let x = below_not q R p.1 (length p.0) T0 e in
          let y = below_not q R p.1 (length p.0) T1 e in
          omega (arith, owed_cons q R T2, owed_cons q R T0)

  owed_below : (R : List (Pair G)) (j n : ℕ) (T : Table G) → all_owed G (below G L j n R) T ≤ all_owed G R T
  owed_below [] j n T = omega arith
  owed_below (q ∷ R) j n T = go (cases_Bool (before G L j n q)) (owed_below R j n T)
    where
      go : (before G L j n q ≡ true) ⊎ (before G L j n q ≡ false) → all_owed G (below G L j n R) T ≤ all_owed G R T → all_owed G (below G L j n (q ∷ R)) T ≤ all_owed G (q ∷ R) T
      go (inl e) ih = let x = below_yes q R j n T e in omega (arith, owed_cons q R T)
      go (inr e) ih = let x = below_not q R j n T e in omega (arith, owed_cons q R T)

  pub owed_below_at : (R : List (Pair G)) (p : Pair G) (T : Table G) → is_some (known G T p) ≡ false → In p R → price G p.0 + all_owed G (below G L p.1 (length p.0) R) T ≤ all_owed G R T
  owed_below_at [] p T none i = absurd i
  owed_below_at (q ∷ R) p T none (inl e) =
      let ih = owed_below R p.1 (length p.0) T in
      let a : owed G T q ≡ price G p.0 = ap (owed G T) e ∙ cond-false (is_some (known G T p)) 0 _ none in
      let it : before G L p.1 (length p.0) q ≡ false = ap (before G L p.1 (length p.0)) e ∙ not_before_itself G L p in
      let x = below_not q R p.1 (length p.0) T it in
      omega (arith, owed_cons q R T)
  owed_below_at (q ∷ R) p T none (inr i) = go (cases_Bool (before G L p.1 (length p.0) q)) (owed_below_at R p T none i)
    where
      go : (before G L p.1 (length p.0) q ≡ true) ⊎ (before G L p.1 (length p.0) q ≡ false) → price G p.0 + all_owed G (below G L p.1 (length p.0) R) T ≤ all_owed G R T → price G p.0 + all_owed G (below G L p.1 (length p.0) (q ∷ R)) T ≤ all_owed G (q ∷ R) T
      go (inl e) ih = let x = below_yes q R p.1 (length p.0) T e in omega (arith, owed_cons q R T)
      go (inr e) ih = let x = below_not q R p.1 (length p.0) T e in omega (arith, owed_cons q R T)
