-- The least number of a set, and its canonical node at that number.
use Rattle.std.proofs.Common.{◌≡◌, ℕ, zero, suc, ◌≤◌, ◌<◌, true, false, cond, ◌⊎◌, List, refl, sym, subst, inl, inr, ◌∙◌, arith, eq-or-lt_of_le}
use Rattle.std.proofs.lemmas.Bool.{cases_Bool, cases_lt, cond-true, cond-false, both_ways}
use Rattle.krieg_theory.proofs.Common.{Tree, Try, Game, IsGame, wins, WinsAll, can, least, IsLeast, IsCanon, canon}
use Rattle.krieg_theory.proofs.Lists.{any_at}
use Rattle.krieg_theory.proofs.Shown.{node_shows}
use Rattle.krieg_theory.proofs.Built.{wins_more, Won, canon_wins}
use Rattle.krieg_theory.proofs.Unique.{can_upto, member_of}

module _ (G : Game) where
  -- any number of further moves does no harm
  pub wins_upto : (j k : ℕ) (n : Tree G.Move G.Key) (p : G.Position) → j ≤ k → wins G n p j ≡ true → wins G n p k ≡ true
  wins_upto j zero n p h w = subst (λ i. wins G n p i ≡ true) (let e : j ≡ 0 = omega arith in e) w
  wins_upto j (suc k) n p h w = go (eq-or-lt_of_le h) (wins_upto j k n p)
    where
      go : (j ≡ suc k) ⊎ (j < suc k) → (j ≤ k → wins G n p j ≡ true → wins G n p k ≡ true) → wins G n p (suc k) ≡ true
      go (inl e) r = subst (λ i. wins G n p i ≡ true) e w
      go (inr e) r = wins_more G n p k (r (omega arith) w)

  pub least_here : (j : ℕ) (B : List G.Position) → can G j B ≡ false → least G (suc j) B ≡ suc j
  least_here j B d = cond-false (can G j B) _ _ d

  pub least_before : (j : ℕ) (B : List G.Position) → can G j B ≡ true → least G (suc j) B ≡ least G j B
  least_before j B d = cond-true (can G j B) _ _ d

  pub least_le : (j : ℕ) (B : List G.Position) → least G j B ≤ j
  least_le zero B = omega arith
  least_le (suc j) B = let ih = least_le j B in elim (can G j B) as (λ b. cond b (least G j B) (suc j) ≤ suc j) [ true ↦ omega arith | false ↦ omega arith ]

module _ (G : Game) (L : IsGame G) where
  -- the set can be won within its least number
  pub can_least : (j : ℕ) (B : List G.Position) → can G j B ≡ true → can G (least G j B) B ≡ true
  can_least zero B c = c
  can_least (suc j) B c = go (cases_Bool (can G j B)) (can_least j B)
    where
      go : (can G j B ≡ true) ⊎ (can G j B ≡ false) → (can G j B ≡ true → can G (least G j B) B ≡ true) → can G (least G (suc j) B) B ≡ true
      go (inl e) r = subst (λ i. can G i B ≡ true) (sym (least_before G j B e)) (r e)
      go (inr e) r = subst (λ i. can G i B ≡ true) (sym (least_here G j B e)) c

  -- and within no smaller one
  pub least_least : (j i : ℕ) (B : List G.Position) → can G i B ≡ true → least G j B ≤ i
  least_least zero i B c = omega arith
  least_least (suc j) i B c = go (cases_Bool (can G j B)) (least_least j i B c) (cases_lt j i)
    where
      go : (can G j B ≡ true) ⊎ (can G j B ≡ false) → least G j B ≤ i → (j < i) ⊎ (i ≤ j) → least G (suc j) B ≤ i
      go (inl e) r s = let q = least_before G j B e in omega arith
      go (inr e) r (inl s) = let q = least_here G j B e in omega arith
      go (inr e) r (inr s) = absurd (both_ways _ e (can_upto G L i j B s c))

  -- the canonical node wins within the least number
  pub canon_wins_least : (j : ℕ) (B : List G.Position) → can G j B ≡ true → Won G L (canon G j B) B (least G j B)
  canon_wins_least zero B c = absurd (both_ways false refl c)
  canon_wins_least (suc j) B c = go (cases_Bool (can G j B)) (canon_wins_least j B)
    where
      go : (can G j B ≡ true) ⊎ (can G j B ≡ false) → (can G j B ≡ true → Won G L (canon G j B) B (least G j B)) → Won G L (canon G (suc j) B) B (least G (suc j) B)
      go (inl e) r = let a = r e in (a.0, cond-true (can G j B) _ _ e ∙ a.1, subst (WinsAll G a.0 B) (sym (least_before G j B e)) a.2)
      go (inr e) r = let a = canon_wins G L (suc j) B c in (a.0, a.1, subst (WinsAll G a.0 B) (sym (least_here G j B e)) a.2)

  pub least_is : (j : ℕ) (B : List G.Position) → can G j B ≡ true → IsLeast G B (least G j B)
  least_is j B c =
      let w = canon_wins_least j B c in
      record { some = (w.0, w.2); least = λ n i v. least_least j i B (node_shows G L n B i (member_of G L j B c) v) }

  -- a set that has a canonical node can be won
  pub canon_can : (n : Tree G.Move G.Key) (B : List G.Position) → IsCanon G n B → (j : ℕ) × (can G j B ≡ true)
  canon_can (Try t other es) B c =
      let m = any_at (λ p. G.legal p t) B c.least.3.legal in
      (c.least.0, node_shows G L (Try t other es) B c.least.0 (m.0, m.1) c.least.2)
