-- What a list covers that covers more.
use Rattle.std.proofs.Common.{◌≡◌, ℕ, suc, ◌≤◌, ◌<◌, true, false, List, subst, arith}
use Rattle.krieg_accounts.proofs.Common.{In, is_nil, Game, refused, legal_in_some, keys, class, Pair, CoversSet, CoversPair, CoversTry, CoversTries, CoversSets, classes}
use Rattle.krieg_theory.proofs.Lists.{map_in}

module _ (G : Game) where
  -- of all tries one
  pub covers_try : (B : List G.Position) (j : ℕ) (t : G.Move) → legal_in_some G B t ≡ true → (R : List (Pair G)) → CoversTries G B j R → CoversTry G B j t R
  covers_try B j t l R h = (h.0, h.1 t l)

  -- of a try its classes with one move less
  pub covers_classes : (B : List G.Position) (i : ℕ) (t : G.Move) (R : List (Pair G)) → CoversTry G B (suc i) t R → CoversSets G (classes G B t) i R
  covers_classes B i t R h = (h.0, λ C m k a b. there C k a b (map_in (λ key. class G B t key) (keys G B t) C m))
    where
      there : (C : List G.Position) (k : ℕ) → 0 < k → k ≤ i → (key : G.Key) × In key (keys G B t) × (class G B t key ≡ C) → In (C, k) R
      there C k a b s = subst (λ (X : List G.Position). In (X, k) R) s.2 (h.1.classes s.0 s.1 k a (omega arith))

  -- and its refused part with as many
  pub covers_refused : (B : List G.Position) (j : ℕ) (t : G.Move) → is_nil (refused G B t) ≡ false → (R : List (Pair G)) → CoversTry G B j t R → CoversSet G (refused G B t) j R
  covers_refused B j t n R h = (h.0, λ k a b. h.1.refused_part n k a b)

  -- of some sets one
  pub covers_set : (Cs : List (List G.Position)) (C : List G.Position) (j : ℕ) → In C Cs → (R : List (Pair G)) → CoversSets G Cs j R → CoversSet G C j R
  covers_set Cs C j i R h = (h.0, h.1 C i)

  -- of a set with each number one number
  pub covers_pair : (B : List G.Position) (i j : ℕ) → 0 < i → i ≤ j → (R : List (Pair G)) → CoversSet G B j R → CoversPair G B i R
  covers_pair B i j a b R h = (h.0, h.1 i a b)
