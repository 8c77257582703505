-- The first try, the canonical node and the recursion over sets: each is there where the others are.
use Rattle.std.proofs.Common.{◌≡◌, ℕ, zero, suc, Bool, true, false, ◌⊎◌, List, [], ◌∷◌, find, Option, Some, None, is_some, refl, sym, ap, inl, inr, ◌∙◌}
use Rattle.std.specs.List.{list_any}
use Rattle.std.proofs.lemmas.Bool.{cases_Bool, cond-true, cond-false, both_ways, false_from_ne_true, true_from_ne_false, or_left}
use Rattle.krieg_theory.proofs.Common.{Tree, Nothing, Just, Game, IsGame, refused, keys, class, can, begins, first_try, edges_of, node_of, canon}
use Rattle.krieg_theory.proofs.Built.{canon_wins}
use Rattle.krieg_theory.proofs.Unique.{can_more, part, canon_step}
use Rattle.krieg_theory.proofs.Theorems.{can_begins}

pub find_is_some : {X : Type 0} (f : X → Bool) (xs : List X) → is_some (find f xs) ≡ list_any f xs
find_is_some f [] = refl
find_is_some f (x ∷ xs) = go (cases_Bool (f x)) (find_is_some f xs)
  where
    go : (f x ≡ true) ⊎ (f x ≡ false) → is_some (find f xs) ≡ list_any f xs → is_some (find f (x ∷ xs)) ≡ list_any f (x ∷ xs)
    go (inl e) ih = ap is_some (cond-true (f x) (Some x) (find f xs) e) ∙ sym (or_left (f x) (list_any f xs) e)
    go (inr e) ih = ap is_some (cond-false (f x) (Some x) (find f xs) e) ∙ ih ∙ sym (ap (λ b. Rattle.std.specs.Prelude.◌||◌ b (list_any f xs)) e)

module _ (G : Game) (L : IsGame G) where
  -- there is a first try exactly where the set can be won
  pub first_can : (j : ℕ) (B : List G.Position) → is_some (first_try G j B) ≡ can G j B
  first_can j B = find_is_some (begins G j B) G.moves ∙ sym (can_begins G L B j)

  pub first_none : (j : ℕ) (B : List G.Position) → can G j B ≡ false → first_try G j B ≡ None
  first_none j B c = go (first_try G j B) refl
    where
      go : (o : Option G.Move) → first_try G j B ≡ o → first_try G j B ≡ None
      go None e = e
      go (Some t) e = absurd (both_ways _ c (sym (first_can j B) ∙ ap is_some e))

  -- there is a canonical node exactly where the set can be won
  pub canon_none : (j : ℕ) (B : List G.Position) → can G j B ≡ false → canon G j B ≡ Nothing
  canon_none zero B c = refl
  canon_none (suc j) B c =
      canon_step G L j B (false_from_ne_true _ (λ h. both_ways _ c (can_more G L j B h)))
      ∙ ap (λ o. node_of G o (λ t. part G L (suc j) (refused G B t)) (λ t. edges_of G (keys G B t) (λ key. canon G j (class G B t key)))) (first_none (suc j) B c)

  pub just_can : (j : ℕ) (B : List G.Position) (n : Tree G.Move G.Key) → canon G j B ≡ Just n → can G j B ≡ true
  just_can j B n e = true_from_ne_false _ (λ c. absurd (let k : Nothing ≡ Just n = sym (canon_none j B c) ∙ e in cc))

  pub nothing_can : (j : ℕ) (B : List G.Position) → canon G j B ≡ Nothing → can G j B ≡ false
  nothing_can j B e = false_from_ne_true _ (λ c. let w = canon_wins G L j B c in let k : Nothing ≡ Just w.0 = sym e ∙ w.1 in cc)
