-- A class by its key, and what a try that lives is.
use Rattle.std.proofs.Common.{◌≡◌, Bool, true, false, not, ◌||◌, ◌⊎◌, List, refl, sym, inl, inr}
use Rattle.std.proofs.lemmas.Bool.{both_ways, or_cases, or_left, or_right, and_parts, and_from, not_from_false, false_from_ne_true}
use Rattle.krieg_theory.specs.Sets.{In}
use Rattle.krieg_refutation.proofs.Common.{is_nil, Game, IsGame, stale_in_some, keys, mates_at, lives_in_some}
use Rattle.krieg_theory.proofs.Lists.{nil_or_member, any_at, any_from}
use Rattle.krieg_costs.proofs.Blocks.{lives_how, lives_by_key}
use Rattle.krieg_costs.proofs.Reached.{not_nil}

module _ (G : Game) (L : IsGame G) where
  -- in some member the try is legal and does not mate just where it stalemates in some, or something may be heard
  pub lives_is : (B : List G.Position) (t : G.Move) → lives_in_some G B t ≡ (stale_in_some G B t || not (is_nil (keys G B t)))
  lives_is B t = both (lives_in_some G B t) (stale_in_some G B t || not (is_nil (keys G B t))) there back
    where
      both : (a b : Bool) → (a ≡ true → b ≡ true) → (b ≡ true → a ≡ true) → a ≡ b
      both true b f g = sym (f refl)
      both false true f g = g refl
      both false false f g = refl

      there : lives_in_some G B t ≡ true → (stale_in_some G B t || not (is_nil (keys G B t))) ≡ true
      there h = go (lives_how G L B t h)
        where
          go : (stale_in_some G B t ≡ true) ⊎ ((key : G.Key) × In key (keys G B t)) → (stale_in_some G B t || not (is_nil (keys G B t))) ≡ true
          go (inl s) = or_left (stale_in_some G B t) _ s
          go (inr k) = or_right (stale_in_some G B t) _ (not_from_false _ (not_nil (keys G B t) k.0 k.1))

      back : (stale_in_some G B t || not (is_nil (keys G B t))) ≡ true → lives_in_some G B t ≡ true
      back h = go (or_cases (stale_in_some G B t) _ h)
        where
          stale : ((p : G.Position) × In p B × ((Rattle.std.specs.Prelude.◌&&◌ (G.legal p t) (G.stalemates p t)) ≡ true)) → lives_in_some G B t ≡ true
          stale s =
              let a = and_parts (G.legal s.0 t) (G.stalemates s.0 t) s.2 in
              any_from (λ p. Rattle.std.specs.Prelude.◌&&◌ (G.legal p t) (not (mates_at G p t))) B s.0 s.1
              (and_from _ _ a.0 (not_from_false _ (false_from_ne_true _ (λ m. both_ways _ (Rattle.std.proofs.lemmas.Bool.not-true _ (and_parts (not (G.stalemates s.0 t)) _ (and_parts (G.legal s.0 t) _ m).1).0) a.1))))

          heard : (is_nil (keys G B t) ≡ true) ⊎ ((key : G.Key) × In key (keys G B t)) → not (is_nil (keys G B t)) ≡ true → lives_in_some G B t ≡ true
          heard (inl e) n = absurd (both_ways _ (Rattle.std.proofs.lemmas.Bool.not-true _ n) e)
          heard (inr k) n = lives_by_key G L B t k.0 k.1

          go : (stale_in_some G B t ≡ true) ⊎ (not (is_nil (keys G B t)) ≡ true) → lives_in_some G B t ≡ true
          go (inl s) = stale (any_at (λ p. Rattle.std.specs.Prelude.◌&&◌ (G.legal p t) (G.stalemates p t)) B s)
          go (inr k) = heard (nil_or_member (keys G B t)) k
