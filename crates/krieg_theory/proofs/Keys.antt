-- What stands in a list under a key, and the keys that occur.
use Rattle.std.proofs.Common.{◌≡◌, Bool, true, false, cond, List, [], ◌∷◌, map, refl, sym, ap, subst, inl, inr, ◌∙◌}
use Rattle.krieg_theory.proofs.Common.{In, IsOrder, same, at_key, keys_in}
use Rattle.krieg_theory.proofs.Lists.{in_map, map_in}
use Rattle.krieg_theory.proofs.Ascending.{in_as_set, as_set_in, same_eq, same_refl}

module _ {K X : Type 0} (lt : K → K → Bool) (O : IsOrder lt) where
  pub at_key_in : (key : K) (os : List (K × X)) (q : X) → In q (at_key lt key os) → (o : K × X) × In o os × (o.0 ≡ key) × (o.1 ≡ q)
  at_key_in key [] q i = absurd i
  at_key_in key (o ∷ os) q i = go (same lt o.0 key) refl i (at_key_in key os q)
    where
      go : (b : Bool) → same lt o.0 key ≡ b → In q (cond b (o.1 ∷ at_key lt key os) (at_key lt key os)) → (In q (at_key lt key os) → (o : K × X) × In o os × (o.0 ≡ key) × (o.1 ≡ q)) → (o' : K × X) × In o' (o ∷ os) × (o'.0 ≡ key) × (o'.1 ≡ q)
      go true e (inl s) r = (o, inl refl, same_eq lt O o.0 key e, s)
      go true e (inr s) r = ((r s).0, inr (r s).1, (r s).2, (r s).3)
      go false e s r = ((r s).0, inr (r s).1, (r s).2, (r s).3)

  pub in_at_key : (key : K) (os : List (K × X)) (o : K × X) → In o os → o.0 ≡ key → In o.1 (at_key lt key os)
  in_at_key key [] o i h = absurd i
  in_at_key key (x ∷ os) o (inl e) h =
      let P : Bool → Type 0 = λ b. In o.1 (cond b (x.1 ∷ at_key lt key os) (at_key lt key os)) in
      let s : same lt x.0 key ≡ true = subst (λ k. same lt x.0 k ≡ true) (ap (λ z. z.0) e ∙ h) (same_refl lt O x.0) in
      subst P (sym s) (inl (ap (λ z. z.1) e))
  in_at_key key (x ∷ os) o (inr i) h =
      let r = in_at_key key os o i h in
      elim (same lt x.0 key) as (λ b. In o.1 (cond b (x.1 ∷ at_key lt key os) (at_key lt key os))) [ true ↦ inr r | false ↦ r ]

  pub key_occurs : (os : List (K × X)) (o : K × X) → In o os → In o.0 (keys_in lt os)
  key_occurs os o i = in_as_set lt O o.0 (map (λ x. x.0) os) (in_map (λ x. x.0) os o i)

  pub occurs_at : (os : List (K × X)) (key : K) → In key (keys_in lt os) → (o : K × X) × In o os × (o.0 ≡ key)
  occurs_at os key i = map_in (λ x. x.0) os key (as_set_in lt O key (map (λ x. x.0) os) i)
