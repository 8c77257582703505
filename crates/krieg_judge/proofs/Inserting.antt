-- What stands in a map once a value was put at a key.
use Rattle.std.proofs.Common.{◌≡◌, cond, List, [], ◌∷◌, ◌⊎◌, inl, inr, refl, sym, ap, ◌∙◌, Some}
use Rattle.std.specs.BTreeMap.{insert_entry}
use Rattle.std.specs.Map.{lookup}
use Rattle.std.specs.Ordering.{is_eq, match_ordering}
use Rattle.std.specs.declared.cmp.Ordering.{Ordering}
use Rattle.std.specs.declared.cmp.Ordering.TheVariants.{Less, Equal, Greater}
use Rattle.krieg_judge.proofs.Common.{In}

module _ {K V : Type 0} (cmp : K → K → Ordering) (exact : (a b : K) → cmp a b ≡ Equal → a ≡ b) (k : K) (v : V) where
  -- it is there
  pub put_there : (es : List (K × V)) → In (k, v) (insert_entry cmp es k v)
  put_there [] = inl refl
  put_there (e ∷ es) = go (cmp k e.0) refl (put_there es)
    where
      go : (o : Ordering) → cmp k e.0 ≡ o → In (k, v) (insert_entry cmp es k v) → In (k, v) (match_ordering o ((k, v) ∷ e ∷ es) ((e.0, v) ∷ es) (e ∷ insert_entry cmp es k v))
      go Less h r = inl refl
      go Equal h r = inl (ap (λ (x : K). (x, v)) (sym (exact k e.0 h)))
      go Greater h r = inr r

  -- and nothing else that was not
  pub put_from : (es : List (K × V)) (y : K × V) → In y (insert_entry cmp es k v) → ((k, v) ≡ y) ⊎ In y es
  put_from [] y (inl h) = inl h
  put_from [] y (inr i) = absurd i
  put_from (e ∷ es) y i = go (cmp k e.0) refl i (put_from es y)
    where
      go : (o : Ordering) → cmp k e.0 ≡ o → In y (match_ordering o ((k, v) ∷ e ∷ es) ((e.0, v) ∷ es) (e ∷ insert_entry cmp es k v)) → (In y (insert_entry cmp es k v) → ((k, v) ≡ y) ⊎ In y es) → ((k, v) ≡ y) ⊎ In y (e ∷ es)
      go Less h (inl j) r = inl j
      go Less h (inr j) r = inr j
      go Equal h (inl j) r = inl (ap (λ (x : K). (x, v)) (exact k e.0 h) ∙ j)
      go Equal h (inr j) r = inr (inr j)
      go Greater h (inl j) r = inr (inl j)
      go Greater h (inr j) r = later (r j)
        where
          later : ((k, v) ≡ y) ⊎ In y es → ((k, v) ≡ y) ⊎ In y (e ∷ es)
          later (inl a) = inl a
          later (inr a) = inr (inr a)

  -- what was there stays, but for the value that it takes the place of
  pub put_kept : (es : List (K × V)) (y : K × V) → In y es → In y (insert_entry cmp es k v) ⊎ ((y.0 ≡ k) × (lookup (λ q. is_eq (cmp k q)) es ≡ Some y.1))
  put_kept [] y i = absurd i
  put_kept (e ∷ es) y i = go (cmp k e.0) refl i (put_kept es y)
    where
      go : (o : Ordering) → cmp k e.0 ≡ o → (e ≡ y) ⊎ In y es → (In y es → In y (insert_entry cmp es k v) ⊎ ((y.0 ≡ k) × (lookup (λ q. is_eq (cmp k q)) es ≡ Some y.1))) →
          In y (match_ordering o ((k, v) ∷ e ∷ es) ((e.0, v) ∷ es) (e ∷ insert_entry cmp es k v)) ⊎ ((y.0 ≡ k) × (cond (is_eq (cmp k e.0)) (Some e.1) (lookup (λ q. is_eq (cmp k q)) es) ≡ Some y.1))
      go Less h j r = inl (inr j)
      go Equal h (inl j) r = inr (ap (λ (x : K × V). x.0) (sym j) ∙ sym (exact k e.0 h), ap (λ o. cond (is_eq o) (Some e.1) (lookup (λ q. is_eq (cmp k q)) es)) h ∙ ap (λ (x : K × V). Some x.1) j)
      go Equal h (inr j) r = inl (inr j)
      go Greater h (inl j) r = inl (inl j)
      go Greater h (inr j) r = later (r j)
        where
          later : In y (insert_entry cmp es k v) ⊎ ((y.0 ≡ k) × (lookup (λ q. is_eq (cmp k q)) es ≡ Some y.1)) →
              In y (e ∷ insert_entry cmp es k v) ⊎ ((y.0 ≡ k) × (cond (is_eq (cmp k e.0)) (Some e.1) (lookup (λ q. is_eq (cmp k q)) es) ≡ Some y.1))
          later (inl a) = inl (inr a)
          later (inr a) = inr (a.0, ap (λ o. cond (is_eq o) (Some e.1) (lookup (λ q. is_eq (cmp k q)) es)) h ∙ a.1)

  -- what a look-up found stands at the key
  pub looked_up : (es : List (K × V)) (w : V) → lookup (λ q. is_eq (cmp k q)) es ≡ Some w → In (k, w) es
  looked_up [] w h = absurd cc
  looked_up (e ∷ es) w h = go (cmp k e.0) refl h (looked_up es w)
    where
      go : (o : Ordering) → cmp k e.0 ≡ o → cond (is_eq (cmp k e.0)) (Some e.1) (lookup (λ q. is_eq (cmp k q)) es) ≡ Some w → (lookup (λ q. is_eq (cmp k q)) es ≡ Some w → In (k, w) es) → In (k, w) (e ∷ es)
      go Equal d g r =
          let s : Some e.1 ≡ Some w = sym (ap (λ o. cond (is_eq o) (Some e.1) (lookup (λ q. is_eq (cmp k q)) es)) d) ∙ g in
          let t : e.1 ≡ w = cc in
          let u = exact k e.0 d in
          inl (λ i. (sym u i, t i))
      go Less d g r = inr (r (sym (ap (λ o. cond (is_eq o) (Some e.1) (lookup (λ q. is_eq (cmp k q)) es)) d) ∙ g))
      go Greater d g r = inr (r (sym (ap (λ o. cond (is_eq o) (Some e.1) (lookup (λ q. is_eq (cmp k q)) es)) d) ∙ g))
