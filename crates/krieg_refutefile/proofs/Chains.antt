-- Items that ascend by a key, one after another, stand each before all that are behind it.
use Rattle.std.proofs.Common.{◌≡◌, ℕ, zero, suc, Bool, true, List, [], ◌∷◌, map, length, Option, Some, None, inl, inr, refl, subst}
use Rattle.std.specs.List.{All}
use Rattle.std.proofs.lemmas.List.Elements.{All-nil, All-cons, All-head, All-tail}
use Rattle.krieg_refutefile.proofs.Common.{In, Ascending, IsOrder, follows, EachFits}

-- each is greater than the last one, where there is one
abbrev pub After : {K : Type 0} → (K → K → Bool) → Option K → List K → Type 0
After lt None ys = Unit {0}
After {K = K} lt (Some x) ys = (y : K) → In y ys → lt x y ≡ true

module _ {A K : Type 0} (key : A → K) (lt : K → K → Bool) (P : A → Type 0) (Q : Option K → A → Type 0) where
  abbrev next : Option K → A → Option K
  next last x = Some (key x)

  first_follows : (last : Option K) (x : A) (ks : List K) → After lt last (key x ∷ ks) → follows lt last (key x) ≡ true
  first_follows None x ks after = refl
  first_follows (Some k) x ks after = after (key x) (inl refl)

  pub chain_to : ((last : Option K) (x : A) → P x → follows lt last (key x) ≡ true → Q last x) → (last : Option K) (xs : List A) → All P xs → Ascending lt (map key xs) → After lt last (map key xs) → EachFits (length xs) Q next last xs
  chain_to to last [] all up after = tt
  chain_to to last (x ∷ xs) all up after =
      (to last x (All-head P x xs all) (first_follows last x (map key xs) after), chain_to to (Some (key x)) xs (All-tail P x xs all) up.1 up.0)

  module _ (O : IsOrder lt) where
    -- those that are above x are above what x is above
    above : (last : Option K) (x : A) (ks : List K) → follows lt last (key x) ≡ true → After lt (Some (key x)) ks → After lt last (key x ∷ ks)
    above None x ks first rest = tt
    above (Some k) x ks first rest = go
      where
        go : (y : K) → In y (key x ∷ ks) → lt k y ≡ true
        go y (inl same) = subst (λ z. lt k z ≡ true) same first
        go y (inr at) = O.trans k (key x) y first (rest y at)

    pub record IsChain (last : Option K) (xs : List A) : Type 0 where
      pub all : All P xs
      pub up : Ascending lt (map key xs)
      pub after : After lt last (map key xs)

    pub chain_from : ((last : Option K) (x : A) → Q last x → P x × (follows lt last (key x) ≡ true)) → (n : ℕ) (last : Option K) (xs : List A) → EachFits n Q next last xs → IsChain last xs
    chain_from from zero last [] f = record { all = All-nil P; up = tt; after = none last }
      where
        none : (last : Option K) → After lt last []
        none None = tt
        none (Some k) = λ y at. absurd at
    chain_from from zero last (x ∷ xs) f = absurd f
    chain_from from (suc n) last [] f = absurd f
    chain_from from (suc n) last (x ∷ xs) f =
        let here = from last x f.0 in
        let rest = chain_from from n (Some (key x)) xs f.1 in
        record { all = All-cons P x xs here.0 rest.all; up = (rest.after, rest.up); after = above last x (map key xs) here.1 rest.after }
