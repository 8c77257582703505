-- A list with an element between two parts of it.
use Rattle.std.proofs.Common.{◌≡◌, ℕ, suc, ◌<◌, List, [], ◌∷◌, ◌++◌, ◌⊎◌, inl, inr, length, get_or, take, drop, refl, sym, ap, ◌∙◌}
use Rattle.std.specs.Prelude.{slice_set}
use Rattle.std.proofs.lemmas.List.{set-get_or, set_split}
use Rattle.krieg_game.proofs.Common.{In}

module _ {X : Type 0} where
  -- the element at a place is between what is before it and what is behind it
  pub split_with : (xs : List X) (i : ℕ) (x : X) → i < length xs → x ≡ get_or xs i x → xs ≡ take i xs ++ x ∷ drop (suc i) xs
  split_with xs i x within is = sym (set-get_or xs i x) ∙ ap (slice_set xs i) (sym is) ∙ set_split xs i x within

  pub in_others : (front back : List X) (x y : X) → In x (front ++ back) → In x (front ++ y ∷ back)
  in_others [] back x y i = inr i
  in_others (z ∷ front) back x y (inl e) = inl e
  in_others (z ∷ front) back x y (inr i) = inr (in_others front back x y i)

  pub in_between : (front back : List X) (y : X) → In y (front ++ y ∷ back)
  in_between [] back y = inl refl
  in_between (z ∷ front) back y = inr (in_between front back y)

  pub between_in : (front back : List X) (x y : X) → In x (front ++ y ∷ back) → (y ≡ x) ⊎ In x (front ++ back)
  between_in [] back x y i = i
  between_in (z ∷ front) back x y (inl e) = inr (inl e)
  between_in (z ∷ front) back x y (inr i) = later (between_in front back x y i)
    where
      later : (y ≡ x) ⊎ In x (front ++ back) → (y ≡ x) ⊎ In x (z ∷ front ++ back)
      later (inl e) = inl e
      later (inr j) = inr (inr j)
