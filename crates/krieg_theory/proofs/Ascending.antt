-- Sets as strictly ascending lists.
use Rattle.std.proofs.Common.{◌≡◌, Bool, true, false, not, List, [], ◌∷◌, ◌⊎◌, inl, inr, refl, sym, subst, ◌∙◌}
use Rattle.std.proofs.lemmas.Bool.{cases_Bool, cond-true, cond-false, both_ways, and_parts, and_from, not-true, not_from_false, false_from_ne_true}
use Rattle.std.specs.Ordering.{is_lt}
use Rattle.std.specs.declared.cmp.Ordering.{Ordering}
use Rattle.std.specs.declared.cmp.Ordering.TheVariants.{Less, Equal, Greater}
use Rattle.krieg_theory.proofs.Common.{In, Ascending, IsOrder, same, insert_once, as_set}

-- what the test of a comparison tells
pub less_from : (o : Ordering) → is_lt o ≡ true → o ≡ Less
less_from Less h = refl
less_from Equal h = cc
less_from Greater h = cc

module _ {X : Type 0} (lt : X → X → Bool) (O : IsOrder lt) where
  pub in_insert_here : (x : X) (xs : List X) → In x (insert_once lt x xs)
  in_insert_here x [] = inl refl
  in_insert_here x (y ∷ ys) = go (cases_Bool (lt x y)) (cases_Bool (lt y x)) (in_insert_here x ys)
    where
      go : (lt x y ≡ true) ⊎ (lt x y ≡ false) → (lt y x ≡ true) ⊎ (lt y x ≡ false) → In x (insert_once lt x ys) → In x (insert_once lt x (y ∷ ys))
      go (inl a) b r = subst (In x) (sym (cond-true (lt x y) _ _ a)) (inl refl)
      go (inr a) (inl b) r = subst (In x) (sym (cond-false (lt x y) _ _ a ∙ cond-true (lt y x) _ _ b)) (inr r)
      go (inr a) (inr b) r = subst (In x) (sym (cond-false (lt x y) _ _ a ∙ cond-false (lt y x) _ _ b)) (inl (sym (O.total x y a b)))

  pub in_insert : (x z : X) (xs : List X) → In z xs → In z (insert_once lt x xs)
  in_insert x z [] i = absurd i
  in_insert x z (y ∷ ys) i = go (cases_Bool (lt x y)) (cases_Bool (lt y x)) i (in_insert x z ys)
    where
      go : (lt x y ≡ true) ⊎ (lt x y ≡ false) → (lt y x ≡ true) ⊎ (lt y x ≡ false) → (y ≡ z) ⊎ In z ys → (In z ys → In z (insert_once lt x ys)) → In z (insert_once lt x (y ∷ ys))
      go (inl a) b s r = subst (In z) (sym (cond-true (lt x y) _ _ a)) (inr s)
      go (inr a) (inl b) (inl e) r = subst (In z) (sym (cond-false (lt x y) _ _ a ∙ cond-true (lt y x) _ _ b)) (inl e)
      go (inr a) (inl b) (inr s) r = subst (In z) (sym (cond-false (lt x y) _ _ a ∙ cond-true (lt y x) _ _ b)) (inr (r s))
      go (inr a) (inr b) s r = subst (In z) (sym (cond-false (lt x y) _ _ a ∙ cond-false (lt y x) _ _ b)) s

  pub insert_in : (x z : X) (xs : List X) → In z (insert_once lt x xs) → (x ≡ z) ⊎ In z xs
  insert_in x z [] i = i
  insert_in x z (y ∷ ys) i = go (cases_Bool (lt x y)) (cases_Bool (lt y x)) i (insert_in x z ys)
    where
      later : (x ≡ z) ⊎ In z ys → (x ≡ z) ⊎ In z (y ∷ ys)
      later (inl e) = inl e
      later (inr s) = inr (inr s)

      put : In z (y ∷ insert_once lt x ys) → (In z (insert_once lt x ys) → (x ≡ z) ⊎ In z ys) → (x ≡ z) ⊎ In z (y ∷ ys)
      put (inl e) r = inr (inl e)
      put (inr s) r = later (r s)

      go : (lt x y ≡ true) ⊎ (lt x y ≡ false) → (lt y x ≡ true) ⊎ (lt y x ≡ false) → In z (insert_once lt x (y ∷ ys)) → (In z (insert_once lt x ys) → (x ≡ z) ⊎ In z ys) → (x ≡ z) ⊎ In z (y ∷ ys)
      go (inl a) b s r = subst (In z) (cond-true (lt x y) _ _ a) s
      go (inr a) (inl b) s r = put (subst (In z) (cond-false (lt x y) _ _ a ∙ cond-true (lt y x) _ _ b) s) r
      go (inr a) (inr b) s r = inr (subst (In z) (cond-false (lt x y) _ _ a ∙ cond-false (lt y x) _ _ b) s)

  pub insert_ascending : (x : X) (xs : List X) → Ascending lt xs → Ascending lt (insert_once lt x xs)
  insert_ascending x [] a = (λ y i. absurd i, tt)
  insert_ascending x (y ∷ ys) a = go (cases_Bool (lt x y)) (cases_Bool (lt y x)) (insert_ascending x ys a.1)
    where
      first : lt x y ≡ true → (z : X) → In z (y ∷ ys) → lt x z ≡ true
      first e z (inl s) = subst (λ w. lt x w ≡ true) s e
      first e z (inr s) = O.trans x y z e (a.0 z s)

      after : lt y x ≡ true → (z : X) → (x ≡ z) ⊎ In z ys → lt y z ≡ true
      after e z (inl s) = subst (λ w. lt y w ≡ true) s e
      after e z (inr s) = a.0 z s

      go : (lt x y ≡ true) ⊎ (lt x y ≡ false) → (lt y x ≡ true) ⊎ (lt y x ≡ false) → Ascending lt (insert_once lt x ys) → Ascending lt (insert_once lt x (y ∷ ys))
      go (inl e) b r = subst (Ascending lt) (sym (cond-true (lt x y) _ _ e)) (first e, a)
      go (inr e) (inl b) r = subst (Ascending lt) (sym (cond-false (lt x y) _ _ e ∙ cond-true (lt y x) _ _ b)) (λ z i. after b z (insert_in x z ys i), r)
      go (inr e) (inr b) r = subst (Ascending lt) (sym (cond-false (lt x y) _ _ e ∙ cond-false (lt y x) _ _ b)) a

  pub as_set_ascending : (xs : List X) → Ascending lt (as_set lt xs)
  as_set_ascending [] = tt
  as_set_ascending (x ∷ xs) = insert_ascending x (as_set lt xs) (as_set_ascending xs)

  pub in_as_set : (z : X) (xs : List X) → In z xs → In z (as_set lt xs)
  in_as_set z [] i = i
  in_as_set z (x ∷ xs) (inl e) = subst (λ w. In w (insert_once lt x (as_set lt xs))) e (in_insert_here x (as_set lt xs))
  in_as_set z (x ∷ xs) (inr i) = in_insert x z (as_set lt xs) (in_as_set z xs i)

  pub as_set_in : (z : X) (xs : List X) → In z (as_set lt xs) → In z xs
  as_set_in z [] i = i
  as_set_in z (x ∷ xs) i = go (insert_in x z (as_set lt xs) i) (as_set_in z xs)
    where
      go : (x ≡ z) ⊎ In z (as_set lt xs) → (In z (as_set lt xs) → In z xs) → In z (x ∷ xs)
      go (inl e) r = inl e
      go (inr s) r = inr (r s)

  -- one set has one list
  pub same_set : (xs ys : List X) → Ascending lt xs → Ascending lt ys → ((z : X) → In z xs → In z ys) → ((z : X) → In z ys → In z xs) → xs ≡ ys
  same_set [] [] a b f g = refl
  same_set [] (y ∷ ys) a b f g = absurd (g y (inl refl))
  same_set (x ∷ xs) [] a b f g = absurd (f x (inl refl))
  same_set (x ∷ xs) (y ∷ ys) a b f g = whole (heads (f x (inl refl)) (g y (inl refl))) (same_set xs ys a.1 b.1)
    where
      heads : (y ≡ x) ⊎ In x ys → (x ≡ y) ⊎ In y xs → x ≡ y
      heads (inl e) s = sym e
      heads (inr i) (inl e) = e
      heads (inr i) (inr k) = absurd (both_ways (lt x x) (O.never_itself x) (O.trans x y x (a.0 y k) (b.0 x i)))

      inner : x ≡ y → (z : X) → In z xs → (y ≡ z) ⊎ In z ys → In z ys
      inner e z i (inl s) = absurd (both_ways (lt x x) (O.never_itself x) (subst (λ w. lt x w ≡ true) (sym s ∙ sym e) (a.0 z i)))
      inner e z i (inr s) = s

      outer : x ≡ y → (z : X) → In z ys → (x ≡ z) ⊎ In z xs → In z xs
      outer e z i (inl s) = absurd (both_ways (lt y y) (O.never_itself y) (subst (λ w. lt y w ≡ true) (sym s ∙ e) (b.0 z i)))
      outer e z i (inr s) = s

      whole : x ≡ y → (((z : X) → In z xs → In z ys) → ((z : X) → In z ys → In z xs) → xs ≡ ys) → x ∷ xs ≡ y ∷ ys
      whole e r = λ i. e i ∷ r (λ z s. inner e z s (f z (inr s))) (λ z s. outer e z s (g z (inr s))) i

  -- the test that neither stands before the other tells just the equal ones
  pub same_eq : (a b : X) → same lt a b ≡ true → a ≡ b
  same_eq a b h = let c = and_parts (not (lt a b)) (not (lt b a)) h in O.total a b (not-true _ c.0) (not-true _ c.1)

  pub same_refl : (a : X) → same lt a a ≡ true
  same_refl a = and_from _ _ (not_from_false _ (O.never_itself a)) (not_from_false _ (O.never_itself a))

  pub asym : (a b : X) → lt a b ≡ true → lt b a ≡ false
  asym a b h = false_from_ne_true _ (λ k. both_ways (lt a a) (O.never_itself a) (O.trans a b a h k))

  -- and so does any other test of equality
  pub same_is : (a b : X) (e : Bool) → (e ≡ true → a ≡ b) → (a ≡ b → e ≡ true) → same lt a b ≡ e
  same_is a b true f g = subst (λ x. same lt a x ≡ true) (f refl) (same_refl a)
  same_is a b false f g = false_from_ne_true _ (λ h. both_ways false refl (g (same_eq a b h)))
