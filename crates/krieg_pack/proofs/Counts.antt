-- How many members sets have, and repeats that are dropped early.
use Rattle.std.proofs.Common.{◌≡◌, suc, ◌≤◌, Bool, true, false, cond, List, [], ◌∷◌, ◌++◌, ◌⊎◌, inl, inr, length, sym, subst, ◌∙◌, refl, arith}
use Rattle.std.proofs.lemmas.Bool.{both_ways}
use Rattle.krieg_pack.proofs.Common.{In, Ascending, IsOrder, as_set, insert_once}
use Rattle.krieg_theory.proofs.Lists.{in_append_left, in_append_right, append_in}
use Rattle.krieg_theory.proofs.Ascending.{same_set, as_set_ascending, in_as_set, as_set_in}

module _ {X : Type 0} (lt : X → X → Bool) where
  insert_le : (x : X) (xs : List X) → length (insert_once lt x xs) ≤ suc (length xs)
  insert_le x [] = omega arith
  insert_le x (y ∷ ys) = go (lt x y) (lt y x) (insert_le x ys)
    where
      go : (a b : Bool) → length (insert_once lt x ys) ≤ suc (length ys) → length (cond a (x ∷ y ∷ ys) (cond b (y ∷ insert_once lt x ys) (y ∷ ys))) ≤ suc (suc (length ys))
      go true b r = omega arith
      go false true r = omega arith
      go false false r = omega arith

  -- a set has no more members than the list
  pub as_set_le : (xs : List X) → length (as_set lt xs) ≤ length xs
  as_set_le [] = omega arith
  as_set_le (x ∷ xs) = let r = as_set_le xs in let s = insert_le x (as_set lt xs) in omega arith

  module _ (O : IsOrder lt) where
    -- a part of a set has no more members
    pub part_le : (xs ys : List X) → Ascending lt xs → Ascending lt ys → ((z : X) → In z xs → In z ys) → length xs ≤ length ys
    part_le [] ys a b f = omega arith
    part_le (x ∷ xs) [] a b f = absurd (f x (inl refl))
    part_le (x ∷ xs) (y ∷ ys) a b f = go (f x (inl refl)) (part_le xs ys a.1 b.1) (part_le (x ∷ xs) ys a b.1)
      where
        rest : y ≡ x → (z : X) → In z xs → In z ys
        rest e z i = put (f z (inr i))
          where
            put : (y ≡ z) ⊎ In z ys → In z ys
            put (inl s) = absurd (both_ways (lt x x) (O.never_itself x) (subst (λ w. lt x w ≡ true) (sym s ∙ e) (a.0 z i)))
            put (inr k) = k

        -- y is less than x, so it is no member of the part
        all : In x ys → (z : X) → In z (x ∷ xs) → In z ys
        all j z (inl e) = subst (λ w. In w ys) e j
        all j z (inr i) = put (f z (inr i))
          where
            put : (y ≡ z) ⊎ In z ys → In z ys
            put (inl s) = absurd (both_ways (lt x x) (O.never_itself x) (O.trans x y x (subst (λ w. lt x w ≡ true) (sym s) (a.0 z i)) (b.0 x j)))
            put (inr k) = k

        go : (y ≡ x) ⊎ In x ys → (((z : X) → In z xs → In z ys) → length xs ≤ length ys) → (((z : X) → In z (x ∷ xs) → In z ys) → suc (length xs) ≤ length ys) → suc (length xs) ≤ suc (length ys)
        go (inl e) r s = let t = r (rest e) in omega arith
        go (inr j) r s = let t = s (all j) in omega arith

    -- repeats may be dropped of a first part before the rest comes
    pub as_set_early : (xs ys : List X) → as_set lt (as_set lt xs ++ ys) ≡ as_set lt (xs ++ ys)
    as_set_early xs ys = same_set lt O _ _ (as_set_ascending lt O (as_set lt xs ++ ys)) (as_set_ascending lt O (xs ++ ys))
        (λ z i. in_as_set lt O z (xs ++ ys) (less z (append_in (as_set lt xs) ys z (as_set_in lt O z (as_set lt xs ++ ys) i))))
        (λ z i. in_as_set lt O z (as_set lt xs ++ ys) (more z (append_in xs ys z (as_set_in lt O z (xs ++ ys) i))))
      where
        less : (z : X) → In z (as_set lt xs) ⊎ In z ys → In z (xs ++ ys)
        less z (inl i) = in_append_left xs ys z (as_set_in lt O z xs i)
        less z (inr j) = in_append_right xs ys z j

        more : (z : X) → In z xs ⊎ In z ys → In z (as_set lt xs ++ ys)
        more z (inl i) = in_append_left (as_set lt xs) ys z (in_as_set lt O z xs i)
        more z (inr j) = in_append_right (as_set lt xs) ys z j
