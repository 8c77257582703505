-- What stands in a list, by either word for it.
use Rattle.std.proofs.Common.{◌≡◌, ℕ, zero, suc, ◌<◌, List, [], ◌∷◌, inl, inr, length, arith}
use Rattle.std.specs.Prelude.{slice_index_or}
use Rattle.std.specs.List.{Contains}
use Rattle.krieg_pack.proofs.Common.{In}

module _ {X : Type 0} where
  -- what is found at a place stands in the list
  pub in_at : (xs : List X) (k : ℕ) (x d : X) → k < length xs → slice_index_or xs k d ≡ x → In x xs
  in_at [] k x d h e = absurd (omega arith)
  in_at (y ∷ ys) zero x d h e = inl e
  in_at (y ∷ ys) (suc k) x d h e = inr (in_at ys k x d (omega arith) e)

  pub contains_in : (x : X) (xs : List X) → Contains xs x → In x xs
  contains_in x xs h = in_at xs h.0 x x h.1 h.2

  pub in_contains : (x : X) (xs : List X) → In x xs → Contains xs x
  in_contains x [] h = absurd h
  in_contains x (y ∷ ys) (inl e) = (0, omega arith, e)
  in_contains x (y ∷ ys) (inr i) = let r = in_contains x ys i in (suc r.0, omega (arith, r.1), r.2)
