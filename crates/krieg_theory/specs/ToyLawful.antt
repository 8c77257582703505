-- The small game meets the laws of a game.
use Rattle.std.proofs.Common.{◌≡◌, ℕ, zero, suc, nat_lt, true, List, [], ◌∷◌, inl, inr, refl, subst, arith}
use Rattle.std.specs.List.{list_all}
use Rattle.std.proofs.lemmas.Bool.{lt-ltb, ltb-true, ltb-false, le-ltb, and_parts}
use Rattle.krieg_theory.specs.Sets.{In, IsOrder}
use Rattle.krieg_theory.specs.Game.{IsGame}
use Rattle.krieg_theory.specs.Plans.{IsOutset}
use Rattle.krieg_theory.specs.Toy.{toy, toy_start}

-- numbers have an order
pub nat_order : IsOrder nat_lt
nat_order = record {
  never_itself = λ a. le-ltb a a (omega arith);
  trans = λ a b c h k. (let x = ltb-true a b h in let y = ltb-true b c k in lt-ltb a c (omega arith));
  total = λ a b h k. (let x = ltb-false a b h in let y = ltb-false b a k in omega arith);
}

-- a number below four is one of its tries
below_four : (t : ℕ) → nat_lt t 4 ≡ true → In t toy.moves
below_four zero h = inl refl
below_four (suc zero) h = inr (inl refl)
below_four (suc (suc zero)) h = inr (inr (inl refl))
below_four (suc (suc (suc zero))) h = inr (inr (inr (inl refl)))
below_four (suc (suc (suc (suc t)))) h = let x = ltb-true (suc (suc (suc (suc t)))) 4 h in absurd (omega arith)

-- a number that is below each of a list
below_all : (x : ℕ) (ys : List ℕ) → list_all (nat_lt x) ys ≡ true → (y : ℕ) → In y ys → nat_lt x y ≡ true
below_all x [] h y i = absurd i
below_all x (z ∷ ys) h y (inl e) = subst (λ w. nat_lt x w ≡ true) e (and_parts _ _ h).0
below_all x (z ∷ ys) h y (inr i) = below_all x ys (and_parts _ _ h).1 y i

-- it keeps the laws of a game
pub lawful : IsGame toy
lawful = record {
  listed = λ p t h. below_four t (and_parts _ _ h).0;
  in_order = (below_all 0 (1 ∷ 2 ∷ 3 ∷ []) refl, (below_all 1 (2 ∷ 3 ∷ []) refl, (below_all 2 (3 ∷ []) refl, (below_all 3 [] refl, tt))));
  position_order = nat_order;
  move_order = nat_order;
  key_order = nat_order;
}

-- and those of a start
pub start_lawful : IsOutset toy toy_start
start_lawful = record { root_order = nat_order }
