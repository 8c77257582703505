-- The first game for each position: games that are added one after another.
use Rattle.std.proofs.Common.{◌≡◌, Bool, true, false, not, cond, List, [], ◌∷◌, ◌++◌, ◌⊎◌, inl, inr, refl, sym, ap, subst, ◌∙◌}
use Rattle.std.proofs.lemmas.Bool.{cases_Bool, cond-true, cond-false, both_ways}
use Rattle.std.proofs.lemmas.List.{append-nil, append_assoc}
use Rattle.krieg_belief.proofs.Common.{Pos, position_eq, Tale, firsts, elsewhere, equal_position, stands_in, added, add_all}
use Rattle.krieg_belief.proofs.Facts.{place_same}

eq_turned : (p q : Pos) (b : Bool) → position_eq p q ≡ b → position_eq q p ≡ b
eq_turned p q true h = place_same q p (sym (equal_position p q h))
eq_turned p q false h = go (cases_Bool (position_eq q p))
  where
    go : (position_eq q p ≡ true) ⊎ (position_eq q p ≡ false) → position_eq q p ≡ false
    go (inl e) = absurd (both_ways (position_eq p q) h (place_same p q (sym (equal_position q p e))))
    go (inr e) = e

-- games elsewhere, where one stands, or none
stands_elsewhere : (p q : Pos) (xs : List Tale) → position_eq p q ≡ false → stands_in q (elsewhere p xs) ≡ stands_in q xs
stands_elsewhere p q [] h = refl
stands_elsewhere p q (x ∷ xs) h = go (cases_Bool (position_eq x.stands p)) (stands_elsewhere p q xs h)
  where
    not_q : position_eq x.stands p ≡ true → position_eq q x.stands ≡ false
    not_q e = subst (λ (y : Pos). position_eq q y ≡ false) (sym (equal_position x.stands p e)) (eq_turned p q false h)

    go : (position_eq x.stands p ≡ true) ⊎ (position_eq x.stands p ≡ false) → stands_in q (elsewhere p xs) ≡ stands_in q xs → stands_in q (elsewhere p (x ∷ xs)) ≡ stands_in q (x ∷ xs)
    go (inl e) k = ap (λ (b : Bool). stands_in q (cond (not b) (x ∷ elsewhere p xs) (elsewhere p xs))) e ∙ (k ∙ sym (cond-false (position_eq q x.stands) true (stands_in q xs) (not_q e)))
    go (inr e) k = ap (λ (b : Bool). stands_in q (cond (not b) (x ∷ elsewhere p xs) (elsewhere p xs))) e ∙ ap (λ (b : Bool). cond (position_eq q x.stands) true b) k

elsewhere_append : (p : Pos) (xs ys : List Tale) → elsewhere p (xs ++ ys) ≡ elsewhere p xs ++ elsewhere p ys
elsewhere_append p [] ys = refl
elsewhere_append p (x ∷ xs) ys = go (position_eq x.stands p) (elsewhere_append p xs ys)
  where
    go : (b : Bool) → elsewhere p (xs ++ ys) ≡ elsewhere p xs ++ elsewhere p ys → cond (not b) (x ∷ elsewhere p (xs ++ ys)) (elsewhere p (xs ++ ys)) ≡ cond (not b) (x ∷ elsewhere p xs) (elsewhere p xs) ++ elsewhere p ys
    go true h = h
    go false h = ap (λ (t : List Tale). x ∷ t) h

one_elsewhere : (p : Pos) (y : Tale) (b : Bool) → position_eq y.stands p ≡ b → elsewhere p (y ∷ []) ≡ cond (not b) (y ∷ []) []
one_elsewhere p y b h = ap (λ (c : Bool). cond (not c) (y ∷ []) []) h

added_elsewhere : (x y : Tale) (xs : List Tale) → x ∷ elsewhere x.stands (added xs y) ≡ added (x ∷ elsewhere x.stands xs) y
added_elsewhere x y xs = go (cases_Bool (position_eq y.stands x.stands))
  where
    -- y stands where x does
    here : position_eq y.stands x.stands ≡ true → (b : Bool) → elsewhere x.stands (cond b xs (xs ++ y ∷ [])) ≡ elsewhere x.stands xs
    here e true = refl
    here e false = elsewhere_append x.stands xs (y ∷ []) ∙ (ap (λ (t : List Tale). elsewhere x.stands xs ++ t) (one_elsewhere x.stands y true e) ∙ append-nil (elsewhere x.stands xs))

    there : position_eq y.stands x.stands ≡ false → (b : Bool) → x ∷ elsewhere x.stands (cond b xs (xs ++ y ∷ [])) ≡ cond b (x ∷ elsewhere x.stands xs) ((x ∷ elsewhere x.stands xs) ++ y ∷ [])
    there e true = refl
    there e false = ap (λ (t : List Tale). x ∷ t) (elsewhere_append x.stands xs (y ∷ []) ∙ ap (λ (t : List Tale). elsewhere x.stands xs ++ t) (one_elsewhere x.stands y false e))

    go : (position_eq y.stands x.stands ≡ true) ⊎ (position_eq y.stands x.stands ≡ false) → x ∷ elsewhere x.stands (added xs y) ≡ added (x ∷ elsewhere x.stands xs) y
    go (inl e) =
        ap (λ (t : List Tale). x ∷ t) (here e (stands_in y.stands xs))
        ∙ sym (cond-true (stands_in y.stands (x ∷ elsewhere x.stands xs)) (x ∷ elsewhere x.stands xs) ((x ∷ elsewhere x.stands xs) ++ y ∷ []) (cond-true (position_eq y.stands x.stands) true (stands_in y.stands (elsewhere x.stands xs)) e))
    go (inr e) =
        there e (stands_in y.stands xs)
        ∙ ap (λ (b : Bool). cond b (x ∷ elsewhere x.stands xs) ((x ∷ elsewhere x.stands xs) ++ y ∷ []))
        (sym (cond-false (position_eq y.stands x.stands) true (stands_in y.stands (elsewhere x.stands xs)) e ∙ stands_elsewhere x.stands y.stands xs (eq_turned y.stands x.stands false e)))

firsts_more : (xs : List Tale) (y : Tale) → firsts (xs ++ y ∷ []) ≡ added (firsts xs) y
firsts_more [] y = refl
firsts_more (x ∷ xs) y = ap (λ (t : List Tale). x ∷ elsewhere x.stands t) (firsts_more xs y) ∙ added_elsewhere x y (firsts xs)

firsts_then : (xs ys : List Tale) → firsts (xs ++ ys) ≡ add_all (firsts xs) ys
firsts_then xs [] = ap firsts (append-nil xs)
firsts_then xs (y ∷ ys) = ap firsts (sym (append_assoc xs (y ∷ []) ys)) ∙ (firsts_then (xs ++ y ∷ []) ys ∙ ap (λ (t : List Tale). add_all t ys) (firsts_more xs y))

-- the first game for each position: what is added from none
pub firsts_all : (ys : List Tale) → firsts ys ≡ add_all [] ys
firsts_all ys = firsts_then [] ys
