-- Sets of outcomes: repeats may be dropped at any time, and lists with the same members have the same classes.
use Rattle.std.proofs.Common.{◌≡◌, List, [], ◌∷◌, inl, inr, map, ap, subst, sym, ◌∙◌, refl}
use Rattle.std.specs.Cmp.{IsTotalOrder}
use Rattle.std.specs.declared.cmp.Ordering.TheVariants.{Equal}
use Rattle.std.proofs.lemmas.Cmp.{on_total, then_total}
use Rattle.krieg_game.proofs.Common.{Pos, position_cmp, position_total, same_position, In, IsOrder, at_key, keys_in, Key, key_cmp, key_lt, KeyedPosition, outcome_cmp, outcome_lt, outcome_set, class_at, classes_in, SetsHaveTheClasses, SetsMayGrow}
use Rattle.krieg_pack.proofs.PositionSets.{same_sets}
use Rattle.krieg_pack.proofs.Sorting.{is_order}
use Rattle.krieg_pack.proofs.Counts.{as_set_early}
use Rattle.krieg_theory.proofs.Ascending.{same_set, as_set_ascending, in_as_set, as_set_in}
use Rattle.krieg_theory.proofs.Keys.{at_key_in, in_at_key, key_occurs, occurs_at}
use Rattle.krieg_game.proofs.KeyLaws.{both_equal, key_total, key_equal, key_order}

outcome_total : IsTotalOrder outcome_cmp
outcome_total = then_total (on_total (λ (o : KeyedPosition). o.0) key_total) (on_total (λ (o : KeyedPosition). o.1) position_total)

outcome_same : (o p : KeyedPosition) → outcome_cmp o p ≡ Equal → o ≡ p
outcome_same o p h =
    let both = both_equal (key_cmp o.0 p.0) (position_cmp o.1 p.1) h in
    let key = key_equal o.0 p.0 both.0 in
    let position = same_position o.1 p.1 both.1 in
    λ i. (key i, position i)

outcome_order : IsOrder outcome_lt
outcome_order = is_order outcome_cmp outcome_total outcome_same

-- lists with the same members have one set
pub same_outcomes : (os ps : List KeyedPosition) → ((o : KeyedPosition) → In o os → In o ps) → ((o : KeyedPosition) → In o ps → In o os) → outcome_set os ≡ outcome_set ps
unfolding outcome_set
same_outcomes os ps f g =
    same_set outcome_lt outcome_order (outcome_set os) (outcome_set ps) (as_set_ascending outcome_lt outcome_order os) (as_set_ascending outcome_lt outcome_order ps)
    (λ o i. in_as_set outcome_lt outcome_order o ps (f o (as_set_in outcome_lt outcome_order o os i)))
    (λ o i. in_as_set outcome_lt outcome_order o os (g o (as_set_in outcome_lt outcome_order o ps i)))

-- a list has what another with the same set has
pub same_in : (os ps : List KeyedPosition) (o : KeyedPosition) → outcome_set os ≡ outcome_set ps → In o ps → In o os
unfolding outcome_set
same_in os ps o e i = as_set_in outcome_lt outcome_order o os (subst (In o) (sym e) (in_as_set outcome_lt outcome_order o ps i))

-- two functions that agree in a list
pub map_agree : {X Y : Type 0} (f g : X → Y) (xs : List X) → ((x : X) → In x xs → f x ≡ g x) → map f xs ≡ map g xs
map_agree f g [] h = refl
map_agree f g (x ∷ xs) h = ap (λ y. y ∷ map f xs) (h x (inl refl)) ∙ ap (λ ys. g x ∷ ys) (map_agree f g xs (λ y i. h y (inr i)))

-- lists with the same members have the same classes
same_classes : (os ps : List KeyedPosition) → ((o : KeyedPosition) → In o os → In o ps) → ((o : KeyedPosition) → In o ps → In o os) → classes_in os ≡ classes_in ps
same_classes os ps f g = ap (map (class_at os)) keys ∙ map_agree (class_at os) (class_at ps) (keys_in key_lt ps) (λ k i. ap (λ xs. (k, xs)) (same_sets (at_key key_lt k os) (at_key key_lt k ps) (moved os ps f k) (moved ps os g k)))
  where
    occurs : (xs ys : List KeyedPosition) → ((o : KeyedPosition) → In o xs → In o ys) → (k : Key) → In k (keys_in key_lt xs) → In k (keys_in key_lt ys)
    occurs xs ys h k i = let o = occurs_at key_lt key_order xs k i in subst (λ z. In z (keys_in key_lt ys)) o.2 (key_occurs key_lt key_order ys o.0 (h o.0 o.1))

    moved : (xs ys : List KeyedPosition) → ((o : KeyedPosition) → In o xs → In o ys) → (k : Key) (p : Pos) → In p (at_key key_lt k xs) → In p (at_key key_lt k ys)
    moved xs ys h k p i = let o = at_key_in key_lt key_order k xs p i in subst (λ q. In q (at_key key_lt k ys)) o.3 (in_at_key key_lt key_order k ys o.0 (h o.0 o.1) o.2)

    keys : keys_in key_lt os ≡ keys_in key_lt ps
    keys = same_set key_lt key_order (keys_in key_lt os) (keys_in key_lt ps) (as_set_ascending key_lt key_order (map (λ (o : KeyedPosition). o.0) os)) (as_set_ascending key_lt key_order (map (λ (o : KeyedPosition). o.0) ps)) (occurs os ps f) (occurs ps os g)

pub sets_have_the_classes : SetsHaveTheClasses
unfolding outcome_set
sets_have_the_classes os = same_classes (outcome_set os) os (λ o i. as_set_in outcome_lt outcome_order o os i) (λ o i. in_as_set outcome_lt outcome_order o os i)

pub sets_may_grow : SetsMayGrow
unfolding outcome_set
sets_may_grow os ps = as_set_early outcome_lt outcome_order os ps
