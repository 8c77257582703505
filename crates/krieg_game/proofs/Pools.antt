-- Pools that hold the same outcomes.
use Rattle.std.proofs.Common.{◌≡◌, ℕ, ◌+◌, ◌<◌, List, [], ◌∷◌, ◌++◌, ◌⊎◌, inl, inr, map, take, get_or, length, refl, sym, ap, subst, ◌∙◌, append_assoc}
use Rattle.std.proofs.lemmas.List.{append-nil, map_more}
use Rattle.krieg_game.proofs.Common.{KeyedPosition, In, outcome_set, classes_in, Holds}
use Rattle.krieg_theory.proofs.Lists.{append_in, in_append_left, in_append_right}
use Rattle.krieg_game.proofs.OutcomeSets.{same_in, same_outcomes, sets_have_the_classes, sets_may_grow}

-- a pool that has grown by what comes of one more
pub holds_one : {X : Type 0} (f : X → KeyedPosition) (new old before : List KeyedPosition) (xs : List X) (i : ℕ) (x : X) (o : KeyedPosition) → i < length xs → x ≡ get_or xs i x → o ≡ f x → Holds new (old ++ o ∷ []) →
    Holds old (before ++ map f (take i xs)) → Holds new (before ++ map f (take (i + 1) xs))
holds_one f new old before xs i x o within is made grown so_far =
    let all = before ++ map f (take i xs) in
    let last : o ∷ [] ≡ f (get_or xs i x) ∷ [] = ap (λ y. y ∷ []) (made ∙ ap f is) in
    grown ∙ sym (sets_may_grow old (o ∷ [])) ∙ ap (λ os. outcome_set (os ++ o ∷ [])) so_far ∙ sets_may_grow all (o ∷ [])
    ∙ ap outcome_set (append_assoc before (map f (take i xs)) (o ∷ []) ∙ ap (λ os. before ++ (map f (take i xs) ++ os)) last ∙ ap (λ os. before ++ os) (sym (map_more f xs i x within)))

-- a pool that has grown keeps what it had, and has what came
pub grown_keeps : (new old : List KeyedPosition) (o x : KeyedPosition) → Holds new (old ++ o ∷ []) → In x old → In x new
grown_keeps new old o x h i = same_in new (old ++ o ∷ []) x h (in_append_left old (o ∷ []) x i)

pub grown_has : (new old : List KeyedPosition) (o : KeyedPosition) → Holds new (old ++ o ∷ []) → In o new
grown_has new old o h = same_in new (old ++ o ∷ []) o h (in_append_right old (o ∷ []) o (inl refl))

-- what is there already does not make it grow
pub has_again : (pool : List KeyedPosition) (o : KeyedPosition) → In o pool → Holds pool (pool ++ o ∷ [])
has_again pool o h = same_outcomes pool (pool ++ o ∷ []) (λ x i. in_append_left pool (o ∷ []) x i) (λ x i. go x (append_in pool (o ∷ []) x i))
  where
    go : (x : KeyedPosition) → In x pool ⊎ In x (o ∷ []) → In x pool
    go x (inl i) = i
    go x (inr (inl e)) = subst (λ y. In y pool) e h
    go x (inr (inr i)) = absurd i

-- a pool that has grown, with what is still to come
pub holds_grown : (new old more rest all : List KeyedPosition) → Holds new (old ++ more) → Holds (old ++ (more ++ rest)) all → Holds (new ++ rest) all
holds_grown new old more rest all grown all_is =
    sym (sets_may_grow new rest)
    ∙ ap (λ os. outcome_set (os ++ rest)) grown
    ∙ sets_may_grow (old ++ more) rest
    ∙ ap outcome_set (append_assoc old more rest)
    ∙ all_is

-- nothing is still to come
pub holds_all : (pool all : List KeyedPosition) → Holds (pool ++ []) all → Holds pool all
holds_all pool all is = ap outcome_set (sym (append-nil pool)) ∙ is

-- what has the same outcomes has the same classes
pub held_classes : (pool all : List KeyedPosition) → Holds pool all → classes_in pool ≡ classes_in all
held_classes pool all h = sym (sets_have_the_classes pool) ∙ ap classes_in h ∙ sets_have_the_classes all
