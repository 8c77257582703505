-- The classes of outcomes are those of the theory, at a try, at the opponent's first moves and at the openings.
use Rattle.std.proofs.Common.{◌≡◌, Bool, true, false, not, ◌&&◌, cond, List, [], ◌∷◌, ◌++◌, map, refl, sym, ap, ◌∙◌, inl, inr}
use Rattle.std.specs.Prelude.{Some, None}
use Rattle.std.specs.Ordering.{is_lt, ordering_then}
use Rattle.std.specs.declared.cmp.Ordering.{Ordering}
use Rattle.std.specs.declared.cmp.Ordering.TheVariants.{Less, Equal, Greater}
use Rattle.std.proofs.lemmas.Simd.{map-map}
use Rattle.std.proofs.lemmas.List.{map-append}
use Rattle.krieg_game.proofs.Common.{is_same_side, Pos, Side, moves, Said, words_cmp, opening, told, Dialect, set_of, In, same, insert_once, at_key, keys_in, all_starts, Key, RootKey, key_lt, root_lt, chess, outcome, outset, starts, classes_in, first_outcomes, first_heard, OutcomesAreClassed, FirstMovesAreClassed, OpeningsAreClassed}
use Rattle.krieg_words.proofs.OrderLaws.{words_cmp_self}
use Rattle.krieg_game.proofs.Starting.{own_start, first_moves}

pub outcomes_are_classed : (d : Dialect) → OutcomesAreClassed d
unfolding set_of
outcomes_are_classed d B t = refl

-- a key with the set of its positions
abbrev set_at : {K : Type 0} → (K → K → Bool) → List (K × Pos) → K → K × List Pos
set_at lt os key = (key, set_of (at_key lt key os))

-- each key that occurs with its set
abbrev sets_in : {K : Type 0} → (K → K → Bool) → List (K × Pos) → List (K × List Pos)
sets_in lt os = map (set_at lt os) (keys_in lt os)

abbrev renamed : {J K X : Type 0} → (J → K) → J × X → K × X
renamed f o = (f o.0, o.1)

-- under other names in the same order the same keys occur, with the same sets
module _ {J K : Type 0} (jlt : J → J → Bool) (klt : K → K → Bool) (f : J → K) (order : (a b : J) → klt (f a) (f b) ≡ jlt a b) where
  at_renamed : (j : J) (os : List (J × Pos)) → at_key klt (f j) (map (renamed f) os) ≡ at_key jlt j os
  at_renamed j [] = refl
  at_renamed j (o ∷ os) =
      let one = order o.0 j in let other = order j o.0 in let rest = at_renamed j os in
      λ i. cond (not (one i) && not (other i)) (o.1 ∷ rest i) (rest i)

  insert_renamed : (j : J) (js : List J) → insert_once klt (f j) (map f js) ≡ map f (insert_once jlt j js)
  insert_renamed j [] = refl
  insert_renamed j (x ∷ xs) =
      (let one = order j x in let other = order x j in λ i. cond (one i) (f j ∷ f x ∷ map f xs) (cond (other i) (f x ∷ insert_once klt (f j) (map f xs)) (f x ∷ map f xs)))
      ∙ go (jlt j x) (jlt x j) (insert_renamed j xs)
    where
      go : (a b : Bool) → insert_once klt (f j) (map f xs) ≡ map f (insert_once jlt j xs) →
          cond a (f j ∷ f x ∷ map f xs) (cond b (f x ∷ insert_once klt (f j) (map f xs)) (f x ∷ map f xs))
          ≡ map f (cond a (j ∷ x ∷ xs) (cond b (x ∷ insert_once jlt j xs) (x ∷ xs)))
      go true b h = refl
      go false true h = ap (λ ks. f x ∷ ks) h
      go false false h = refl

  keys_renamed : (os : List (J × Pos)) → keys_in klt (map (renamed f) os) ≡ map f (keys_in jlt os)
  keys_renamed [] = refl
  keys_renamed (o ∷ os) = ap (insert_once klt (f o.0)) (keys_renamed os) ∙ insert_renamed o.0 (keys_in jlt os)

  each_renamed : (os : List (J × Pos)) (js : List J) → map (set_at klt (map (renamed f) os)) (map f js) ≡ map (renamed f) (map (set_at jlt os) js)
  each_renamed os [] = refl
  each_renamed os (j ∷ js) = let set = ap set_of (at_renamed j os) in let rest = each_renamed os js in λ i. (f j, set i) ∷ rest i

  sets_renamed : (os : List (J × Pos)) → sets_in klt (map (renamed f) os) ≡ map (renamed f) (sets_in jlt os)
  sets_renamed os = ap (map (set_at klt (map (renamed f) os))) (keys_renamed os) ∙ each_renamed os (keys_in jlt os)

-- both words as a root's key
abbrev lift : Key → RootKey
lift k = (k.0, Some k.1)

lift_order : (a b : Key) → root_lt (lift a) (lift b) ≡ key_lt a b
lift_order a b = refl

module _ (d : Dialect) (who : Side) where
  first_starts : (S : List Pos) → ((p : Pos) → In p S → is_same_side p.side who ≡ false) → map (renamed lift) (first_outcomes d S) ≡ all_starts (chess d) (outset d who) S
  first_starts [] h = refl
  first_starts (p ∷ S) h =
      map-append (renamed lift) (map (outcome d (opening p) p) (moves p)) (first_outcomes d S)
      ∙ ap (λ os. os ++ map (renamed lift) (first_outcomes d S)) (map-map (renamed lift) (outcome d (opening p) p) (moves p) ∙ sym (first_moves d who p (h p (inl refl))))
      ∙ ap (λ os. starts d who p ++ os) (first_starts S (λ q i. h q (inr i)))

  pub first_moves_are_classed : FirstMovesAreClassed d who
  unfolding set_of
  first_moves_are_classed S h = sym (sets_renamed key_lt root_lt lift lift_order (first_outcomes d S)) ∙ ap (sets_in root_lt) (first_starts S h)

-- words alone as either kind of key
abbrev words_lt : Said → Said → Bool
words_lt a b = is_lt (words_cmp a b)

abbrev with_same : Said → Said → Key
with_same same w = (w, same)

abbrev alone : Said → RootKey
alone w = (w, None)

then_equal : (o r : Ordering) → r ≡ Equal → is_lt (ordering_then o r) ≡ is_lt o
then_equal Less r e = refl
then_equal Equal r e = ap is_lt e
then_equal Greater r e = refl

same_order : (same a b : Said) → key_lt (with_same same a) (with_same same b) ≡ words_lt a b
same_order same a b = then_equal (words_cmp a b) (words_cmp same same) (words_cmp_self same)

alone_order : (a b : Said) → root_lt (alone a) (alone b) ≡ words_lt a b
alone_order a b = then_equal (words_cmp a b) Equal refl

module _ (d : Dialect) (who : Side) where
  abbrev with_opening : Pos → Said × Pos
  with_opening p = (told d (opening p), p)

  own_starts : (S : List Pos) → ((p : Pos) → In p S → is_same_side p.side who ≡ true) → map (renamed alone) (map with_opening S) ≡ all_starts (chess d) (outset d who) S
  own_starts [] h = refl
  own_starts (p ∷ S) h =
      ap (λ os. os ++ map (renamed alone) (map with_opening S)) (sym (own_start d who p (h p (inl refl))))
      ∙ ap (λ os. starts d who p ++ os) (own_starts S (λ q i. h q (inr i)))

  pub openings_are_classed : OpeningsAreClassed d who
  unfolding set_of
  openings_are_classed S same h =
      ap (λ os. map first_heard (classes_in os)) (sym (map-map (renamed (with_same same)) with_opening S))
      ∙ ap (map first_heard) (sets_renamed words_lt key_lt (with_same same) (same_order same) (map with_opening S))
      ∙ map-map first_heard (renamed (with_same same)) (sets_in words_lt (map with_opening S))
      ∙ sym (sets_renamed words_lt root_lt alone alone_order (map with_opening S))
      ∙ ap (sets_in root_lt) (own_starts S h)
