-- What may be heard before the first own turn: at the player's turn, and one opening after another.
use Rattle.std.proofs.Common.{◌≡◌, ℕ, suc, ◌||◌, ◌+◌, ◌<◌, true, false, not, cond, List, [], ◌∷◌, ◌++◌, length, map, Some, Result, Ok, Err, refl, sym, ap, subst, inl, inr, ◌⊎◌, ◌∙◌, arith}
use Rattle.std.specs.List.{list_any, slice_get}
use Rattle.std.specs.Result.{IsErrAnd}
use Rattle.std.proofs.lemmas.List.{append-nil, map-append, append_assoc}
use Rattle.krieg_search.proofs.Common.{is_same_side, Pos, Side, Dialect, In, is_nil, is_over, first_made, RootKey, chess, outset, starts, waits, IsOwnTurn, IsOthersTurn, IsPaid, Charges, PartStop, SetRows, IsMore, Opening, AreCounted, IsNumbered, AddsSets, opening_in, AreNumbered, IsAdded, AreAdded}
use Rattle.krieg_theory.proofs.Lists.{append_in}
use Rattle.krieg_game.proofs.Starting.{own_start}
use Rattle.krieg_parting.specs.declared.stop.PartStop.TheVariants.{Spent, NoMemory}
use Rattle.krieg_search.proofs.Searching.{more_itself, more_then}

-- what stands first in a set is a member
pub first_in : (B : List Pos) (q : Pos) → slice_get B 0 ≡ Some q → In q B
first_in [] q e = absurd (cc)
first_in (p ∷ B) q e = inl (cc)

-- the side that is to move in one member is so in all
pub turn_of : (who : Side) (B : List Pos) (q : Pos) → IsOwnTurn who B ⊎ IsOthersTurn who B → In q B → (p : Pos) → In p B → is_same_side p.side who ≡ is_same_side q.side who
turn_of who B q (inl h) i p k = h p k ∙ sym (h q i)
turn_of who B q (inr h) i p k = h p k ∙ sym (h q i)

module _ (d : Dialect) (who : Side) where
  own_not_over : (p : Pos) → is_same_side p.side who ≡ true → is_over (chess d) (outset d who) p ≡ false
  own_not_over p h = ap is_nil (own_start d who p h)

  own_waits : (p : Pos) → is_same_side p.side who ≡ true → waits who p ≡ false
  unfolding waits
  own_waits p h = ap not h

  -- at the player's turn nothing is over
  pub none_over : (S : List Pos) → IsOwnTurn who S → list_any (is_over (chess d) (outset d who)) S ≡ false
  none_over [] h = refl
  none_over (p ∷ S) h =
      ap (λ b. b || (list_any (is_over (chess d) (outset d who)) S)) (own_not_over p (h p (inl refl)))
      ∙ none_over S (λ q i. h q (inr i))

  -- and no first move is made
  pub none_made : (S : List Pos) → IsOwnTurn who S → first_made (chess d) (outset d who) S ≡ 0
  none_made [] h = refl
  none_made (p ∷ S) h =
      let one : cond (waits who p) (suc (length (starts d who p))) 0 ≡ 0 = ap (λ b. cond b (suc (length (starts d who p))) 0) (own_waits p (h p (inl refl))) in
      let ih : first_made (chess d) (outset d who) S ≡ 0 = none_made S (λ q i. h q (inr i)) in
      let both : cond (waits who p) (suc (length (starts d who p))) 0 + first_made (chess d) (outset d who) S ≡ 0 = omega arith in
      both

-- a split was stopped whose cost is known otherwise
pub stopped_first : (A : Type 0) {B : Type 0} (P : PartStop → Type 0) (r : Result B PartStop) (stop : PartStop) (wanted : B → Type 0) (cost all old new : ℕ)
    → ((x : PartStop) → P x → stop ≡ x) → IsErrAnd r P → cost ≡ all → IsPaid {A = A} (Err stop) cost old new → Charges r wanted all old new
stopped_first A P (Ok x) stop wanted cost all old new same fails e k = absurd fails
stopped_first A {B = B} P (Err x) stop wanted cost all old new same fails e k =
    go x (subst (λ (y : PartStop). IsPaid {A = A} (Err y) cost old new) (same x fails) k)
  where
    go : (y : PartStop) → IsPaid {A = A} (Err y) cost old new → Charges {A = B} (Err y) wanted all old new
    go Spent v = ((let h = v.0 in omega arith), (let e = v.1 in omega arith))
    go NoMemory v = omega arith

-- openings have the same sets in a table with more
pub same_openings : (T T' : SetRows) (os : List Opening) → IsMore T T' → AreNumbered T os → map (opening_in T') os ≡ map (opening_in T) os
same_openings T T' [] m n = refl
same_openings T T' (o ∷ os) m n =
    let a = m.same o.set (n o (inl refl)) in
    let ih = same_openings T T' os m (λ p i. n p (inr i)) in
    λ i. ((o.opens, o.heard), a i) ∷ ih i

pub numbered_more : (T T' : SetRows) (os : List Opening) → IsMore T T' → AreNumbered T os → AreNumbered T' os
numbered_more T T' os m n o i = let a = n o i in let b = m.longer in omega arith

-- an opening is added whose set has got its number
pub added : (T T' : SetRows) (os : List Opening) (o : Opening) (B : List Pos) → AreNumbered T os → IsNumbered T T' B o.set → IsAdded T T' os (os ++ o ∷ []) ((o.opens, o.heard), B)
added T T' os o B n i = record {
  sets = record { counted = i.counted; more = i.interned.more; noted = i.interned.noted };
  numbered = λ p m. go p (append_in os (o ∷ []) p m);
  one_more =
      map-append (opening_in T') os (o ∷ [])
      ∙ ap (λ xs. xs ++ opening_in T' o ∷ []) (same_openings T T' os i.interned.more n)
      ∙ ap (λ (X : List Pos). map (opening_in T) os ++ ((o.opens, o.heard), X) ∷ []) i.interned.at;
}
  where
    go : (p : Opening) → In p os ⊎ In p (o ∷ []) → p.set < length T'
    go p (inl m) = numbered_more T T' os i.interned.more n p m
    go p (inr (inl e)) = subst (λ (q : Opening). q.set < length T') e i.interned.within
    go p (inr (inr m)) = absurd m

-- the openings so far, with those that are left, are all
pub record IsOpening (T0 T : SetRows) (os : List Opening) (rest all : List (RootKey × List Pos)) : Type 0 where
  pub sets : AddsSets T0 T
  pub numbered : AreNumbered T os
  pub joined : map (opening_in T) os ++ rest ≡ all

-- the openings come of a list
module _ {X : Type 0} (f : X → RootKey × List Pos) where
  -- none has come
  pub no_opening : (T : SetRows) (os : List Opening) (rest xs : List X) → AreCounted T → os ≡ [] → rest ≡ xs → IsOpening T T os (map f rest) (map f xs)
  no_opening T os rest xs c e r =
      subst (λ (os : List Opening). IsOpening T T os (map f rest) (map f xs)) (sym e)
      (subst (λ (ys : List X). IsOpening T T [] (map f ys) (map f xs)) (sym r) record { sets = record { counted = c; more = more_itself T; noted = refl }; numbered = λ o i. absurd i; joined = refl })

  -- the next is added
  pub one_opening : (T0 T1 T2 : SetRows) (os os' : List Opening) (x : X) (ahead rest xs : List X) → ahead ≡ x ∷ rest → IsOpening T0 T1 os (map f ahead) (map f xs) → IsAdded T1 T2 os os' (f x) → IsOpening T0 T2 os' (map f rest) (map f xs)
  one_opening T0 T1 T2 os os' x ahead rest xs e a b = record {
    sets = record { counted = b.sets.counted; more = more_then T0 T1 T2 a.sets.more b.sets.more; noted = b.sets.noted ∙ a.sets.noted };
    numbered = b.numbered;
    joined =
        ap (λ ys. ys ++ map f rest) b.one_more ∙ append_assoc (map (opening_in T1) os) (f x ∷ []) (map f rest)
        ∙ ap (λ (ys : List X). map (opening_in T1) os ++ map f ys) (sym e) ∙ a.joined;
  }

  -- none is ahead
  pub all_openings : (T0 T : SetRows) (os : List Opening) (ahead xs : List X) → ahead ≡ [] → IsOpening T0 T os (map f ahead) (map f xs) → AreAdded T0 T os (map f xs)
  all_openings T0 T os ahead xs e a = record {
    sets = a.sets;
    numbered = a.numbered;
    are = sym (append-nil (map (opening_in T) os)) ∙ ap (λ (ys : List X). map (opening_in T) os ++ map f ys) (sym e) ∙ a.joined;
  }
