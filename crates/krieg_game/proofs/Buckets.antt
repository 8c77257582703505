-- Outcomes in buckets: what the buckets hold as a position comes, where a key's bucket stands, and the classes.
use Rattle.std.proofs.Common.{◌≡◌, ℕ, zero, suc, ◌+◌, ◌<◌, true, false, List, [], ◌∷◌, ◌++◌, ◌⊎◌, inl, inr, length, map, take, drop, get_or, refl, sym, ap, subst, ◌∙◌, arith}
use Rattle.std.specs.Prelude.{Result, Ok, Err, slice_index_or, slice_set}
use Rattle.std.specs.List.{insert}
use Rattle.std.specs.Ordering.{is_lt, ordering_index, ordering_reverse}
use Rattle.std.specs.declared.cmp.Ordering.TheVariants.{Less, Greater}
use Rattle.std.specs.List.Sorted.{IsNonDecreasingBy, IsBinarySearchResult, IsSearchInRange, IsPartitionPoint}
use Rattle.std.proofs.lemmas.Bool.{both_ways}
use Rattle.std.proofs.lemmas.List.{map-append, get_or-take, get_or-drop, length-take, length-drop, set_split, take-append-drop}
use Rattle.std.proofs.lemmas.List.Sorted.{searchable_from_sorted}
use Rattle.std.proofs.lemmas.Simd.{map-map}
use Rattle.krieg_game.proofs.Common.{Pos, In, Ascending, at_key, keys_in, set_of, Key, key_cmp, key_lt, KeyedPosition, class_at, classes_in, outcomes_of, outcomes_in, bucket_class, AreBuckets, Gains, IsAsBefore, IsTrimmed, IsPlace, Holds, Bucket}
use Rattle.krieg_theory.proofs.Lists.{in_append_left, in_append_right, append_in, in_flat, flat_in, in_map, map_in}
use Rattle.krieg_theory.proofs.Ascending.{same_set, as_set_ascending, asym}
use Rattle.krieg_theory.proofs.Keys.{at_key_in, in_at_key, key_occurs, occurs_at}
use Rattle.krieg_pack.proofs.Membership.{in_contains}
use Rattle.krieg_pack.proofs.PositionSets.{in_set, set_in, same_sets}
use Rattle.krieg_game.proofs.KeyLaws.{key_total, key_equal, key_order}
use Rattle.krieg_game.proofs.OutcomeSets.{same_outcomes, map_agree}
use Rattle.krieg_game.proofs.Between.{split_with, in_others, in_between, between_in}

abbrev pub heard_in : Bucket → Key
heard_in b = b.heard

-- what a bucket holds has its key, and its position stands there
bucket_holds : (o : KeyedPosition) (b : Bucket) → In o (outcomes_of b) → (b.heard ≡ o.0) × In o.1 b.positions.items
bucket_holds o b i = let m = map_in (λ p. (b.heard, p)) b.positions.items o i in (ap (λ (o : KeyedPosition). o.0) m.2, subst (λ p. In p b.positions.items) (ap (λ (o : KeyedPosition). o.1) m.2) m.1)

held_by_bucket : (o : KeyedPosition) (b : Bucket) → b.heard ≡ o.0 → In o.1 b.positions.items → In o (outcomes_of b)
held_by_bucket o b e i = subst (λ k. In (k, o.1) (outcomes_of b)) e (in_map (λ p. (b.heard, p)) b.positions.items o.1 i)

-- what stands in some bucket
held : (bs : List Bucket) (o : KeyedPosition) (b : Bucket) → In b bs → b.heard ≡ o.0 → In o.1 b.positions.items → In o (outcomes_in bs)
held bs o b i e j = in_flat outcomes_of bs b o i (held_by_bucket o b e j)

-- and the other way round
held_at : (bs : List Bucket) (o : KeyedPosition) → In o (outcomes_in bs) → (b : Bucket) × In b bs × (b.heard ≡ o.0) × In o.1 b.positions.items
held_at bs o i = let f = flat_in outcomes_of bs o i in let h = bucket_holds o f.0 f.2 in (f.0, f.1, h.0, h.1)

-- a bucket between others, which has one position more than was, and what was there of its key and of others
module _ (front back : List Bucket) (new : Bucket) (p : Pos) (was : List Pos) (grown : set_of new.positions.items ≡ set_of (was ++ p ∷ [])) where
  has_more : (q : Pos) → In q new.positions.items → In q was ⊎ (p ≡ q)
  has_more q i = last (append_in was (p ∷ []) q (set_in q (was ++ p ∷ []) (subst (λ qs. In q qs) grown (in_set q new.positions.items i))))
    where
      last : In q was ⊎ In q (p ∷ []) → In q was ⊎ (p ≡ q)
      last (inl j) = inl j
      last (inr (inl e)) = inr e
      last (inr (inr j)) = absurd j

  more_has : (q : Pos) → In q (was ++ p ∷ []) → In q new.positions.items
  more_has q i = set_in q new.positions.items (subst (λ qs. In q qs) (sym grown) (in_set q (was ++ p ∷ []) i))

  has_new : (q : Pos) × In q new.positions.items
  has_new = (p, more_has p (in_append_right was (p ∷ []) p (inl refl)))

  held_more : (key : Key) (before : List KeyedPosition) → new.heard ≡ key →
      ((o : KeyedPosition) → In o before → (key ≡ o.0) × In o.1 was ⊎ In o (outcomes_in (front ++ back))) →
      ((q : Pos) → In q was → In (key, q) before) → ((o : KeyedPosition) → In o (outcomes_in (front ++ back)) → In o before) →
      Holds (outcomes_in (front ++ new ∷ back)) (before ++ (key, p) ∷ [])
  held_more key before alike parts own others = same_outcomes (outcomes_in (front ++ new ∷ back)) (before ++ (key, p) ∷ []) to from
    where
      to : (o : KeyedPosition) → In o (outcomes_in (front ++ new ∷ back)) → In o (before ++ (key, p) ∷ [])
      to o i = go (held_at (front ++ new ∷ back) o i)
        where
          own_one : (key ≡ o.0) → In o.1 was ⊎ (p ≡ o.1) → In o (before ++ (key, p) ∷ [])
          own_one e (inl j) = in_append_left before ((key, p) ∷ []) o (subst (λ k. In (k, o.1) before) e (own o.1 j))
          own_one e (inr f) = in_append_right before ((key, p) ∷ []) o (inl (λ i. (e i, f i)))

          go : (b : Bucket) × In b (front ++ new ∷ back) × (b.heard ≡ o.0) × In o.1 b.positions.items → In o (before ++ (key, p) ∷ [])
          go (b, j, e, k) = which (between_in front back b new j)
            where
              which : (new ≡ b) ⊎ In b (front ++ back) → In o (before ++ (key, p) ∷ [])
              which (inl s) = own_one (sym alike ∙ ap heard_in s ∙ e) (has_more o.1 (subst (λ (c : Bucket). In o.1 c.positions.items) (sym s) k))
              which (inr m) = in_append_left before ((key, p) ∷ []) o (others o (held (front ++ back) o b m e k))

      from : (o : KeyedPosition) → In o (before ++ (key, p) ∷ []) → In o (outcomes_in (front ++ new ∷ back))
      from o i = go (append_in before ((key, p) ∷ []) o i)
        where
          here : (key ≡ o.0) → In o.1 (was ++ p ∷ []) → In o (outcomes_in (front ++ new ∷ back))
          here e j = held (front ++ new ∷ back) o new (in_between front back new) (alike ∙ e) (more_has o.1 j)

          which : (key ≡ o.0) × In o.1 was ⊎ In o (outcomes_in (front ++ back)) → In o (outcomes_in (front ++ new ∷ back))
          which (inl (e, j)) = here e (in_append_left was (p ∷ []) o.1 j)
          which (inr m) = let h = held_at (front ++ back) o m in held (front ++ new ∷ back) o h.0 (in_others front back h.0 new h.1) h.2 h.3

          go : In o before ⊎ In o ((key, p) ∷ []) → In o (outcomes_in (front ++ new ∷ back))
          go (inl j) = which (parts o j)
          go (inr (inl e)) = here (ap (λ (o : KeyedPosition). o.0) e) (in_append_right was (p ∷ []) o.1 (inl (ap (λ (o : KeyedPosition). o.1) e)))
          go (inr (inr j)) = absurd j

-- a bucket gains a position
held_gain : (front back : List Bucket) (old new : Bucket) (key : Key) (p : Pos) → old.heard ≡ key → Gains old new p → Holds (outcomes_in (front ++ new ∷ back)) (outcomes_in (front ++ old ∷ back) ++ (key, p) ∷ [])
held_gain front back old new key p is g =
    held_more front back new p old.positions.items g.positions_part key (outcomes_in (front ++ old ∷ back)) (g.heard_part ∙ is) parts
    (λ q i. held (front ++ old ∷ back) (key, q) old (in_between front back old) is i)
    (λ o i. let h = held_at (front ++ back) o i in held (front ++ old ∷ back) o h.0 (in_others front back h.0 old h.1) h.2 h.3)
  where
    parts : (o : KeyedPosition) → In o (outcomes_in (front ++ old ∷ back)) → (key ≡ o.0) × In o.1 old.positions.items ⊎ In o (outcomes_in (front ++ back))
    parts o i = go (held_at (front ++ old ∷ back) o i)
      where
        go : (b : Bucket) × In b (front ++ old ∷ back) × (b.heard ≡ o.0) × In o.1 b.positions.items → (key ≡ o.0) × In o.1 old.positions.items ⊎ In o (outcomes_in (front ++ back))
        go (b, j, e, k) = which (between_in front back b old j)
          where
            which : (old ≡ b) ⊎ In b (front ++ back) → (key ≡ o.0) × In o.1 old.positions.items ⊎ In o (outcomes_in (front ++ back))
            which (inl s) = inl (sym is ∙ ap heard_in s ∙ e, subst (λ (c : Bucket). In o.1 c.positions.items) (sym s) k)
            which (inr m) = inr (held (front ++ back) o b m e k)

-- a bucket of one position comes between the others
held_new : (front back : List Bucket) (new : Bucket) (key : Key) (p : Pos) → new.heard ≡ key → new.positions.items ≡ p ∷ [] → Holds (outcomes_in (front ++ new ∷ back)) (outcomes_in (front ++ back) ++ (key, p) ∷ [])
held_new front back new key p is one = held_more front back new p [] (ap set_of one) key (outcomes_in (front ++ back)) is (λ o i. inr i) (λ q i. absurd i) (λ o i. i)

-- a bucket of the same key takes the place of another
are_changed : (front back : List Bucket) (old new : Bucket) → new.heard ≡ old.heard → (p : Pos) × In p new.positions.items → AreBuckets (front ++ old ∷ back) → AreBuckets (front ++ new ∷ back)
are_changed front back old new alike some are = record {
  ascending = subst (Ascending key_lt) (map-append heard_in front (old ∷ back) ∙ ap (λ k. map heard_in front ++ k ∷ map heard_in back) (sym alike) ∙ sym (map-append heard_in front (new ∷ back))) are.ascending;
  filled = λ b i. which b (between_in front back b new i);
}
  where
    which : (b : Bucket) → (new ≡ b) ⊎ In b (front ++ back) → (p : Pos) × In p b.positions.items
    which b (inl e) = (some.0, subst (λ (c : Bucket). In some.0 c.positions.items) e some.1)
    which b (inr i) = are.filled b (in_others front back b old i)

-- what the other bucket has too is held as well
moved : (front back : List Bucket) (old new : Bucket) → new.heard ≡ old.heard → ((p : Pos) → In p old.positions.items → In p new.positions.items) → (o : KeyedPosition) → In o (outcomes_in (front ++ old ∷ back)) → In o (outcomes_in (front ++ new ∷ back))
moved front back old new alike has o i = go (held_at (front ++ old ∷ back) o i)
  where
    go : (b : Bucket) × In b (front ++ old ∷ back) × (b.heard ≡ o.0) × In o.1 b.positions.items → In o (outcomes_in (front ++ new ∷ back))
    go (b, j, e, k) = which (between_in front back b old j)
      where
        which : (old ≡ b) ⊎ In b (front ++ back) → In o (outcomes_in (front ++ new ∷ back))
        which (inl s) = held (front ++ new ∷ back) o new (in_between front back new) (alike ∙ ap heard_in s ∙ e) (has o.1 (subst (λ (c : Bucket). In o.1 c.positions.items) (sym s) k))
        which (inr m) = held (front ++ new ∷ back) o b (in_others front back b new m) e k

ascend_between : (front back : List Bucket) (new : Bucket) → Ascending key_lt (map heard_in (front ++ back)) → ((b : Bucket) → In b front → key_lt b.heard new.heard ≡ true) → ((b : Bucket) → In b back → key_lt new.heard b.heard ≡ true) →
    Ascending key_lt (map heard_in (front ++ new ∷ back))
ascend_between [] back new up before behind = (λ k i. let m = map_in heard_in back k i in subst (λ z. key_lt new.heard z ≡ true) m.2 (behind m.0 m.1), up)
ascend_between (b ∷ front) back new up before behind = (first, ascend_between front back new up.1 (λ c i. before c (inr i)) behind)
  where
    first : (k : Key) → In k (map heard_in (front ++ new ∷ back)) → key_lt b.heard k ≡ true
    first k i = let m = map_in heard_in (front ++ new ∷ back) k i in subst (λ z. key_lt b.heard z ≡ true) m.2 (which m.0 (between_in front back m.0 new m.1))
      where
        which : (c : Bucket) → (new ≡ c) ⊎ In c (front ++ back) → key_lt b.heard c.heard ≡ true
        which c (inl e) = subst (λ (c : Bucket). key_lt b.heard c.heard ≡ true) e (before b (inl refl))
        which c (inr j) = up.0 c.heard (in_map heard_in (front ++ back) c j)

-- a bucket comes between those of lesser and of greater keys
are_more : (front back : List Bucket) (new : Bucket) (key : Key) → new.heard ≡ key → (p : Pos) × In p new.positions.items → AreBuckets (front ++ back) →
    ((b : Bucket) → In b front → key_lt b.heard key ≡ true) → ((b : Bucket) → In b back → key_lt key b.heard ≡ true) → AreBuckets (front ++ new ∷ back)
are_more front back new key is some are before behind = record {
  ascending = ascend_between front back new are.ascending (λ b i. subst (λ k. key_lt b.heard k ≡ true) (sym is) (before b i)) (λ b i. subst (λ k. key_lt k b.heard ≡ true) (sym is) (behind b i));
  filled = λ b i. which b (between_in front back b new i);
}
  where
    which : (b : Bucket) → (new ≡ b) ⊎ In b (front ++ back) → (p : Pos) × In p b.positions.items
    which b (inl e) = (some.0, subst (λ (c : Bucket). In some.0 c.positions.items) e some.1)
    which b (inr i) = are.filled b i

next_greater : (bs : List Bucket) → Ascending key_lt (map heard_in bs) → (i : ℕ) (d : Bucket) → suc i < length bs → key_lt (get_or bs i d).heard (get_or bs (suc i) d).heard ≡ true
next_greater [] up i d h = absurd (omega arith)
next_greater (b ∷ []) up i d h = absurd (omega arith)
next_greater (b ∷ c ∷ bs) up zero d h = up.0 c.heard (inl refl)
next_greater (b ∷ c ∷ bs) up (suc i) d h = next_greater (c ∷ bs) up.1 i d (omega arith)

rises : (bs : List Bucket) (key : Key) → Ascending key_lt (map heard_in bs) → IsNonDecreasingBy (λ (b : Bucket). ordering_index (key_cmp b.heard key)) bs
rises bs key up =
    searchable_from_sorted key_total heard_in bs key
    (λ i d low b.
    let e : suc i ≡ i + 1 = omega arith in
    subst (λ n. key_lt (get_or bs n d).heard (get_or bs i d).heard ≡ false) e (asym key_lt key_order (get_or bs i d).heard (get_or bs (suc i) d).heard (next_greater bs up i d (omega arith))))

-- what a bisection finds
pub place_found : (bs : List Bucket) (key : Key) (place : Result ℕ ℕ) → AreBuckets bs → IsSearchInRange place (length bs) → IsBinarySearchResult (λ (b : Bucket). key_cmp b.heard key) bs place → IsPlace bs key place
place_found bs key (Ok i) are within found = (within, λ d. key_equal (slice_index_or bs i d).heard key (found d))
place_found bs key (Err i) are within found = (within, before, behind)
  where
    parts : IsPartitionPoint (λ (b : Bucket). key_cmp b.heard key ≡ Less) (λ (b : Bucket). key_cmp b.heard key ≡ Greater) bs i
    parts = found (rises bs key are.ascending)

    before : (b : Bucket) → In b (take i bs) → key_lt b.heard key ≡ true
    before b j =
        let c = in_contains b (take i bs) j in
        let low : c.0 < i = omega (arith, c.1, length-take i bs) in
        subst (λ (x : Bucket). key_lt x.heard key ≡ true) (sym (get_or-take i bs c.0 b low) ∙ c.2) (ap is_lt (parts.0 c.0 b (omega arith) low))

    behind : (b : Bucket) → In b (drop i bs) → key_lt key b.heard ≡ true
    behind b j =
        let c = in_contains b (drop i bs) j in
        subst (λ (x : Bucket). key_lt key x.heard ≡ true) (sym (get_or-drop i bs c.0 b) ∙ c.2)
        (ap is_lt (key_total.antisymm key (get_or bs (i + c.0) b).heard ∙ ap ordering_reverse (parts.1 (i + c.0) b (omega arith) (omega (arith, c.1, length-drop i bs)))))

-- the bucket at a key's place gains a position
pub put_more : (bs : List Bucket) (key : Key) (place : ℕ) (old new : Bucket) (p : Pos) → AreBuckets bs → IsPlace bs key (Ok place) → old ≡ get_or bs place old → Gains old new p →
    AreBuckets (slice_set bs place new) × Holds (outcomes_in (slice_set bs place new)) (outcomes_in bs ++ (key, p) ∷ [])
put_more bs key place old new p are here is g =
    let split = split_with bs place old here.0 is in
    let now = sym (set_split bs place new here.0) in (
      subst AreBuckets now (are_changed (take place bs) (drop (suc place) bs) old new g.heard_part (has_new (take place bs) (drop (suc place) bs) new p old.positions.items g.positions_part) (subst AreBuckets split are)),
      subst (λ xs. Holds (outcomes_in xs) (outcomes_in bs ++ (key, p) ∷ [])) now (subst (λ xs. Holds (outcomes_in (take place bs ++ new ∷ drop (suc place) bs)) (outcomes_in xs ++ (key, p) ∷ [])) (sym split)
          (held_gain (take place bs) (drop (suc place) bs) old new key p (ap heard_in is ∙ here.1 old) g)),
    )

-- or gains none
pub put_none : (bs : List Bucket) (key : Key) (place : ℕ) (old new : Bucket) → AreBuckets bs → IsPlace bs key (Ok place) → old ≡ get_or bs place old → IsAsBefore old new → AreBuckets (slice_set bs place new)
put_none bs key place old new are here is same =
    let split = split_with bs place old here.0 is in
    let all = subst AreBuckets split are in
    let some = all.filled old (in_between (take place bs) (drop (suc place) bs) old) in
    subst AreBuckets (sym (set_split bs place new here.0)) (are_changed (take place bs) (drop (suc place) bs) old new same.heard_part (some.0, subst (λ ps. In some.0 ps) (sym same.positions_part) some.1) all)

-- repeats are dropped in the bucket at a place
pub trim_one : (bs : List Bucket) (place : ℕ) (old new : Bucket) → AreBuckets bs → place < length bs → old ≡ get_or bs place old → IsTrimmed old new → AreBuckets (slice_set bs place new) × Holds (outcomes_in (slice_set bs place new)) (outcomes_in bs)
trim_one bs place old new are within is t =
    let split = split_with bs place old within is in
    let now = sym (set_split bs place new within) in
    let all = subst AreBuckets split are in
    let some = all.filled old (in_between (take place bs) (drop (suc place) bs) old) in
    let has = λ (p : Pos) (i : In p old.positions.items). subst (λ ps. In p ps) (sym t.positions_part) (in_set p old.positions.items i) in
    let had = λ (p : Pos) (i : In p new.positions.items). set_in p old.positions.items (subst (λ ps. In p ps) t.positions_part i) in (
      subst AreBuckets now (are_changed (take place bs) (drop (suc place) bs) old new t.heard_part (some.0, has some.0 some.1) all),
      subst (λ xs. Holds (outcomes_in xs) (outcomes_in bs)) now (subst (λ xs. Holds (outcomes_in (take place bs ++ new ∷ drop (suc place) bs)) (outcomes_in xs)) (sym split)
          (same_outcomes (outcomes_in (take place bs ++ new ∷ drop (suc place) bs)) (outcomes_in (take place bs ++ old ∷ drop (suc place) bs))
          (λ o. moved (take place bs) (drop (suc place) bs) new old (sym t.heard_part) had o) (λ o. moved (take place bs) (drop (suc place) bs) old new t.heard_part has o))),
    )

-- a bucket of one position comes where there is none of the key
pub put_new : (bs : List Bucket) (key : Key) (place : ℕ) (new : Bucket) (p : Pos) → AreBuckets bs → IsPlace bs key (Err place) → new.heard ≡ key → new.positions.items ≡ p ∷ [] →
    AreBuckets (insert bs place new) × Holds (outcomes_in (insert bs place new)) (outcomes_in bs ++ (key, p) ∷ [])
put_new bs key place new p are here is one =
    let parts = take-append-drop place bs in (
      are_more (take place bs) (drop place bs) new key is (p, subst (λ ps. In p ps) (sym one) (inl refl)) (subst AreBuckets (sym parts) are) here.1 here.2,
      subst (λ xs. Holds (outcomes_in (insert bs place new)) (outcomes_in xs ++ (key, p) ∷ [])) parts (held_new (take place bs) (drop place bs) new key p is one),
    )

-- each key has one bucket
one_bucket : (bs : List Bucket) (b c : Bucket) → Ascending key_lt (map heard_in bs) → In b bs → In c bs → b.heard ≡ c.heard → b ≡ c
one_bucket [] b c up i j e = absurd i
one_bucket (x ∷ xs) b c up (inl s) (inl t) e = sym s ∙ t
one_bucket (x ∷ xs) b c up (inl s) (inr j) e = absurd (both_ways (key_lt x.heard x.heard) (key_order.never_itself x.heard) (subst (λ k. key_lt x.heard k ≡ true) (sym e ∙ ap heard_in (sym s)) (up.0 c.heard (in_map heard_in xs c j))))
one_bucket (x ∷ xs) b c up (inr i) (inl t) e = absurd (both_ways (key_lt x.heard x.heard) (key_order.never_itself x.heard) (subst (λ k. key_lt x.heard k ≡ true) (e ∙ ap heard_in (sym t)) (up.0 b.heard (in_map heard_in xs b i))))
one_bucket (x ∷ xs) b c up (inr i) (inr j) e = one_bucket xs b c up.1 i j e

-- the classes of what buckets hold are those of the buckets
pub bucket_classes : (bs : List Bucket) → AreBuckets bs → map bucket_class bs ≡ classes_in (outcomes_in bs)
bucket_classes bs are = sym (ap (map (class_at (outcomes_in bs))) keys ∙ map-map (class_at (outcomes_in bs)) heard_in bs ∙ map_agree (λ (b : Bucket). class_at (outcomes_in bs) b.heard) bucket_class bs (λ b i. ap (λ ps. (b.heard, ps)) (positions b i)))
  where
    occurs : (k : Key) → In k (keys_in key_lt (outcomes_in bs)) → In k (map heard_in bs)
    occurs k i =
        let o = occurs_at key_lt key_order (outcomes_in bs) k i in
        let h = held_at bs o.0 o.1 in
        subst (λ z. In z (map heard_in bs)) (h.2 ∙ o.2) (in_map heard_in bs h.0 h.1)

    occurring : (k : Key) → In k (map heard_in bs) → In k (keys_in key_lt (outcomes_in bs))
    occurring k i =
        let m = map_in heard_in bs k i in
        let q = are.filled m.0 m.1 in
        subst (λ z. In z (keys_in key_lt (outcomes_in bs))) m.2 (key_occurs key_lt key_order (outcomes_in bs) (m.0.heard, q.0) (held bs (m.0.heard, q.0) m.0 m.1 refl q.1))

    keys : keys_in key_lt (outcomes_in bs) ≡ map heard_in bs
    keys = same_set key_lt key_order (keys_in key_lt (outcomes_in bs)) (map heard_in bs) (as_set_ascending key_lt key_order (map (λ (o : KeyedPosition). o.0) (outcomes_in bs))) are.ascending occurs occurring

    positions : (b : Bucket) → In b bs → set_of (at_key key_lt b.heard (outcomes_in bs)) ≡ set_of b.positions.items
    positions b i = same_sets (at_key key_lt b.heard (outcomes_in bs)) b.positions.items to (λ p j. in_at_key key_lt key_order b.heard (outcomes_in bs) (b.heard, p) (held bs (b.heard, p) b i refl j) refl)
      where
        to : (p : Pos) → In p (at_key key_lt b.heard (outcomes_in bs)) → In p b.positions.items
        to p j =
            let o = at_key_in key_lt key_order b.heard (outcomes_in bs) p j in
            let h = held_at bs o.0 o.1 in
            subst (λ q. In q b.positions.items) o.3 (subst (λ (c : Bucket). In o.0.1 c.positions.items) (one_bucket bs h.0 b are.ascending h.1 i (h.2 ∙ o.2)) h.3)
