-- A layer has one game for each position that is possible after its lines: where they stand is the set of these, and there are as many.
use Rattle.std.proofs.Common.{◌≡◌, suc, Bool, true, false, not, cond, List, [], ◌∷◌, ◌++◌, length, filter, map, flat_map, inl, inr, refl, sym, ap, ◌∙◌, subst}
use Rattle.std.proofs.lemmas.Bool.{both_ways, not-true}
use Rattle.std.proofs.lemmas.List.{length-map, map-append}
use Rattle.krieg_belief.proofs.Common.{is_same_side, Pos, Side, Move, after, moves, are_told, Dialect, Line, Opens, Heard, In, position_eq, position_lt, IsAscending, Tale, begun, standing, stands_of, after_reply, tales_after, elsewhere, firsts, tell, tell_all, run}
use Rattle.krieg_wordtext.specs.declared.line.Line.TheVariants.{Illegal, Done, Early, Over}
use Rattle.krieg_theory.proofs.Lists.{in_filter, filter_in, in_map, map_in, in_flat, flat_in}
use Rattle.krieg_theory.specs.Sets.{insert_once}
use Rattle.krieg_pack.proofs.PositionSets.{position_order, in_set, set_in, same_sets, set_of_ascending}
use Rattle.krieg_pack.specs.Members.{set_of}
use Rattle.krieg_belief.specs.Steps.{nexts, step}
use Rattle.krieg_belief.proofs.Facts.{place_same}
use Rattle.krieg_belief.proofs.Layers.{firsts_in}

-- where games stand
abbrev places : List Tale → List Pos
places xs = map stands_of xs

-- ---- no position stands twice in a list

abbrev Apart : List Pos → Type 0
Apart [] = Rattle.std.specs.Prelude.⊤
Apart (p ∷ ps) = (In p ps → ⊥) × Apart ps

put_more : (p : Pos) (qs : List Pos) → (In p qs → ⊥) → length (insert_once position_lt p qs) ≡ suc (length qs)
put_more p [] new = refl
put_more p (q ∷ qs) new = go (position_lt p q) (position_lt q p) refl refl (put_more p qs (λ i. new (inr i)))
  where
    go : (a b : Bool) → position_lt p q ≡ a → position_lt q p ≡ b → length (insert_once position_lt p qs) ≡ suc (length qs) →
        length (cond a (p ∷ q ∷ qs) (cond b (q ∷ insert_once position_lt p qs) (q ∷ qs))) ≡ suc (suc (length qs))
    go true b e f r = refl
    go false true e f r = ap suc r
    go false false e f r = absurd (new (inl (position_order.total q p f e)))

-- so its set has as many
as_many : (ps : List Pos) → Apart ps → length (set_of ps) ≡ length ps
unfolding set_of
as_many [] a = refl
as_many (p ∷ ps) a = put_more p (set_of ps) (λ i. a.0 (set_in p ps i)) ∙ ap suc (as_many ps a.1)

ascending_apart : (ps : List Pos) → IsAscending ps → Apart ps
ascending_apart [] up = tt
ascending_apart (p ∷ ps) up = ((λ i. both_ways (position_lt p p) (position_order.never_itself p) (up.0 p i)), ascending_apart ps up.1)

elsewhere_place : (p q : Pos) (xs : List Tale) → In q (places (elsewhere p xs)) → In q (places xs)
elsewhere_place p q xs i =
    let r = map_in stands_of (elsewhere p xs) q i in
    subst (λ (x : Pos). In x (places xs)) r.2 (in_map stands_of xs r.0 (filter_in (λ (t : Tale). not (position_eq t.stands p)) xs r.0 r.1).0)

elsewhere_apart : (p : Pos) (xs : List Tale) → Apart (places xs) → Apart (places (elsewhere p xs))
elsewhere_apart p [] a = tt
elsewhere_apart p (x ∷ xs) a = go (position_eq x.stands p) (elsewhere_apart p xs a.1)
  where
    go : (b : Bool) → Apart (places (elsewhere p xs)) → Apart (places (cond (not b) (x ∷ elsewhere p xs) (elsewhere p xs)))
    go true r = r
    go false r = ((λ i. a.0 (elsewhere_place p x.stands xs i)), r)

firsts_apart : (xs : List Tale) → Apart (places (firsts xs))
firsts_apart [] = tt
firsts_apart (x ∷ xs) = (here, elsewhere_apart x.stands (firsts xs) (firsts_apart xs))
  where
    here : In x.stands (places (elsewhere x.stands (firsts xs))) → ⊥
    here i =
        let r = map_in stands_of (elsewhere x.stands (firsts xs)) x.stands i in
        let f = filter_in (λ (t : Tale). not (position_eq t.stands x.stands)) (firsts xs) r.0 r.1 in
        both_ways _ (not-true _ f.1) (place_same r.0.stands x.stands r.2)

-- of each position a game is left
firsts_place : (q : Pos) (xs : List Tale) → In q (places xs) → In q (places (firsts xs))
firsts_place q [] i = i
firsts_place q (x ∷ xs) (inl e) = inl e
firsts_place q (x ∷ xs) (inr i) = there (map_in stands_of (firsts xs) q (firsts_place q xs i))
  where
    there : (z : Tale) × In z (firsts xs) × (z.stands ≡ q) → In q (places (firsts (x ∷ xs)))
    there z = go (position_eq z.0.stands x.stands) refl
      where
        go : (b : Bool) → position_eq z.0.stands x.stands ≡ b → In q (places (firsts (x ∷ xs)))
        go true e = inl (sym (Rattle.krieg_pack.specs.SameNumbers.equal_position z.0.stands x.stands e) ∙ z.2)
        go false e =
            inr (subst (λ (y : Pos). In y (places (elsewhere x.stands (firsts xs)))) z.2
            (in_map stands_of (elsewhere x.stands (firsts xs)) z.0 (in_filter (λ (t : Tale). not (position_eq t.stands x.stands)) (firsts xs) z.0 z.1 (ap not e))))

place_firsts : (q : Pos) (xs : List Tale) → In q (places (firsts xs)) → In q (places xs)
place_firsts q xs i =
    let r = map_in stands_of (firsts xs) q i in
    subst (λ (y : Pos). In y (places xs)) r.2 (in_map stands_of xs r.0 (firsts_in xs r.0 r.1))

standing_places : (x : Tale) (ps : List Pos) → places (map (standing x) ps) ≡ ps
standing_places x [] = refl
standing_places x (p ∷ ps) = ap (λ (qs : List Pos). p ∷ qs) (standing_places x ps)

reply_places : (x : Tale) (ms : List Move) → places (map (after_reply x) ms) ≡ map (after x.stands) ms
reply_places x [] = refl
reply_places x (m ∷ ms) = ap (λ (qs : List Pos). after x.stands m ∷ qs) (reply_places x ms)

begun_places : (ps : List Pos) → places (map begun ps) ≡ ps
begun_places [] = refl
begun_places (p ∷ ps) = ap (λ (qs : List Pos). p ∷ qs) (begun_places ps)

module _ (d : Dialect) (who : Side) where
  -- where a game may stand after a line
  next_places : (l : Line) (x : Tale) → places (tales_after d who l x) ≡ nexts d who l x.stands
  next_places (Opens w) x = standing_places x _
  next_places (Illegal m) x = standing_places x _
  next_places (Done m w) x = standing_places x _
  next_places (Heard w) x = go (is_same_side x.stands.side who)
    where
      go : (b : Bool) → places (cond b [] (map (after_reply x) (filter (are_told d w x.stands) (moves x.stands)))) ≡ cond b [] (map (after x.stands) (filter (are_told d w x.stands) (moves x.stands)))
      go true = refl
      go false = reply_places x _
  next_places (Early m) x = standing_places x _
  next_places (Over m) x = standing_places x _

  all_places : (l : Line) (xs : List Tale) → places (flat_map (tales_after d who l) xs) ≡ flat_map (nexts d who l) (places xs)
  all_places l [] = refl
  all_places l (x ∷ xs) = map-append stands_of (tales_after d who l x) (flat_map (tales_after d who l) xs) ∙ (λ i. next_places l x i ++ all_places l xs i)

  -- a step of a layer is one of the set of its positions
  tell_places : (l : Line) (xs : List Tale) → set_of (places (tell d who l xs)) ≡ step d who l (places xs)
  tell_places l xs =
      let ys = flat_map (tales_after d who l) xs in
      same_sets (places (firsts ys)) (places ys) (λ p i. place_firsts p ys i) (λ p i. firsts_place p ys i) ∙ ap set_of (all_places l xs)

  step_set : (l : Line) (ps : List Pos) → step d who l ps ≡ step d who l (set_of ps)
  step_set l ps =
      same_sets (flat_map (nexts d who l) ps) (flat_map (nexts d who l) (set_of ps))
      (λ p i. let f = flat_in (nexts d who l) ps p i in in_flat (nexts d who l) (set_of ps) f.0 p (in_set f.0 ps f.1) f.2)
      (λ p i. let f = flat_in (nexts d who l) (set_of ps) p i in in_flat (nexts d who l) ps f.0 p (set_in f.0 ps f.1) f.2)

  run_places : (ls : List Line) (xs : List Tale) (ps : List Pos) → set_of (places xs) ≡ ps → set_of (places (tell_all d who ls xs)) ≡ run d who ls ps
  run_places [] xs ps is = is
  run_places (l ∷ ls) xs ps is = run_places ls (tell d who l xs) (step d who l ps) (tell_places l xs ∙ (step_set l (places xs) ∙ ap (step d who l) is))

  all_apart : (ls : List Line) (xs : List Tale) → Apart (places xs) → Apart (places (tell_all d who ls xs))
  all_apart [] xs a = a
  all_apart (l ∷ ls) xs a = all_apart ls (tell d who l xs) (firsts_apart (flat_map (tales_after d who l) xs))

  -- the games stand where a game may stand after the lines
  pub layer_places : (ls : List Line) (ps : List Pos) → IsAscending ps → set_of (places (tell_all d who ls (map begun ps))) ≡ run d who ls ps
  layer_places ls ps up = run_places ls (map begun ps) ps (ap set_of (begun_places ps) ∙ set_of_ascending ps up)

  -- and there are as many
  pub layer_size : (ls : List Line) (ps : List Pos) → IsAscending ps → length (tell_all d who ls (map begun ps)) ≡ length (run d who ls ps)
  layer_size ls ps up =
      let xs = tell_all d who ls (map begun ps) in
      let apart = all_apart ls (map begun ps) (subst Apart (sym (begun_places ps)) (ascending_apart ps up)) in
      sym (length-map xs stands_of) ∙ (sym (as_many (places xs) apart) ∙ ap (λ (qs : List Pos). length qs) (layer_places ls ps up))
