-- What is reached: it keeps the rules, and it is in each list that keeps them.
use Rattle.std.proofs.Common.{◌≡◌, ℕ, zero, suc, ◌≤◌, ◌<◌, true, false, ◌⊎◌, List, [], ◌∷◌, ◌++◌, length, flat_map, refl, sym, ap, subst, inl, inr, arith, eq-or-lt_of_le}
use Rattle.std.proofs.lemmas.Bool.{both_ways}
use Rattle.krieg_costs.proofs.Common.{In, is_nil, Game, IsGame, refused, legal_in_some, tries, keys, class, Outset, IsOutset, openings, opening_set, Pair, once, reach_within, reach, reach_of, HasParts, IsReach, ReachIsLeast, ReachIsOfSets}
use Rattle.krieg_theory.proofs.Lists.{in_append_left, in_append_right, append_in, in_flat, flat_in}
use Rattle.krieg_theory.proofs.Steps.{refused_lt}
use Rattle.krieg_theory.proofs.Theorems.{classes_are_split}
use Rattle.krieg_theory.proofs.Planned.{opening_member}
use Rattle.krieg_costs.proofs.Pairs.{in_once, once_in}
use Rattle.krieg_costs.proofs.Costs.{try_legal, legal_try}

pub not_nil : {X : Type 0} (xs : List X) (x : X) → In x xs → is_nil xs ≡ false
not_nil [] x i = absurd i
not_nil (y ∷ ys) x i = refl

module _ (G : Game) (L : IsGame G) where
  pub class_some : (B : List G.Position) (t : G.Move) (key : G.Key) → In key (keys G B t) → is_nil (class G B t key) ≡ false
  class_some B t key i = (classes_are_split G L B t key).2.0 i

  -- all of small stands in R, and what each of its pairs leads to, and each pair with fewer moves
  abbrev pub Inside : List (Pair G) → List (Pair G) → Type 0
  Inside small R = (q : Pair G) → In q small → In q R

  abbrev pub Leads : List (Pair G) → List (Pair G) → Type 0
  Leads small R = (C : List G.Position) (i : ℕ) → In (C, i) small → (t : G.Move) → legal_in_some G C t ≡ true → HasParts G R C i t

  abbrev pub Sinks : List (Pair G) → List (Pair G) → Type 0
  Sinks small R = (C : List G.Position) (i : ℕ) → In (C, suc i) small → 0 < i → In (C, i) R

  -- what is reached from one try
  abbrev pub one : ℕ → ℕ → List G.Position → G.Move → List (Pair G)
  one j n B t = reach_within G j (reach G j) n (refused G B t) ++ flat_map (λ key. reach G j (class G B t key)) (keys G B t)

  within_all : (j n i : ℕ) (B : List G.Position) → length B ≤ n → is_nil B ≡ false → 0 < i → i ≤ suc j → (i ≤ j → In (B, i) (reach G j B)) → In (B, i) (reach_within G j (reach G j) n B)
  within_all j n i [] l e h k r = absurd (both_ways _ e refl)
  within_all j zero i (p ∷ B) l e h k r = absurd (omega arith)
  within_all j (suc n) i (p ∷ B) l e h k r = go (eq-or-lt_of_le k)
    where
      go : (i ≡ suc j) ⊎ (i < suc j) → In (p ∷ B, i) (reach_within G j (reach G j) (suc n) (p ∷ B))
      go (inl d) = inl (ap (λ x. (p ∷ B, x)) (sym d))
      go (inr d) = inr (in_append_left (reach G j (p ∷ B)) (flat_map (one j n (p ∷ B)) (tries G (p ∷ B))) (p ∷ B, i) (r (omega arith)))

  -- a set is reached with every number
  pub reach_all : (j i : ℕ) (B : List G.Position) → is_nil B ≡ false → 0 < i → i ≤ j → In (B, i) (reach G j B)
  reach_all zero i B e h k = absurd (omega arith)
  reach_all (suc j) i B e h k = let ih = reach_all j i B e h in within_all j (length B) i B (omega arith) e h k ih

  other_all : (j n i : ℕ) (B : List G.Position) → length B ≤ n → is_nil B ≡ false → 0 < i → i ≤ suc j → In (B, i) (reach_within G j (reach G j) n B)
  other_all j n i B l e h k = within_all j n i B l e h k (λ d. reach_all j i B e h d)

  -- where the pairs of one level stand
  module _ (j n : ℕ) (p : G.Position) (B : List G.Position) where
    in_less : (q : Pair G) → In q (reach G j (p ∷ B)) → In q (reach_within G j (reach G j) (suc n) (p ∷ B))
    in_less q s = inr (in_append_left (reach G j (p ∷ B)) (flat_map (one j n (p ∷ B)) (tries G (p ∷ B))) q s)

    in_other : (t : G.Move) → In t (tries G (p ∷ B)) → (q : Pair G) → In q (reach_within G j (reach G j) n (refused G (p ∷ B) t)) → In q (reach_within G j (reach G j) (suc n) (p ∷ B))
    in_other t a q s = inr (in_append_right (reach G j (p ∷ B)) (flat_map (one j n (p ∷ B)) (tries G (p ∷ B))) q (in_flat (one j n (p ∷ B)) (tries G (p ∷ B)) t q a (in_append_left (reach_within G j (reach G j) n (refused G (p ∷ B) t)) (flat_map (λ key. reach G j (class G (p ∷ B) t key)) (keys G (p ∷ B) t)) q s)))

    in_one : (t : G.Move) → In t (tries G (p ∷ B)) → (key : G.Key) → In key (keys G (p ∷ B) t) → (q : Pair G) → In q (reach G j (class G (p ∷ B) t key)) → In q (reach_within G j (reach G j) (suc n) (p ∷ B))
    in_one t a key b q s = inr (in_append_right (reach G j (p ∷ B)) (flat_map (one j n (p ∷ B)) (tries G (p ∷ B))) q (in_flat (one j n (p ∷ B)) (tries G (p ∷ B)) t q a (in_append_right (reach_within G j (reach G j) n (refused G (p ∷ B) t)) (flat_map (λ key. reach G j (class G (p ∷ B) t key)) (keys G (p ∷ B) t)) q (in_flat (λ key. reach G j (class G (p ∷ B) t key)) (keys G (p ∷ B) t) key q b s))))

    -- from each place a property of the pair
    by_place : (Q : Pair G → Type 0) → Q (p ∷ B, suc j) → ((q : Pair G) → In q (reach G j (p ∷ B)) → Q q)
        → ((t : G.Move) → In t (tries G (p ∷ B)) → (q : Pair G) → In q (reach_within G j (reach G j) n (refused G (p ∷ B) t)) → Q q)
        → ((t : G.Move) → In t (tries G (p ∷ B)) → (key : G.Key) → In key (keys G (p ∷ B) t) → (q : Pair G) → In q (reach G j (class G (p ∷ B) t key)) → Q q)
        → (q : Pair G) → In q (reach_within G j (reach G j) (suc n) (p ∷ B)) → Q q
    by_place Q itself less other each q i = first i
      where
        by_try : (t : G.Move) → In t (tries G (p ∷ B)) → In q (reach_within G j (reach G j) n (refused G (p ∷ B) t)) ⊎ In q (flat_map (λ key. reach G j (class G (p ∷ B) t key)) (keys G (p ∷ B) t)) → Q q
        by_try t a (inl s) = other t a q s
        by_try t a (inr s) = let k = flat_in (λ key. reach G j (class G (p ∷ B) t key)) (keys G (p ∷ B) t) q s in each t a k.0 k.1 q k.2

        by_rest : In q (reach G j (p ∷ B)) ⊎ In q (flat_map (one j n (p ∷ B)) (tries G (p ∷ B))) → Q q
        by_rest (inl s) = less q s
        by_rest (inr s) = let f = flat_in (one j n (p ∷ B)) (tries G (p ∷ B)) q s in by_try f.0 f.1 (append_in (reach_within G j (reach G j) n (refused G (p ∷ B) f.0)) (flat_map (λ key. reach G j (class G (p ∷ B) f.0 key)) (keys G (p ∷ B) f.0)) q f.2)

        first : (◌≡◌ {A = Pair G} (p ∷ B, suc j) q) ⊎ In q (reach G j (p ∷ B) ++ flat_map (one j n (p ∷ B)) (tries G (p ∷ B))) → Q q
        first (inl e) = subst Q e itself
        first (inr s) = by_rest (append_in (reach G j (p ∷ B)) (flat_map (one j n (p ∷ B)) (tries G (p ∷ B))) q s)

  -- a property of pairs that goes from each level to the next one holds of all that is reached
  leads_within : (j n : ℕ) → ((B : List G.Position) (R : List (Pair G)) → Inside (reach G j B) R → Leads (reach G j B) R) → (B : List G.Position) (R : List (Pair G)) → length B ≤ n → Inside (reach_within G j (reach G j) n B) R → Leads (reach_within G j (reach G j) n B) R
  leads_within j zero ih B R l inside C i m t k = absurd m
  leads_within j (suc n) ih [] R l inside C i m t k = absurd m
  leads_within j (suc n) ih (p ∷ B) R l inside C i m t k =
      by_place j n p B (λ q. legal_in_some G q.0 t ≡ true → HasParts G R q.0 q.1 t) itself
      (λ q s. ih (p ∷ B) R (λ x y. inside x (in_less j n p B x y)) q.0 q.1 s t)
      (λ u a q s. (let d = refused_lt G L (p ∷ B) u (try_legal G L (p ∷ B) u a) in leads_within j n ih (refused G (p ∷ B) u) R (omega arith) (λ x y. inside x (in_other j n p B u a x y)) q.0 q.1 s t))
      (λ u a key b q s. ih (class G (p ∷ B) u key) R (λ x y. inside x (in_one j n p B u a key b x y)) q.0 q.1 s t)
      (C, i) m k
    where
      itself : legal_in_some G (p ∷ B) t ≡ true → HasParts G R (p ∷ B) (suc j) t
      itself e =
          let a = legal_try G L (p ∷ B) t e in
          let d = refused_lt G L (p ∷ B) t e in
          record {
            refused_part = λ f x h g. inside (refused G (p ∷ B) t, x) (in_other j n p B t a (refused G (p ∷ B) t, x) (other_all j n x (refused G (p ∷ B) t) (omega arith) f h g));
            classes = λ key b x h g. inside (class G (p ∷ B) t key, x) (in_one j n p B t a key b (class G (p ∷ B) t key, x) (reach_all j x (class G (p ∷ B) t key) (class_some (p ∷ B) t key b) h (omega arith)));
          }

  pub reach_leads : (j : ℕ) (B : List G.Position) (R : List (Pair G)) → Inside (reach G j B) R → Leads (reach G j B) R
  reach_leads zero B R inside C i m t k = absurd m
  reach_leads (suc j) B R inside C i m t k = leads_within j (length B) (reach_leads j) B R (omega arith) inside C i m t k

  sinks_within : (j n : ℕ) → ((B : List G.Position) (R : List (Pair G)) → Inside (reach G j B) R → Sinks (reach G j B) R) → (B : List G.Position) (R : List (Pair G)) → Inside (reach_within G j (reach G j) n B) R → Sinks (reach_within G j (reach G j) n B) R
  sinks_within j zero ih B R inside C i m h = absurd m
  sinks_within j (suc n) ih [] R inside C i m h = absurd m
  sinks_within j (suc n) ih (p ∷ B) R inside C i m h =
      by_place j n p B (λ q. q.1 ≡ suc i → In (q.0, i) R) itself
      (λ q s e. ih (p ∷ B) R (λ x y. inside x (in_less j n p B x y)) q.0 i (at _ q e s) h)
      (λ u a q s e. sinks_within j n ih (refused G (p ∷ B) u) R (λ x y. inside x (in_other j n p B u a x y)) q.0 i (at _ q e s) h)
      (λ u a key b q s e. ih (class G (p ∷ B) u key) R (λ x y. inside x (in_one j n p B u a key b x y)) q.0 i (at _ q e s) h)
      (C, suc i) m refl
    where
      at : (small : List (Pair G)) (q : Pair G) → q.1 ≡ suc i → In q small → In (q.0, suc i) small
      at small q e s = subst (λ x. In (q.0, x) small) e s

      itself : suc j ≡ suc i → In (p ∷ B, i) R
      itself e =
          let d : j ≡ i = omega arith in
          inside (p ∷ B, i) (in_less j n p B (p ∷ B, i) (subst (λ x. In (p ∷ B, x) (reach G j (p ∷ B))) d (reach_all j j (p ∷ B) refl (omega arith) (omega arith))))

  pub reach_sinks : (j : ℕ) (B : List G.Position) (R : List (Pair G)) → Inside (reach G j B) R → Sinks (reach G j B) R
  reach_sinks zero B R inside C i m h = absurd m
  reach_sinks (suc j) B R inside C i m h = sinks_within j (length B) (reach_sinks j) B R inside C i m h

  -- a list that leads on and has the set with every number has all that is reached
  inside_within : (j n : ℕ) (R : List (Pair G)) → Leads R R → ((B : List G.Position) → (is_nil B ≡ false → (i : ℕ) → 0 < i → i ≤ j → In (B, i) R) → Inside (reach G j B) R) → (B : List G.Position) → (is_nil B ≡ false → (i : ℕ) → 0 < i → i ≤ suc j → In (B, i) R) → Inside (reach_within G j (reach G j) n B) R
  inside_within j zero R leads ih B h q m = absurd m
  inside_within j (suc n) R leads ih [] h q m = absurd m
  inside_within j (suc n) R leads ih (p ∷ B) h q m =
      by_place j n p B (λ q. In q R) here
      (λ q s. ih (p ∷ B) (λ e i a b. h e i a (omega arith)) q s)
      (λ u a q s. inside_within j n R leads ih (refused G (p ∷ B) u) (λ e i x y. (leads (p ∷ B) (suc j) here u (try_legal G L (p ∷ B) u a)).refused_part e i x y) q s)
      (λ u a key b q s. ih (class G (p ∷ B) u key) (λ e i x y. (leads (p ∷ B) (suc j) here u (try_legal G L (p ∷ B) u a)).classes key b i x (omega arith)) q s)
      q m
    where
      here : In (p ∷ B, suc j) R
      here = h refl (suc j) (omega arith) (omega arith)

  pub reach_inside : (j : ℕ) (R : List (Pair G)) → Leads R R → (B : List G.Position) → (is_nil B ≡ false → (i : ℕ) → 0 < i → i ≤ j → In (B, i) R) → Inside (reach G j B) R
  reach_inside zero R leads B h q m = absurd m
  reach_inside (suc j) R leads B h q m = inside_within j (length B) R leads (reach_inside j R leads) B h q m

  -- a set that is reached has members, and its number is from 1 on
  abbrev pub IsSome : ℕ → Pair G → Type 0
  IsSome n q = (is_nil q.0 ≡ false) × (0 < q.1) × (q.1 ≤ n)

  one_more : (j : ℕ) (q : Pair G) → IsSome j q → IsSome (suc j) q
  one_more j q s = (s.0, s.1, (let a = s.2 in omega arith))

  some_within : (j n : ℕ) → ((B : List G.Position) (q : Pair G) → In q (reach G j B) → IsSome j q) → (B : List G.Position) (q : Pair G) → In q (reach_within G j (reach G j) n B) → IsSome (suc j) q
  some_within j zero ih B q m = absurd m
  some_within j (suc n) ih [] q m = absurd m
  some_within j (suc n) ih (p ∷ B) q m =
      by_place j n p B (IsSome (suc j)) (refl, omega arith, omega arith)
      (λ x s. one_more j x (ih (p ∷ B) x s))
      (λ u a x s. some_within j n ih (refused G (p ∷ B) u) x s)
      (λ u a key b x s. one_more j x (ih (class G (p ∷ B) u key) x s))
      q m

  pub reach_some : (j : ℕ) (B : List G.Position) (q : Pair G) → In q (reach G j B) → IsSome j q
  reach_some zero B q m = absurd m
  reach_some (suc j) B q m = some_within j (length B) (reach_some j) B q m

module _ (G : Game) (L : IsGame G) (O : Outset G) (W : IsOutset G O) where
  -- a property of all that is reached from an opening set, with what is reached at all around it
  pub in_reach_of : (n : ℕ) (S : List G.Position) (key : O.Root) → In key (openings G O S) → Inside G L (reach G n (opening_set G O S key)) (reach_of G O n S)
  in_reach_of n S key i q m = in_flat (λ key. reach G n (opening_set G O S key)) (openings G O S) key q i m

  pub opening_some : (S : List G.Position) (key : O.Root) → In key (openings G O S) → is_nil (opening_set G O S key) ≡ false
  opening_some S key i = let m = opening_member G L O W S key i in not_nil (opening_set G O S key) m.0 m.1

  reach_of_leads : (n : ℕ) (S : List G.Position) → Leads G L (reach_of G O n S) (reach_of G O n S)
  reach_of_leads n S C i m t k =
      let f = flat_in (λ key. reach G n (opening_set G O S key)) (openings G O S) (C, i) m in
      reach_leads G L n (opening_set G O S f.0) (reach_of G O n S) (in_reach_of n S f.0 f.1) C i f.2 t k

  pub reach_of_sinks : (n : ℕ) (S : List G.Position) → Sinks G L (reach_of G O n S) (reach_of G O n S)
  reach_of_sinks n S C i m h =
      let f = flat_in (λ key. reach G n (opening_set G O S key)) (openings G O S) (C, suc i) m in
      reach_sinks G L n (opening_set G O S f.0) (reach_of G O n S) (in_reach_of n S f.0 f.1) C i f.2 h

  pub reach_is_least : ReachIsLeast G O
  reach_is_least n S = (
    record {
      opened = λ key i j h k. in_reach_of n S key i (opening_set G O S key, j) (reach_all G L n j (opening_set G O S key) (opening_some S key i) h k);
      leads = λ B j m t l. reach_of_leads n S B j m t l;
    },
    λ R r q m.
        let f = flat_in (λ key. reach G n (opening_set G O S key)) (openings G O S) q m in
        reach_inside G L n R r.leads (opening_set G O S f.0) (λ e i h k. r.opened f.0 f.1 i h k) q f.2,
  )

  -- without its repeats it keeps the rules too
  pub fresh_is_reach : (n : ℕ) (S : List G.Position) → IsReach G O n S (once G (reach_of G O n S))
  fresh_is_reach n S =
      let R = reach_of G O n S in
      let r = (reach_is_least n S).0 in
      record {
        opened = λ key i j h k. in_once G L R _ (r.opened key i j h k);
        leads = λ B j m t l.
            let p = r.leads B j (once_in G L R (B, j) m) t l in
            record { refused_part = λ e i h k. in_once G L R _ (p.refused_part e i h k); classes = λ key o i h k. in_once G L R _ (p.classes key o i h k) };
      }

  pub reach_is_of_sets : ReachIsOfSets G O
  reach_is_of_sets n S q m =
      let f = flat_in (λ key. reach G n (opening_set G O S key)) (openings G O S) q m in
      reach_some G L n (opening_set G O S f.0) q f.2
