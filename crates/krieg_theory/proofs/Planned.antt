-- Plans: from a plan that mates to the sets that can be won, and from there to the canonical plan.
use Rattle.std.proofs.Common.{◌≡◌, ℕ, ◌≤◌, true, false, not, ◌&&◌, max, ◌⊎◌, List, [], ◌∷◌, map, refl, sym, ap, subst, inl, inr, ◌∙◌, arith}
use Rattle.std.specs.List.{list_all, list_any}
use Rattle.std.proofs.lemmas.Bool.{and_parts, and_from, cases_Bool, not-true, not_from_false, cond-true, cond-false, both_ways, false_from_ne_true}
use Rattle.krieg_theory.proofs.Common.{In, same, Tree, Maybe, Nothing, Just, Game, IsGame, wins, can, least, canon, Outset, IsOutset, is_over, all_starts, openings, opening_set, Plan, wins_root, mates, IsWorst, AreCanonRoots, IsCanonPlan, can_plan, root_with, roots_of, canon_plan, greatest, canon_worst}
use Rattle.krieg_theory.proofs.Lists.{all_at, all_from, any_at, any_none, in_flat, flat_in}
use Rattle.krieg_theory.proofs.Ascending.{in_as_set, as_set_in, same_eq, same_refl}
use Rattle.krieg_theory.proofs.Keys.{at_key_in, in_at_key, key_occurs, occurs_at}
use Rattle.krieg_theory.proofs.Steps.{Member}
use Rattle.krieg_theory.proofs.Shown.{node_shows}
use Rattle.krieg_theory.proofs.Unique.{can_upto, canon_only}
use Rattle.krieg_theory.proofs.Exists.{canon_is}
use Rattle.krieg_theory.proofs.Least.{wins_upto, least_le, least_least, canon_wins_least, canon_can}

pub greatest_at : {X : Type 0} (f : X → ℕ) (xs : List X) (x : X) → In x xs → f x ≤ greatest f xs
greatest_at f [] x i = absurd i
greatest_at f (y ∷ ys) x (inl e) = let q = ap f e in omega arith
greatest_at f (y ∷ ys) x (inr i) = let ih = greatest_at f ys x i in omega arith

pub greatest_least : {X : Type 0} (f : X → ℕ) (xs : List X) (m : ℕ) → ((x : X) → In x xs → f x ≤ m) → greatest f xs ≤ m
greatest_least f [] m h = omega arith
greatest_least f (x ∷ xs) m h = let a = h x (inl refl) in let ih = greatest_least f xs m (λ y i. h y (inr i)) in omega arith

module _ (G : Game) (L : IsGame G) (O : Outset G) (R : IsOutset G O) where
  -- a member of an opening set comes from a listed position
  pub start_in : (S : List G.Position) (key : O.Root) (q : G.Position) → In q (opening_set G O S key) → (p : G.Position) × In p S × ((s : O.Root × G.Position) × In s (O.starts p) × (s.0 ≡ key) × (s.1 ≡ q))
  start_in S key q i =
      let a = at_key_in O.root_lt R.root_order key (all_starts G O S) q (as_set_in G.position_lt L.position_order q _ i) in
      let b = flat_in O.starts S a.0 a.1 in
      (b.0, b.1, (a.0, b.2, a.2, a.3))

  pub in_start : (S : List G.Position) (p : G.Position) (s : O.Root × G.Position) → In p S → In s (O.starts p) → In s (all_starts G O S)
  in_start S p s i h = in_flat O.starts S p s i h

  pub in_opening : (S : List G.Position) (p : G.Position) (s : O.Root × G.Position) → In p S → In s (O.starts p) → In s.1 (opening_set G O S s.0)
  in_opening S p s i h = in_as_set G.position_lt L.position_order s.1 _ (in_at_key O.root_lt R.root_order s.0 (all_starts G O S) s (in_start S p s i h) refl)

  pub opens : (S : List G.Position) (p : G.Position) (s : O.Root × G.Position) → In p S → In s (O.starts p) → In s.0 (openings G O S)
  opens S p s i h = key_occurs O.root_lt R.root_order (all_starts G O S) s (in_start S p s i h)

  -- what may be heard has a member
  pub opening_member : (S : List G.Position) (key : O.Root) → In key (openings G O S) → Member (opening_set G O S key)
  opening_member S key i =
      let a = occurs_at O.root_lt R.root_order (all_starts G O S) key i in
      let b = flat_in O.starts S a.0 a.1 in
      subst (λ k. Member (opening_set G O S k)) a.2 (a.0.1, in_opening S b.0 a.0 b.1 b.2)

  -- one root wins each member of a set, so the set can be won
  pub root_shows : (plan : Plan G O) (key : O.Root) (B : List G.Position) (j : ℕ) → Member B → ((p : G.Position) → In p B → wins_root G O plan key p j ≡ true) → can G j B ≡ true
  root_shows [] key B j m w = absurd (both_ways false refl (w m.0 m.1))
  root_shows (r ∷ rs) key B j m w = go (cases_Bool (same O.root_lt r.0 key)) (root_shows rs key B j m)
    where
      go : (same O.root_lt r.0 key ≡ true) ⊎ (same O.root_lt r.0 key ≡ false) → (((p : G.Position) → In p B → wins_root G O rs key p j ≡ true) → can G j B ≡ true) → can G j B ≡ true
      go (inl e) ih = node_shows G L r.1 B j m (λ p i. sym (cond-true (same O.root_lt r.0 key) _ _ e) ∙ w p i)
      go (inr e) ih = ih (λ p i. sym (cond-false (same O.root_lt r.0 key) _ _ e) ∙ w p i)

  -- what a plan that mates says of a listed position
  pub mates_at_start : (plan : Plan G O) (S : List G.Position) (k : ℕ) → mates G O plan S k ≡ true → (p : G.Position) → In p S → (is_over G O p ≡ false) × ((s : O.Root × G.Position) → In s (O.starts p) → wins_root G O plan s.0 s.1 k ≡ true)
  mates_at_start plan S k m p i =
      let a = and_parts (not (is_over G O p)) (list_all (λ s. wins_root G O plan s.0 s.1 k) (O.starts p)) (all_at (λ p. not (is_over G O p) && list_all (λ s. wins_root G O plan s.0 s.1 k) (O.starts p)) S m p i) in
      (not-true _ a.0, λ s h. all_at (λ s. wins_root G O plan s.0 s.1 k) (O.starts p) a.1 s h)

  pub mates_from : (plan : Plan G O) (S : List G.Position) (k : ℕ) → ((p : G.Position) → In p S → (is_over G O p ≡ false) × ((s : O.Root × G.Position) → In s (O.starts p) → wins_root G O plan s.0 s.1 k ≡ true)) → mates G O plan S k ≡ true
  mates_from plan S k h = all_from (λ p. not (is_over G O p) && list_all (λ s. wins_root G O plan s.0 s.1 k) (O.starts p)) S (λ p i. and_from _ _ (not_from_false _ (h p i).0) (all_from (λ s. wins_root G O plan s.0 s.1 k) (O.starts p) (h p i).1))

  pub can_plan_from : (S : List G.Position) (j : ℕ) → ((p : G.Position) → In p S → is_over G O p ≡ false) → ((key : O.Root) → In key (openings G O S) → can G j (opening_set G O S key) ≡ true) → can_plan G O j S ≡ true
  can_plan_from S j h k =
      and_from _ _ (not_from_false _ (false_from_ne_true _ (λ e. let a = any_at (is_over G O) S e in both_ways _ (h a.0 a.1) a.2))) (all_from (λ key. can G j (opening_set G O S key)) (openings G O S) k)

  pub can_plan_at : (S : List G.Position) (j : ℕ) → can_plan G O j S ≡ true → (list_any (is_over G O) S ≡ false) × ((key : O.Root) → In key (openings G O S) → can G j (opening_set G O S key) ≡ true)
  can_plan_at S j c =
      let a = and_parts (not (list_any (is_over G O) S)) _ c in
      (not-true _ a.0, all_at (λ key. can G j (opening_set G O S key)) (openings G O S) a.1)

  -- a plan that mates shows that each opening set can be won
  pub mates_shows : (plan : Plan G O) (S : List G.Position) (j : ℕ) → mates G O plan S j ≡ true → can_plan G O j S ≡ true
  mates_shows plan S j m = can_plan_from S j (λ p i. (mates_at_start plan S j m p i).0) (λ key i. root_shows plan key (opening_set G O S key) j (opening_member S key i) (λ q h.
      let a = start_in S key q h in
      let w = (mates_at_start plan S j m a.0 a.1).1 a.2.0 a.2.1 in
      subst (λ k. wins_root G O plan k q j ≡ true) a.2.2 (subst (λ x. wins_root G O plan a.2.0.0 x j ≡ true) a.2.3 w)))

  -- the root that is found under a key
  at_roots : (ks : List O.Root) (f : O.Root → Maybe G.Move G.Key) (key : O.Root) (n : Tree G.Move G.Key) (q : G.Position) (k : ℕ) → In key ks → f key ≡ Just n → wins G n q k ≡ true → wins_root G O (roots_of G O ks f) key q k ≡ true
  at_roots [] f key n q k i e w = absurd i
  at_roots (r ∷ ks) f key n q k i e w = go (cases_Bool (same O.root_lt r key)) i (λ i. at_roots ks f key n q k i e w)
    where
      skip : (m : Maybe G.Move G.Key) → same O.root_lt r key ≡ false → wins_root G O (roots_of G O ks f) key q k ≡ true → wins_root G O (root_with G O r m (roots_of G O ks f)) key q k ≡ true
      skip Nothing d h = h
      skip (Just x) d h = cond-false (same O.root_lt r key) _ _ d ∙ h

      go : (same O.root_lt r key ≡ true) ⊎ (same O.root_lt r key ≡ false) → (r ≡ key) ⊎ In key ks → (In key ks → wins_root G O (roots_of G O ks f) key q k ≡ true) → wins_root G O (roots_of G O (r ∷ ks) f) key q k ≡ true
      go (inl d) s h = subst (λ m. wins_root G O (root_with G O r m (roots_of G O ks f)) key q k ≡ true) (sym (ap f (same_eq O.root_lt R.root_order r key d) ∙ e)) (cond-true (same O.root_lt r key) _ _ d ∙ w)
      go (inr d) (inl s) h = absurd (both_ways _ d (subst (λ z. same O.root_lt z key ≡ true) (sym s) (same_refl O.root_lt R.root_order key)))
      go (inr d) (inr s) h = skip (f r) d (h s)

  -- the canonical plan mates within the greatest of the least numbers
  pub canon_mates : (j : ℕ) (S : List G.Position) → can_plan G O j S ≡ true → mates G O (canon_plan G O j S) S (canon_worst G O j S) ≡ true
  canon_mates j S c = mates_from (canon_plan G O j S) S (canon_worst G O j S) (λ p i. (
    any_none (is_over G O) S (can_plan_at S j c).0 p i,
    λ s h.
        let C = opening_set G O S s.0 in
        let o = opens S p s i h in
        let w = canon_wins_least G L j C ((can_plan_at S j c).1 s.0 o) in
        at_roots (openings G O S) (λ key. canon G j (opening_set G O S key)) s.0 w.0 s.1 (canon_worst G O j S) o w.1 (wins_upto G (least G j C) (canon_worst G O j S) w.0 s.1 (greatest_at (λ key. least G j (opening_set G O S key)) (openings G O S) s.0 o) (w.2 s.1 (in_opening S p s i h))),
  ))

  -- and so within every number within which the sets can be won
  pub worst_enough : (j : ℕ) (S : List G.Position) → can_plan G O j S ≡ true → canon_worst G O j S ≤ j
  worst_enough j S c = greatest_least (λ key. least G j (opening_set G O S key)) (openings G O S) j (λ key o. least_le G j (opening_set G O S key))

  pub mates_upto : (i j : ℕ) (S : List G.Position) (plan : Plan G O) → i ≤ j → mates G O plan S i ≡ true → mates G O plan S j ≡ true
  mates_upto i j S plan h m = mates_from plan S j (λ p k. (let a = mates_at_start plan S i m p k in (a.0, λ s r. root_upto plan s.0 s.1 (a.1 s r))))
    where
      root_upto : (rs : Plan G O) (key : O.Root) (q : G.Position) → wins_root G O rs key q i ≡ true → wins_root G O rs key q j ≡ true
      root_upto [] key q w = absurd (both_ways false refl w)
      root_upto (r ∷ rs) key q w = go (cases_Bool (same O.root_lt r.0 key)) (root_upto rs key q)
        where
          go : (same O.root_lt r.0 key ≡ true) ⊎ (same O.root_lt r.0 key ≡ false) → (wins_root G O rs key q i ≡ true → wins_root G O rs key q j ≡ true) → wins_root G O (r ∷ rs) key q j ≡ true
          go (inl e) ih = cond-true (same O.root_lt r.0 key) _ _ e ∙ wins_upto G i j r.1 q h (sym (cond-true (same O.root_lt r.0 key) _ _ e) ∙ w)
          go (inr e) ih = cond-false (same O.root_lt r.0 key) _ _ e ∙ ih (sym (cond-false (same O.root_lt r.0 key) _ _ e) ∙ w)

  -- and no plan does within fewer
  pub worst_least : (j : ℕ) (S : List G.Position) (plan : Plan G O) (i : ℕ) → mates G O plan S i ≡ true → canon_worst G O j S ≤ i
  worst_least j S plan i m = greatest_least (λ key. least G j (opening_set G O S key)) (openings G O S) i (λ key o. least_least G L j i (opening_set G O S key) ((can_plan_at S i (mates_shows plan S i m)).1 key o))

  pub canon_plan_worst : (j : ℕ) (S : List G.Position) → can_plan G O j S ≡ true → IsWorst G O (canon_plan G O j S) S (canon_worst G O j S)
  canon_plan_worst j S c = record { mates_within = canon_mates j S c; least = λ i m. worst_least j S (canon_plan G O j S) i m }

  roots_are : (j : ℕ) (S : List G.Position) (ks : List O.Root) → ((key : O.Root) → In key ks → can G j (opening_set G O S key) ≡ true) → (map (λ r. r.0) (roots_of G O ks (λ key. canon G j (opening_set G O S key))) ≡ ks) × AreCanonRoots G O (roots_of G O ks (λ key. canon G j (opening_set G O S key))) S
  roots_are j S [] h = (refl, tt)
  roots_are j S (k ∷ ks) h =
      let f : O.Root → Maybe G.Move G.Key = λ key. canon G j (opening_set G O S key) in
      let a = canon_is G L j (opening_set G O S k) (h k (inl refl)) in
      let r = roots_are j S ks (λ key i. h key (inr i)) in
      let P : Maybe G.Move G.Key → Type 0 = λ m. (map (λ r. r.0) (root_with G O k m (roots_of G O ks f)) ≡ k ∷ ks) × AreCanonRoots G O (root_with G O k m (roots_of G O ks f)) S in
      subst P (sym a.1) (ap (λ xs. k ∷ xs) r.0, (a.2, r.1))

  -- the plan that is computed is canonical
  pub canon_plan_is : (j : ℕ) (S : List G.Position) → can_plan G O j S ≡ true → IsCanonPlan G O (canon_plan G O j S) S
  canon_plan_is j S c =
      let a = can_plan_at S j c in
      let r = roots_are j S (openings G O S) a.1 in
      record { none_over = a.0; same_keys = r.0; roots = r.1 }

  -- and it is the only one
  roots_only : (j : ℕ) (S : List G.Position) (plan : Plan G O) → AreCanonRoots G O plan S → ((key : O.Root) → In key (map (λ r. r.0) plan) → can G j (opening_set G O S key) ≡ true) → roots_of G O (map (λ r. r.0) plan) (λ key. canon G j (opening_set G O S key)) ≡ plan
  roots_only j S [] a h = refl
  roots_only j S (r ∷ rs) a h =
      ap (λ m. root_with G O r.0 m (roots_of G O (map (λ r. r.0) rs) (λ key. canon G j (opening_set G O S key)))) (canon_only G L r.1 (opening_set G O S r.0) j a.0 (h r.0 (inl refl)))
      ∙ ap (λ x. r ∷ x) (roots_only j S rs a.1 (λ key i. h key (inr i)))

  pub canon_plan_only : (j : ℕ) (S : List G.Position) (plan : Plan G O) → IsCanonPlan G O plan S → can_plan G O j S ≡ true → canon_plan G O j S ≡ plan
  canon_plan_only j S plan c k =
      ap (λ ks. roots_of G O ks (λ key. canon G j (opening_set G O S key))) (sym c.same_keys)
      ∙ roots_only j S plan c.roots (λ key i. (can_plan_at S j k).1 key (subst (In key) c.same_keys i))

  roots_can : (S : List G.Position) (plan : Plan G O) → AreCanonRoots G O plan S → (j : ℕ) × ((key : O.Root) → In key (map (λ r. r.0) plan) → can G j (opening_set G O S key) ≡ true)
  roots_can S [] a = (0, λ key i. absurd i)
  roots_can S (r ∷ rs) a =
      let h = canon_can G L r.1 (opening_set G O S r.0) a.0 in
      let ih = roots_can S rs a.1 in
      (max h.0 ih.0, λ key i. go h ih key i)
    where
      go : (h : (j : ℕ) × (can G j (opening_set G O S r.0) ≡ true)) (ih : (j : ℕ) × ((key : O.Root) → In key (map (λ r. r.0) rs) → can G j (opening_set G O S key) ≡ true)) (key : O.Root) → (r.0 ≡ key) ⊎ In key (map (λ r. r.0) rs) → can G (max h.0 ih.0) (opening_set G O S key) ≡ true
      go h ih key (inl e) = subst (λ k. can G (max h.0 ih.0) (opening_set G O S k) ≡ true) e (can_upto G L h.0 (max h.0 ih.0) (opening_set G O S r.0) (omega arith) h.1)
      go h ih key (inr i) = can_upto G L ih.0 (max h.0 ih.0) (opening_set G O S key) (omega arith) (ih.1 key i)

  -- a set that has a canonical plan can be won
  pub canon_plan_can : (S : List G.Position) (plan : Plan G O) → IsCanonPlan G O plan S → (j : ℕ) × (can_plan G O j S ≡ true)
  canon_plan_can S plan c =
      let r = roots_can S plan c.roots in
      (r.0, can_plan_from S r.0 (any_none (is_over G O) S c.none_over) (λ key i. r.1 key (subst (In key) (sym c.same_keys) i)))
