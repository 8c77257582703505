-- Demands one after another.
use Rattle.std.proofs.Common.{◌≡◌, ℕ, ◌-◌, ◌≤◌, Bool, true, false, ◌&&◌, List, [], ◌∷◌, ◌++◌, ◌⊎◌, inl, inr, flat_map, map, take, length, get_or, ◌+◌, ◌<◌, refl, sym, ap, ◌∙◌, subst, Option}
use Rattle.std.specs.List.{list_all}
use Rattle.std.proofs.lemmas.List.Folds.{list_all-append}
use Rattle.std.proofs.lemmas.Grind.{flat_map-append}
use Rattle.std.proofs.lemmas.List.{append-nil, map_more, take_all}
use Rattle.krieg_theory.proofs.Lists.{append_in, in_append_left, in_append_right}
use Rattle.krieg_judge.proofs.Common.{Pos, Dialect, In, wins_other, chess, NodeTree, first_to, led_to, MOST_WORST, Adds, enough, waiting, LinksAdd, link_held, pair_at, Findings}

turned : (f g e : Bool) → (g && (f && e)) ≡ ((f && g) && e)
turned true true e = refl
turned true false e = refl
turned false true e = refl
turned false false e = refl

pub and_true : (b : Bool) → (b && true) ≡ b
and_true true = refl
and_true false = refl

module _ (d : Dialect) (trees : List NodeTree) where
  pub adds_none : (a : Findings) → Adds d trees a a (λ k. true) []
  adds_none a = record {
    enough_part = λ k small. refl;
    pairs_part = λ y. ((λ i. inr i), (λ i. back y i));
  }
    where
      back : (y : ℕ × Pos) → In y [] ⊎ In y (waiting a) → In y (waiting a)
      back y (inl i) = absurd i
      back y (inr i) = i

  pub adds_then : (a b c : Findings) (f g : ℕ → Bool) (ms ns : List (ℕ × Pos)) → Adds d trees a b f ms → Adds d trees b c g ns → Adds d trees a c (λ k. f k && g k) (ms ++ ns)
  adds_then a b c f g ms ns x y = record {
    enough_part = λ k small. y.enough_part k small ∙ ap (λ e. g k && e) (x.enough_part k small) ∙ turned (f k) (g k) (enough d trees a k);
    pairs_part = λ p. ((λ i. to p ((y.pairs_part p).0 i)), (λ i. back p i));
  }
    where
      first : (p : ℕ × Pos) → In p ms ⊎ In p (waiting a) → In p (ms ++ ns) ⊎ In p (waiting a)
      first p (inl i) = inl (in_append_left ms ns p i)
      first p (inr i) = inr i

      to : (p : ℕ × Pos) → In p ns ⊎ In p (waiting b) → In p (ms ++ ns) ⊎ In p (waiting a)
      to p (inl i) = inl (in_append_right ms ns p i)
      to p (inr i) = first p ((x.pairs_part p).0 i)

      split : (p : ℕ × Pos) → In p ms ⊎ In p ns → In p (waiting c)
      split p (inl i) = (y.pairs_part p).1 (inr ((x.pairs_part p).1 (inl i)))
      split p (inr i) = (y.pairs_part p).1 (inl i)

      back : (p : ℕ × Pos) → In p (ms ++ ns) ⊎ In p (waiting a) → In p (waiting c)
      back p (inl i) = split p (append_in ms ns p i)
      back p (inr i) = (y.pairs_part p).1 (inr ((x.pairs_part p).1 (inr i)))

  pub adds_same : (a b : Findings) (f g : ℕ → Bool) (ms ns : List (ℕ × Pos)) → ((k : ℕ) → k ≤ MOST_WORST → f k ≡ g k) → ms ≡ ns → Adds d trees a b f ms → Adds d trees a b g ns
  adds_same a b f g ms ns same pairs x = record {
    enough_part = λ k small. x.enough_part k small ∙ ap (λ e. e && enough d trees a k) (same k small);
    pairs_part = subst (λ ps. (y : ℕ × Pos) → (In y (waiting b) → In y ps ⊎ In y (waiting a)) × (In y ps ⊎ In y (waiting a) → In y (waiting b))) pairs x.pairs_part;
  }

module _ {K : Type 0} (d : Dialect) (lt : K → K → Bool) (links : List (K × ℕ)) (done : ℕ) where
  -- one
  pub link_one : (a b : Findings) (o : K × Pos) → ((d : Dialect) (trees : List NodeTree) → Adds d trees a b (λ k. wins_other (chess d) (led_to trees (first_to lt links o.0)) o.1 (k - done)) (pair_at (chess d) (first_to lt links o.0) o.1)) → LinksAdd d lt links done a b (o ∷ [])
  link_one a b o h trees =
      adds_same d trees a b _ _ _ _ (λ k small. sym (and_true (link_held d lt links done trees k o))) (sym (append-nil (pair_at (chess d) (first_to lt links o.0) o.1))) (h d trees)

  -- and more
  pub links_more : (a b c : Findings) (os ps : List (K × Pos)) → LinksAdd d lt links done a b os → LinksAdd d lt links done b c ps → LinksAdd d lt links done a c (os ++ ps)
  links_more a b c os ps x y trees =
      let to = λ (o : K × Pos). pair_at (chess d) (first_to lt links o.0) o.1 in
      adds_same d trees a c _ _ _ _ (λ k small. sym (list_all-append (link_held d lt links done trees k) os ps)) (sym (flat_map-append to os ps))
      (adds_then d trees a b c (λ k. list_all (link_held d lt links done trees k) os) (λ k. list_all (link_held d lt links done trees k) ps) (flat_map to os) (flat_map to ps) (x trees) (y trees))

  -- one, by the number that was found
  pub link_by : (a b : Findings) (o : K × Pos) (to : Option ℕ) (p : Pos) → to ≡ first_to lt links o.0 → p ≡ o.1 →
      ((d : Dialect) (trees : List NodeTree) → Adds d trees a b (λ k. wins_other (chess d) (led_to trees to) p (k - done)) (pair_at (chess d) to p)) → LinksAdd d lt links done a b (o ∷ [])
  link_by a b o to p e f h =
      let T : Option ℕ → Pos → Type 0 = λ t x. (d : Dialect) (trees : List NodeTree) → Adds d trees a b (λ k. wins_other (chess d) (led_to trees t) x (k - done)) (pair_at (chess d) t x) in
      link_one a b o (subst (λ t. T t o.1) e (subst (λ x. T to x) f h))

  -- the outcome of one item more
  pub links_step : {X : Type 0} (f : X → K × Pos) (a b c : Findings) (xs : List X) (i : ℕ) (x : X) → i < length xs → x ≡ get_or xs i x → LinksAdd d lt links done a b (map f (take i xs)) → LinksAdd d lt links done b c (f x ∷ []) →
      LinksAdd d lt links done a c (map f (take (i + 1) xs))
  links_step f a b c xs i x within is h k =
      subst (λ os. LinksAdd d lt links done a c os) (sym (map_more f xs i x within))
      (links_more a b c (map f (take i xs)) (f (get_or xs i x) ∷ []) h (subst (λ y. LinksAdd d lt links done b c (f y ∷ [])) is k))

  pub links_all : {X : Type 0} (f : X → K × Pos) (a b : Findings) (xs ys : List X) (i : ℕ) → length xs ≤ i → xs ≡ ys → LinksAdd d lt links done a b (map f (take i xs)) → LinksAdd d lt links done a b (map f ys)
  links_all f a b xs ys i past is h = subst (λ zs. LinksAdd d lt links done a b (map f zs)) (take_all i xs past ∙ is) h
