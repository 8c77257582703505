-- What each block says of its try.
use Rattle.std.proofs.Common.{◌≡◌, ℕ, zero, suc, ◌<◌, Bool, true, false, cond, not, ◌&&◌, ◌||◌, ◌⊎◌, List, [], ◌∷◌, find, Option, Some, None, refl, sym, subst, inl, inr, ◌∙◌, arith}
use Rattle.std.specs.Prelude.{◌==◌, IfSome}
use Rattle.std.specs.List.{list_all}
use Rattle.std.proofs.lemmas.Bool.{cases_Bool, cond-true, cond-false, both_ways, and_parts, and_from, and_cases, or_cases, or_parts, not-true, not_from_false, eqb-true, eqb-false, false_from_ne_true, true_from_ne_false}
use Rattle.krieg_costs.proofs.Common.{In, is_nil, Game, IsGame, refused, legal_in_some, stale_in_some, all_outcomes, keys, class, mates_at, can, begins, Block, Lives, Stale, LostClass, LostRefused, NoBlock, lives_in_some, by_class, block, pair_of, BlockIsThere, BlockIsLost}
use Rattle.krieg_theory.proofs.Lists.{all_at, all_from, any_at, any_from, nil_or_member}
use Rattle.krieg_theory.proofs.Keys.{key_occurs, occurs_at}
use Rattle.krieg_theory.proofs.Steps.{in_outs, outs_in}
use Rattle.krieg_costs.proofs.Reached.{class_some}

module _ {X : Type 0} where
  -- what is found passes, and stands in the list
  pub found : (f : X → Bool) (xs : List X) (x : X) → find f xs ≡ Some x → In x xs × (f x ≡ true)
  found f [] x e = absurd (cc)
  found f (y ∷ ys) x e = go (cases_Bool (f y)) (found f ys x)
    where
      go : (f y ≡ true) ⊎ (f y ≡ false) → (find f ys ≡ Some x → In x ys × (f x ≡ true)) → In x (y ∷ ys) × (f x ≡ true)
      go (inl t) r =
          let q : Some y ≡ Some x = sym (cond-true (f y) (Some y) (find f ys) t) ∙ e in
          let s : y ≡ x = cc in
          (inl s, subst (λ z. f z ≡ true) s t)
      go (inr t) r = let b = r (sym (cond-false (f y) (Some y) (find f ys) t) ∙ e) in (inr b.0, b.1)

  -- where nothing is found, nothing passes
  pub none_found : (f : X → Bool) (xs : List X) → find f xs ≡ None → (x : X) → In x xs → f x ≡ false
  none_found f [] e x i = absurd i
  none_found f (y ∷ ys) e x i = go (cases_Bool (f y)) i (none_found f ys)
    where
      go : (f y ≡ true) ⊎ (f y ≡ false) → (y ≡ x) ⊎ In x ys → (find f ys ≡ None → (x : X) → In x ys → f x ≡ false) → f x ≡ false
      go (inl t) s r = let q : ◌≡◌ {A = Option X} (Some y) None = sym (cond-true (f y) (Some y) (find f ys) t) ∙ e in absurd (cc)
      go (inr t) (inl s) r = subst (λ z. f z ≡ false) s t
      go (inr t) (inr s) r = r (sym (cond-false (f y) (Some y) (find f ys) t) ∙ e) x s

module _ (G : Game) (L : IsGame G) where
  -- in some member the try is legal and does not mate: it stalemates, or something may be heard
  pub lives_how : (B : List G.Position) (t : G.Move) → lives_in_some G B t ≡ true → (stale_in_some G B t ≡ true) ⊎ ((key : G.Key) × In key (keys G B t))
  lives_how B t h = go (any_at (λ p. G.legal p t && not (mates_at G p t)) B h)
    where
      go : ((p : G.Position) × In p B × ((G.legal p t && not (mates_at G p t)) ≡ true)) → (stale_in_some G B t ≡ true) ⊎ ((key : G.Key) × In key (keys G B t))
      go s = by_stale (and_cases (not (G.stalemates s.0 t)) (is_nil (G.outcomes s.0 t)) (rest (and_cases (G.legal s.0 t) _ (not-true _ b.1))))
        where
          b : (G.legal s.0 t ≡ true) × (not (mates_at G s.0 t) ≡ true)
          b = let c = and_parts (G.legal s.0 t) (not (mates_at G s.0 t)) s.2 in (c.0, c.1)

          rest : (G.legal s.0 t ≡ false) ⊎ ((not (G.stalemates s.0 t) && is_nil (G.outcomes s.0 t)) ≡ false) → (not (G.stalemates s.0 t) && is_nil (G.outcomes s.0 t)) ≡ false
          rest (inl e) = absurd (both_ways _ e b.0)
          rest (inr e) = e

          by_outcome : (is_nil (G.outcomes s.0 t) ≡ true) ⊎ ((o : G.Key × G.Position) × In o (G.outcomes s.0 t)) → is_nil (G.outcomes s.0 t) ≡ false → (key : G.Key) × In key (keys G B t)
          by_outcome (inl e) n = absurd (both_ways _ n e)
          by_outcome (inr o) n = (o.0.0, key_occurs G.key_lt L.key_order (all_outcomes G B t) o.0 (in_outs G L B t s.0 o.0 s.1 b.0 o.1))

          by_stale : (not (G.stalemates s.0 t) ≡ false) ⊎ (is_nil (G.outcomes s.0 t) ≡ false) → (stale_in_some G B t ≡ true) ⊎ ((key : G.Key) × In key (keys G B t))
          by_stale (inl e) = inl (any_from (λ p. G.legal p t && G.stalemates p t) B s.0 s.1 (and_from _ _ b.0 (true_from_ne_false _ (λ f. both_ways _ e (not_from_false _ f)))))
          by_stale (inr e) = inr (by_outcome (nil_or_member (G.outcomes s.0 t)) e)

  -- and the other way round
  pub lives_by_key : (B : List G.Position) (t : G.Move) (key : G.Key) → In key (keys G B t) → lives_in_some G B t ≡ true
  lives_by_key B t key i =
      let o = occurs_at G.key_lt L.key_order (all_outcomes G B t) key i in
      let f = outs_in G L B t o.0 o.1 in
      any_from (λ p. G.legal p t && not (mates_at G p t)) B f.0 f.1 (and_from _ _ f.2 (not_from_false _ (false_from_ne_true _ (λ m. empty f.0 o.0 f.3 (and_parts (not (G.stalemates f.0 t)) _ (and_parts (G.legal f.0 t) _ m).1).1))))
    where
      empty : (p : G.Position) (o : G.Key × G.Position) → In o (G.outcomes p t) → is_nil (G.outcomes p t) ≡ true → ⊥
      empty p o i e = Rattle.krieg_theory.proofs.Lists.nil_none (G.outcomes p t) e o i

  -- what each block says, for the number j + 1
  abbrev pub BlockSays : ℕ → List G.Position → G.Move → Block G.Key → Type 0
  BlockSays j B t Lives = (j ≡ 0) × (lives_in_some G B t ≡ true)
  BlockSays j B t Stale = stale_in_some G B t ≡ true
  BlockSays j B t (LostClass key) = In key (keys G B t) × (can G j (class G B t key) ≡ false) × (0 < j)
  BlockSays j B t LostRefused = (is_nil (refused G B t) ≡ false) × (can G (suc j) (refused G B t) ≡ false)
  BlockSays j B t NoBlock = (stale_in_some G B t ≡ false) × ((key : G.Key) → In key (keys G B t) → can G j (class G B t key) ≡ true) × ((is_nil (refused G B t) || can G (suc j) (refused G B t)) ≡ true)

  pub block_says : (j : ℕ) (B : List G.Position) (t : G.Move) → BlockSays j B t (block G (suc j) B t)
  block_says j B t = first (cases_Bool ((j == 0) && lives_in_some G B t))
    where
      lost : G.Key → Bool
      lost key = not (can G j (class G B t key))

      classes : ((j == 0) && lives_in_some G B t) ≡ false → stale_in_some G B t ≡ false → (o : Option G.Key) → find (λ key. not (can G j (class G B t key))) (keys G B t) ≡ o → BlockSays j B t (by_class G (suc j) B t o)
      classes n s (Some key) e =
          let f = found (λ key. not (can G j (class G B t key))) (keys G B t) key e in
          (f.0, not-true _ f.1, more (and_cases (j == 0) _ n) f.0)
        where
          more : ((j == 0) ≡ false) ⊎ (lives_in_some G B t ≡ false) → In key (keys G B t) → 0 < j
          more (inl d) i = let x = eqb-false j 0 d in omega arith
          more (inr d) i = absurd (both_ways _ d (lives_by_key B t key i))
      classes n s None e = rest (cases_Bool (is_nil (refused G B t) || can G (suc j) (refused G B t)))
        where
          rest : ((is_nil (refused G B t) || can G (suc j) (refused G B t)) ≡ true) ⊎ ((is_nil (refused G B t) || can G (suc j) (refused G B t)) ≡ false) → BlockSays j B t (cond (is_nil (refused G B t) || can G (suc j) (refused G B t)) NoBlock LostRefused)
          rest (inl d) = subst (BlockSays j B t) (sym (cond-true _ _ _ d)) (s, λ key i. true_from_ne_false _ (λ f. both_ways _ (none_found (λ key. not (can G j (class G B t key))) (keys G B t) e key i) (not_from_false _ f)), d)
          rest (inr d) = let p = or_parts (is_nil (refused G B t)) _ d in subst (BlockSays j B t) (sym (cond-false _ _ _ d)) (p.0, p.1)

      second : ((j == 0) && lives_in_some G B t) ≡ false → (stale_in_some G B t ≡ true) ⊎ (stale_in_some G B t ≡ false) → BlockSays j B t (cond (stale_in_some G B t) Stale (by_class G (suc j) B t (find (λ key. not (can G j (class G B t key))) (keys G B t))))
      second n (inl s) = subst (BlockSays j B t) (sym (cond-true _ _ _ s)) s
      second n (inr s) = subst (BlockSays j B t) (sym (cond-false _ _ _ s)) (classes n s (find (λ key. not (can G j (class G B t key))) (keys G B t)) refl)

      first : (((j == 0) && lives_in_some G B t) ≡ true) ⊎ (((j == 0) && lives_in_some G B t) ≡ false) → BlockSays j B t (block G (suc j) B t)
      first (inl e) = let p = and_parts (j == 0) _ e in subst (BlockSays j B t) (sym (cond-true _ _ _ e)) (eqb-true j 0 p.0, p.1)
      first (inr e) = subst (BlockSays j B t) (sym (cond-false _ _ _ e)) (second e (cases_Bool (stale_in_some G B t)))

  -- where nothing stalemates and every class is won, nothing lives past the last move
  pub no_life : (j : ℕ) (B : List G.Position) (t : G.Move) → stale_in_some G B t ≡ false → list_all (λ key. can G j (class G B t key)) (keys G B t) ≡ true → j ≡ 0 → (stale_in_some G B t ≡ true) ⊎ ((key : G.Key) × In key (keys G B t)) → ⊥
  no_life j B t none all e (inl s) = both_ways _ none s
  no_life j B t none all e (inr k) = both_ways false refl (subst (λ i. can G i (class G B t k.0) ≡ true) e (all_at (λ key. can G j (class G B t key)) (keys G B t) all k.0 k.1))

  -- a try that meets its conditions has no block
  pub begins_unblocked : (j : ℕ) (B : List G.Position) (t : G.Move) → begins G (suc j) B t ≡ true → block G (suc j) B t ≡ NoBlock
  begins_unblocked j B t h = go (block G (suc j) B t) (block_says j B t)
    where
      a : (legal_in_some G B t ≡ true) × ((not (stale_in_some G B t) && (list_all (λ key. can G j (class G B t key)) (keys G B t) && (is_nil (refused G B t) || can G (suc j) (refused G B t)))) ≡ true)
      a = let x = and_parts (legal_in_some G B t) _ h in (x.0, x.1)

      no_stale : stale_in_some G B t ≡ false
      no_stale = not-true _ (and_parts (not (stale_in_some G B t)) _ a.1).0

      c : (list_all (λ key. can G j (class G B t key)) (keys G B t) ≡ true) × ((is_nil (refused G B t) || can G (suc j) (refused G B t)) ≡ true)
      c = let x = and_parts (list_all (λ key. can G j (class G B t key)) (keys G B t)) _ (and_parts (not (stale_in_some G B t)) _ a.1).1 in (x.0, x.1)

      go : (b : Block G.Key) → BlockSays j B t b → b ≡ NoBlock
      go Lives s = absurd (no_life j B t no_stale c.0 s.0 (lives_how B t s.1))
      go Stale s = absurd (both_ways _ no_stale s)
      go (LostClass key) s = absurd (both_ways _ s.1 (all_at (λ key. can G j (class G B t key)) (keys G B t) c.0 key s.0))
      go LostRefused s = absurd (refuse (or_cases _ _ c.1))
        where
          refuse : (is_nil (refused G B t) ≡ true) ⊎ (can G (suc j) (refused G B t) ≡ true) → ⊥
          refuse (inl e) = both_ways _ s.0 e
          refuse (inr e) = both_ways _ s.1 e
      go NoBlock s = refl

  pub unblocked_begins : (j : ℕ) (B : List G.Position) (t : G.Move) → legal_in_some G B t ≡ true → block G (suc j) B t ≡ NoBlock → begins G (suc j) B t ≡ true
  unblocked_begins j B t l e =
      let s : BlockSays j B t NoBlock = subst (BlockSays j B t) e (block_says j B t) in
      and_from _ _ l (and_from _ _ (not_from_false _ s.0) (and_from _ _ (all_from (λ key. can G j (class G B t key)) (keys G B t) s.1) s.2))

  pub block_is_there : BlockIsThere G
  block_is_there B zero t h l = absurd (omega arith)
  block_is_there B (suc j) t h l = (unblocked_begins j B t l, begins_unblocked j B t)

  pub block_is_lost : BlockIsLost G
  block_is_lost B zero t = tt
  block_is_lost B (suc j) t = go (block G (suc j) B t) (block_says j B t)
    where
      go : (b : Block G.Key) → BlockSays j B t b → IfSome (pair_of G j B t b) (λ q. (is_nil q.0 ≡ false) × (0 < q.1) × (can G q.1 q.0 ≡ false))
      go Lives s = tt
      go Stale s = tt
      go (LostClass key) s = (class_some G L B t key s.0, s.2, s.1)
      go LostRefused s = (s.0, omega arith, s.1)
      go NoBlock s = tt
