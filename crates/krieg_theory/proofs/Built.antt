-- Where the recursion holds, the canonical tree wins all of the set.
use Rattle.std.proofs.Common.{◌≡◌, ℕ, zero, suc, ◌≤◌, true, false, not, ◌⊎◌, List, [], ◌∷◌, length, refl, sym, ap, subst, inl, inr, ◌∙◌, arith}
use Rattle.std.proofs.lemmas.Bool.{and_parts, and_from, cases_Bool, not_from_false, cond-true, cond-false, both_ways, false_from_ne_true}
use Rattle.krieg_theory.proofs.Common.{In, is_nil, Tree, Try, Maybe, Nothing, Just, Edges, NoEdges, Edge, Game, IsGame, wins, wins_other, wins_at, WinsAll, refused, legal_in_some, all_outcomes, class, keys, begins, can, edge_with, edges_of, node_of, other_of, newly, canon, same}
use Rattle.krieg_theory.proofs.Lists.{find_at, all_at, all_from, in_filter, nil_none}
use Rattle.krieg_theory.proofs.Steps.{Begins, in_outs, in_class, begins_at, can_at, refused_lt}
use Rattle.krieg_theory.proofs.Ascending.{same_refl, same_eq}
use Rattle.krieg_theory.proofs.Keys.{key_occurs}

module _ (G : Game) where
  mutual
    -- more moves do no harm
    pub wins_more : (n : Tree G.Move G.Key) (p : G.Position) (k : ℕ) → wins G n p k ≡ true → wins G n p (suc k) ≡ true
    wins_more (Try t other es) p zero w = absurd (both_ways false refl w)
    wins_more (Try t other es) p (suc k) w = go (cases_Bool (G.legal p t)) (other_more other p (suc k)) (λ key q. edge_more es key q k)
      where
        go : (G.legal p t ≡ true) ⊎ (G.legal p t ≡ false)
            → (wins_other G other p (suc k) ≡ true → wins_other G other p (suc (suc k)) ≡ true)
            → ((key : G.Key) (q : G.Position) → wins_at G es key q k ≡ true → wins_at G es key q (suc k) ≡ true)
            → wins G (Try t other es) p (suc (suc k)) ≡ true
        go (inl e) a b =
            let v = and_parts _ _ (sym (cond-true (G.legal p t) _ _ e) ∙ w) in
            cond-true (G.legal p t) _ _ e ∙ and_from _ _ v.0 (all_from (λ o. wins_at G es o.0 o.1 (suc k)) (G.outcomes p t) (λ o i. b o.0 o.1 (all_at (λ o. wins_at G es o.0 o.1 k) (G.outcomes p t) v.1 o i)))
        go (inr e) a b = cond-false (G.legal p t) _ _ e ∙ a (sym (cond-false (G.legal p t) _ _ e) ∙ w)

    other_more : (n : Maybe G.Move G.Key) (p : G.Position) (k : ℕ) → wins_other G n p k ≡ true → wins_other G n p (suc k) ≡ true
    other_more Nothing p k w = w
    other_more (Just n) p k w = wins_more n p k w

    edge_more : (es : Edges G.Move G.Key) (key : G.Key) (p : G.Position) (k : ℕ) → wins_at G es key p k ≡ true → wins_at G es key p (suc k) ≡ true
    edge_more NoEdges key p k w = w
    edge_more (Edge key' n es) key p k w = go (cases_Bool (same G.key_lt key' key)) (wins_more n p k) (edge_more es key p k)
      where
        go : (same G.key_lt key' key ≡ true) ⊎ (same G.key_lt key' key ≡ false)
            → (wins G n p k ≡ true → wins G n p (suc k) ≡ true)
            → (wins_at G es key p k ≡ true → wins_at G es key p (suc k) ≡ true)
            → wins_at G (Edge key' n es) key p (suc k) ≡ true
        go (inl e) a b = cond-true (same G.key_lt key' key) _ _ e ∙ a (sym (cond-true (same G.key_lt key' key) _ _ e) ∙ w)
        go (inr e) a b = cond-false (same G.key_lt key' key) _ _ e ∙ b (sym (cond-false (same G.key_lt key' key) _ _ e) ∙ w)

module _ (G : Game) (L : IsGame G) where
  -- what is found at a key of the list of edges
  at_edges : (ks : List G.Key) (f : G.Key → Maybe G.Move G.Key) (key : G.Key) (n : Tree G.Move G.Key) (q : G.Position) (j : ℕ) → In key ks → f key ≡ Just n → wins G n q j ≡ true → wins_at G (edges_of G ks f) key q j ≡ true
  at_edges [] f key n q j i e w = absurd i
  at_edges (k ∷ ks) f key n q j i e w = go (cases_Bool (same G.key_lt k key)) i (λ i. at_edges ks f key n q j i e w)
    where
      skip : (m : Maybe G.Move G.Key) → same G.key_lt k key ≡ false → wins_at G (edges_of G ks f) key q j ≡ true → wins_at G (edge_with G k m (edges_of G ks f)) key q j ≡ true
      skip Nothing d r = r
      skip (Just x) d r = cond-false (same G.key_lt k key) _ _ d ∙ r

      go : (same G.key_lt k key ≡ true) ⊎ (same G.key_lt k key ≡ false) → (k ≡ key) ⊎ In key ks → (In key ks → wins_at G (edges_of G ks f) key q j ≡ true) → wins_at G (edges_of G (k ∷ ks) f) key q j ≡ true
      go (inl d) s r = subst (λ m. wins_at G (edge_with G k m (edges_of G ks f)) key q j ≡ true) (sym (ap f (same_eq G.key_lt L.key_order k key d) ∙ e)) (cond-true (same G.key_lt k key) _ _ d ∙ w)
      go (inr d) (inl s) r = absurd (both_ways _ d (subst (λ z. same G.key_lt z key ≡ true) (sym s) (same_refl G.key_lt L.key_order key)))
      go (inr d) (inr s) r = skip (f k) d (r s)

  -- the tree of the set, that wins all of it
  abbrev pub Won : Maybe G.Move G.Key → List G.Position → ℕ → Type 0
  Won m B j = (n : Tree G.Move G.Key) × (m ≡ Just n) × WinsAll G n B j

  -- a try that meets the conditions begins a node that wins all of the set
  pub build : (t : G.Move) (B : List G.Position) (j : ℕ) (other : List G.Position → Maybe G.Move G.Key) (below : List G.Position → Maybe G.Move G.Key)
      → ((C : List G.Position) → can G j C ≡ true → Won (below C) C j)
      → (is_nil (refused G B t) ≡ false → can G (suc j) (refused G B t) ≡ true → Won (other (refused G B t)) (refused G B t) (suc j))
      → begins G (suc j) B t ≡ true
      → WinsAll G (Try t (other (refused G B t)) (edges_of G (keys G B t) (λ key. below (class G B t key)))) B (suc j)
  build t B j other below for_class for_other h p i = go (cases_Bool (G.legal p t))
    where
      b : Begins G (can G j) (can G (suc j)) B t
      b = begins_at G L (can G j) (can G (suc j)) B t h

      es : Edges G.Move G.Key
      es = edges_of G (keys G B t) (λ key. below (class G B t key))

      not_nil : In p (refused G B t) → is_nil (refused G B t) ≡ false
      not_nil r = false_from_ne_true _ (λ e. nil_none (refused G B t) e p r)

      refuses : In p (refused G B t) → (is_nil (refused G B t) ≡ true) ⊎ (can G (suc j) (refused G B t) ≡ true) → wins_other G (other (refused G B t)) p (suc j) ≡ true
      refuses r (inl e) = absurd (nil_none (refused G B t) e p r)
      refuses r (inr c) =
          let a = for_other (not_nil r) c in
          subst (λ m. wins_other G m p (suc j) ≡ true) (sym a.1) (a.2 p r)

      replies : G.legal p t ≡ true → (o : G.Key × G.Position) → In o (G.outcomes p t) → wins_at G es o.0 o.1 j ≡ true
      replies e o r =
          let a = for_class (class G B t o.0) (b.classes p i e o r) in
          at_edges (keys G B t) (λ key. below (class G B t key)) o.0 a.0 o.1 j (key_occurs G.key_lt L.key_order (all_outcomes G B t) o (in_outs G L B t p o i e r)) a.1 (a.2 o.1 (in_class G L B t p o i e r))

      go : (G.legal p t ≡ true) ⊎ (G.legal p t ≡ false) → wins G (Try t (other (refused G B t)) es) p (suc j) ≡ true
      go (inl e) = cond-true (G.legal p t) _ _ e ∙ and_from _ _ (not_from_false _ (b.none_stale p i e)) (all_from (λ o. wins_at G es o.0 o.1 j) (G.outcomes p t) (replies e))
      go (inr e) = cond-false (G.legal p t) _ _ e ∙ refuses (in_filter (λ p. not (G.legal p t)) B p i (not_from_false _ e)) b.others

  newly_wins : (j : ℕ) → ((C : List G.Position) → can G j C ≡ true → Won (canon G j C) C j) → (n : ℕ) (B : List G.Position) → length B ≤ n → can G (suc j) B ≡ true → Won (newly G j (canon G j) n B) B (suc j)
  newly_wins j ih zero [] h c = absurd (both_ways false refl c)
  newly_wins j ih zero (p ∷ B) h c = absurd (omega arith)
  newly_wins j ih (suc n) B h c =
      let a = can_at G L j B c in
      let f = find_at (begins G (suc j) B) G.moves a.0 a.1 a.2 in
      let b = begins_at G L (can G j) (can G (suc j)) B f.0 f.2 in
      let some = (and_parts (legal_in_some G B f.0) _ f.2).0 in
      let lt = refused_lt G L B f.0 some in
      let here = newly_wins j ih n (refused G B f.0) (omega arith) in
      let w = build f.0 B j (other_of G j (canon G j) (newly G j (canon G j) n)) (canon G j) ih (other_part (refused G B f.0) here) f.2 in
      (_, ap (λ o. node_of G o (λ t. other_of G j (canon G j) (newly G j (canon G j) n) (refused G B t)) (λ t. edges_of G (keys G B t) (λ key. canon G j (class G B t key)))) f.1, w)
    where
      weaker : (m : Maybe G.Move G.Key) (R : List G.Position) → Won m R j → Won m R (suc j)
      weaker m R a = (a.0, a.1, λ p i. wins_more G a.0 p j (a.2 p i))

      other_part : (R : List G.Position) → (can G (suc j) R ≡ true → Won (newly G j (canon G j) n R) R (suc j)) → is_nil R ≡ false → can G (suc j) R ≡ true → Won (other_of G j (canon G j) (newly G j (canon G j) n) R) R (suc j)
      other_part R here e c = go (cases_Bool (can G j R))
        where
          go : (can G j R ≡ true) ⊎ (can G j R ≡ false) → Won (other_of G j (canon G j) (newly G j (canon G j) n) R) R (suc j)
          go (inl d) = subst (λ m. Won m R (suc j)) (sym (cond-false (is_nil R) _ _ e ∙ cond-true (can G j R) _ _ d)) (weaker (canon G j R) R (ih R d))
          go (inr d) = subst (λ m. Won m R (suc j)) (sym (cond-false (is_nil R) _ _ e ∙ cond-false (can G j R) _ _ d)) (here c)

  -- a set of which the recursion holds is won by its canonical node
  pub canon_wins : (j : ℕ) (B : List G.Position) → can G j B ≡ true → Won (canon G j B) B j
  canon_wins zero B c = absurd (both_ways false refl c)
  canon_wins (suc j) B c = go (cases_Bool (can G j B)) (canon_wins j)
    where
      go : (can G j B ≡ true) ⊎ (can G j B ≡ false) → ((C : List G.Position) → can G j C ≡ true → Won (canon G j C) C j) → Won (canon G (suc j) B) B (suc j)
      go (inl e) ih =
          let a = ih B e in
          subst (λ m. Won m B (suc j)) (sym (cond-true (can G j B) _ _ e)) (a.0, a.1, λ p i. wins_more G a.0 p j (a.2 p i))
      go (inr e) ih = subst (λ m. Won m B (suc j)) (sym (cond-false (can G j B) _ _ e)) (newly_wins j ih (length B) B (omega arith) c)
