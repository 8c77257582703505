-- Each tree that wins all of a set shows that the recursion holds of it.
use Rattle.std.proofs.Common.{◌≡◌, ℕ, zero, suc, true, false, not, ◌&&◌, ◌⊎◌, List, refl, sym, subst, inl, inr, ◌∙◌}
use Rattle.std.specs.List.{list_all}
use Rattle.std.proofs.lemmas.Bool.{and_parts, cases_Bool, not-true, cond-true, cond-false, both_ways}
use Rattle.krieg_theory.proofs.Common.{In, is_nil, Tree, Try, Maybe, Nothing, Just, Edges, NoEdges, Edge, Game, IsGame, wins, wins_other, wins_at, WinsAll, refused, legal_in_some, class, begins, can, same}
use Rattle.krieg_theory.proofs.Lists.{all_at, any_at, any_none, filter_in, nil_or_member}
use Rattle.krieg_theory.proofs.Steps.{Member, in_class, class_in, begins_from, can_from}

module _ (G : Game) (L : IsGame G) where
  -- what a win says where the try is legal, and where it is not
  pub legal_part : (t : G.Move) (other : Maybe G.Move G.Key) (es : Edges G.Move G.Key) (p : G.Position) (j : ℕ) → wins G (Try t other es) p (suc j) ≡ true → G.legal p t ≡ true → (not (G.stalemates p t) && list_all (λ o. wins_at G es o.0 o.1 j) (G.outcomes p t)) ≡ true
  legal_part t other es p j w e = sym (cond-true (G.legal p t) _ _ e) ∙ w

  pub other_part : (t : G.Move) (other : Maybe G.Move G.Key) (es : Edges G.Move G.Key) (p : G.Position) (j : ℕ) → wins G (Try t other es) p (suc j) ≡ true → G.legal p t ≡ false → wins_other G other p (suc j) ≡ true
  other_part t other es p j w e = sym (cond-false (G.legal p t) _ _ e) ∙ w

  -- the try of a node that wins all of B meets the conditions, where the parts below do
  meets : (t : G.Move) (other : Maybe G.Move G.Key) (es : Edges G.Move G.Key) (B : List G.Position) (j : ℕ)
      → ((R : List G.Position) → Member R → ((p : G.Position) → In p R → wins_other G other p (suc j) ≡ true) → can G (suc j) R ≡ true)
      → ((key : G.Key) (C : List G.Position) → Member C → ((p : G.Position) → In p C → wins_at G es key p j ≡ true) → can G j C ≡ true)
      → WinsAll G (Try t other es) B (suc j) → legal_in_some G B t ≡ true
      → begins G (suc j) B t ≡ true
  meets t other es B j for_other for_edge w some = begins_from G L (can G j) (can G (suc j)) B t (record {
    some = any_at' some;
    none_stale = λ p i e. not-true _ (and_parts _ _ (legal_part t other es p j (w p i) e)).0;
    classes = λ p i e o r. for_edge o.0 (class G B t o.0) (o.1, in_class G L B t p o i e r) (λ q iq.
        let c = class_in G L B t o.0 q iq in
        let a = all_at (λ x. wins_at G es x.0 x.1 j) (G.outcomes c.from t) (and_parts _ _ (legal_part t other es c.from j (w c.from c.member) c.legal)).1 c.out c.reply in
        subst (λ x. wins_at G es o.0 x j ≡ true) c.to (subst (λ x. wins_at G es x c.out.1 j ≡ true) c.key_is a));
    others = refused_part (nil_or_member (refused G B t));
  })
    where
      any_at' : legal_in_some G B t ≡ true → (p : G.Position) × In p B × (G.legal p t ≡ true)
      any_at' h = any_at (λ p. G.legal p t) B h

      refused_part : (is_nil (refused G B t) ≡ true) ⊎ Member (refused G B t) → (is_nil (refused G B t) ≡ true) ⊎ (can G (suc j) (refused G B t) ≡ true)
      refused_part (inl e) = inl e
      refused_part (inr m) = inr (for_other (refused G B t) m (λ p i.
          let f = filter_in (λ p. not (G.legal p t)) B p i in
          other_part t other es p j (w p f.0) (not-true _ f.1)))

  mutual
    -- some node that wins all of B within j shows Can
    pub node_shows : (n : Tree G.Move G.Key) (B : List G.Position) (j : ℕ) → Member B → WinsAll G n B j → can G j B ≡ true
    node_shows (Try t other es) B zero m w = absurd (both_ways false refl (w m.0 m.1))
    node_shows (Try t other es) B (suc j) m w = go (cases_Bool (legal_in_some G B t)) (λ R. other_shows other R (suc j)) (λ key C. edge_shows es key C j)
      where
        go : (legal_in_some G B t ≡ true) ⊎ (legal_in_some G B t ≡ false)
            → ((R : List G.Position) → Member R → ((p : G.Position) → In p R → wins_other G other p (suc j) ≡ true) → can G (suc j) R ≡ true)
            → ((key : G.Key) (C : List G.Position) → Member C → ((p : G.Position) → In p C → wins_at G es key p j ≡ true) → can G j C ≡ true)
            → can G (suc j) B ≡ true
        go (inl e) a b = can_from G L j B t (meets t other es B j a b w e)
        go (inr e) a b = a B m (λ p i. other_part t other es p j (w p i) (any_none (λ p. G.legal p t) B e p i))

    pub other_shows : (n : Maybe G.Move G.Key) (B : List G.Position) (j : ℕ) → Member B → ((p : G.Position) → In p B → wins_other G n p j ≡ true) → can G j B ≡ true
    other_shows Nothing B j m w = absurd (both_ways false refl (w m.0 m.1))
    other_shows (Just n) B j m w = node_shows n B j m w

    pub edge_shows : (es : Edges G.Move G.Key) (key : G.Key) (B : List G.Position) (j : ℕ) → Member B → ((p : G.Position) → In p B → wins_at G es key p j ≡ true) → can G j B ≡ true
    edge_shows NoEdges key B j m w = absurd (both_ways false refl (w m.0 m.1))
    edge_shows (Edge key' n es) key B j m w = go (cases_Bool (same G.key_lt key' key)) (node_shows n B j m) (edge_shows es key B j m)
      where
        go : (same G.key_lt key' key ≡ true) ⊎ (same G.key_lt key' key ≡ false)
            → (WinsAll G n B j → can G j B ≡ true)
            → (((p : G.Position) → In p B → wins_at G es key p j ≡ true) → can G j B ≡ true)
            → can G j B ≡ true
        go (inl e) a b = a (λ p i. sym (cond-true (same G.key_lt key' key) _ _ e) ∙ w p i)
        go (inr e) a b = b (λ p i. sym (cond-false (same G.key_lt key' key) _ _ e) ∙ w p i)

  -- a try that begins a node which wins all of B meets the conditions
  pub try_meets : (t : G.Move) (other : Maybe G.Move G.Key) (es : Edges G.Move G.Key) (B : List G.Position) (j : ℕ) → WinsAll G (Try t other es) B (suc j) → legal_in_some G B t ≡ true → begins G (suc j) B t ≡ true
  try_meets t other es B j w some = meets t other es B j (λ R. other_shows other R (suc j)) (λ key C. edge_shows es key C j) w some
