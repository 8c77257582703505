-- The computed tree is canonical.
use Rattle.std.proofs.Common.{◌≡◌, ℕ, zero, suc, ◌≤◌, ◌<◌, true, false, ◌⊎◌, List, [], ◌∷◌, length, Some, refl, sym, ap, subst, inl, inr, ◌∙◌, arith}
use Rattle.std.proofs.lemmas.Bool.{and_parts, cases_lt, cases_Bool, cond-true, cond-false, both_ways, false_from_ne_true}
use Rattle.krieg_theory.proofs.Common.{In, is_nil, Tree, Try, Maybe, Nothing, Just, Edges, Game, IsGame, WinsAll, refused, legal_in_some, class, keys, begins, can, first_try, edge_keys, IsCanon, IsCanonOther, AreCanon, edge_with, edges_of, node_of, canon}
use Rattle.krieg_theory.proofs.Lists.{find_at, find_first}
use Rattle.krieg_theory.proofs.Steps.{begins_at, can_at, refused_lt}
use Rattle.krieg_theory.proofs.Shown.{node_shows, try_meets}
use Rattle.krieg_theory.proofs.Built.{canon_wins}
use Rattle.krieg_theory.proofs.Unique.{can_upto, member_of, part, canon_step, class_can}
use Rattle.krieg_theory.proofs.Ascending.{asym}

module _ (G : Game) (L : IsGame G) where
  -- what is computed for the set is canonical
  abbrev pub Made : Maybe G.Move G.Key → List G.Position → Type 0
  Made m B = (n : Tree G.Move G.Key) × (m ≡ Just n) × IsCanon G n B

  edges_are : (B : List G.Position) (t : G.Move) (f : G.Key → Maybe G.Move G.Key) (ks : List G.Key) → ((key : G.Key) → In key ks → Made (f key) (class G B t key)) → (edge_keys (edges_of G ks f) ≡ ks) × AreCanon G (edges_of G ks f) B t
  edges_are B t f [] h = (refl, tt)
  edges_are B t f (k ∷ ks) h =
      let a = h k (inl refl) in
      let r = edges_are B t f ks (λ key i. h key (inr i)) in
      let P : Maybe G.Move G.Key → Type 0 = λ m. (edge_keys (edge_with G k m (edges_of G ks f)) ≡ k ∷ ks) × AreCanon G (edge_with G k m (edges_of G ks f)) B t in
      subst P (sym a.1) (ap (λ xs. k ∷ xs) r.0, (a.2, r.1))

  made_new : (j : ℕ) → ((C : List G.Position) → can G j C ≡ true → Made (canon G j C) C) → (n : ℕ) (B : List G.Position) → length B ≤ n → can G j B ≡ false → can G (suc j) B ≡ true → Made (canon G (suc j) B) B
  made_new j ih zero [] h d c = absurd (both_ways false refl c)
  made_new j ih zero (p ∷ B) h d c = absurd (omega arith)
  made_new j ih (suc n) B h d c =
      let a = can_at G L j B c in
      let f = find_at (begins G (suc j) B) G.moves a.0 a.1 a.2 in
      let t = f.0 in
      let R = refused G B t in
      let some = (and_parts (legal_in_some G B t) _ f.2).0 in
      let lt = refused_lt G L B t some in
      let es = edges_of G (keys G B t) (λ key. canon G j (class G B t key)) in
      let are = edges_are B t (λ key. canon G j (class G B t key)) (keys G B t) (λ key i. ih (class G B t key) (class_can G L j B t f.2 key i)) in
      let e : canon G (suc j) B ≡ Just (Try t (part G L (suc j) R) es) = canon_step G L j B d ∙ ap (λ o. node_of G o (λ t. part G L (suc j) (refused G B t)) (λ t. edges_of G (keys G B t) (λ key. canon G j (class G B t key)))) f.1 in
      let w = canon_wins G L (suc j) B c in
      let same : w.0 ≡ Try t (part G L (suc j) R) es = (let q : Just w.0 ≡ Just (Try t (part G L (suc j) R) es) = sym w.1 ∙ e in cc) in
      let won : WinsAll G (Try t (part G L (suc j) R) es) B (suc j) = subst (λ x. WinsAll G x B (suc j)) same w.2 in (
        Try t (part G L (suc j) R) es,
        e,
        record {
          least = (suc j, record { some = (w.0, w.2); least = λ x i v. fewer x i v }, won, record { legal = some; first = first t f.1 });
          refused_part = refused_part R (begins_at G L (can G j) (can G (suc j)) B t f.2).others (λ k l. made_new j ih n R (omega arith) k l);
          same_keys = are.0;
          parts = are.1;
        },
      )
    where
      fewer : (x : Tree G.Move G.Key) (i : ℕ) → WinsAll G x B i → suc j ≤ i
      fewer x i v = at_most (cases_le (suc j) i)
        where
          cases_le : (a b : ℕ) → (a ≤ b) ⊎ (b < a)
          cases_le a b = ⊎_swap (cases_lt b a)
            where
              ⊎_swap : (b < a) ⊎ (a ≤ b) → (a ≤ b) ⊎ (b < a)
              ⊎_swap (inl x) = inr x
              ⊎_swap (inr x) = inl x

          at_most : (suc j ≤ i) ⊎ (i < suc j) → suc j ≤ i
          at_most (inl h) = h
          at_most (inr h) = absurd (both_ways _ d (can_upto G L i j B (omega arith) (node_shows G L x B i (member_of G L (suc j) B c) v)))

      first : (t : G.Move) → first_try G (suc j) B ≡ Some t → (t' : G.Move) (other : Maybe G.Move G.Key) (es : Edges G.Move G.Key) → WinsAll G (Try t' other es) B (suc j) → legal_in_some G B t' ≡ true → G.move_lt t' t ≡ false
      first t e t' other es v l =
          let b = try_meets G L t' other es B j v l in
          let s = (begins_at G L (can G j) (can G (suc j)) B t' b).some in
          later ((find_first G.move_lt (begins G (suc j) B) G.moves t L.in_order e).2 t' (L.listed s.0 t' s.2) b)
        where
          later : (t' ≡ t) ⊎ (G.move_lt t t' ≡ true) → G.move_lt t' t ≡ false
          later (inl q) = false_from_ne_true _ (λ x. both_ways _ (asym G.move_lt L.move_order t' t x) (subst (λ z. G.move_lt z t' ≡ true) q (subst (λ z. G.move_lt t' z ≡ true) (sym q) x)))
          later (inr q) = asym G.move_lt L.move_order t t' q

      refused_part : (R : List G.Position) → (is_nil R ≡ true) ⊎ (can G (suc j) R ≡ true) → (can G j R ≡ false → can G (suc j) R ≡ true → Made (canon G (suc j) R) R) → IsCanonOther G (part G L (suc j) R) R
      refused_part R o here = go (cases_Bool (is_nil R)) o
        where
          nonempty : (m : Maybe G.Move G.Key) → is_nil R ≡ false → Made m R → IsCanonOther G m R
          nonempty m e a = subst (λ x. IsCanonOther G x R) (sym a.1) (e, a.2)

          won : can G (suc j) R ≡ true → Made (canon G (suc j) R) R
          won c = older (cases_Bool (can G j R))
            where
              older : (can G j R ≡ true) ⊎ (can G j R ≡ false) → Made (canon G (suc j) R) R
              older (inl k) = subst (λ m. Made m R) (sym (cond-true (can G j R) _ _ k)) (ih R k)
              older (inr k) = here k c

          go : (is_nil R ≡ true) ⊎ (is_nil R ≡ false) → (is_nil R ≡ true) ⊎ (can G (suc j) R ≡ true) → IsCanonOther G (part G L (suc j) R) R
          go (inl e) s = subst (λ m. IsCanonOther G m R) (sym (cond-true (is_nil R) Nothing (canon G (suc j) R) e)) e
          go (inr e) (inl s) = absurd (both_ways _ e s)
          go (inr e) (inr s) = subst (λ m. IsCanonOther G m R) (sym (cond-false (is_nil R) Nothing (canon G (suc j) R) e)) (nonempty (canon G (suc j) R) e (won s))

  pub canon_is : (j : ℕ) (B : List G.Position) → can G j B ≡ true → Made (canon G j B) B
  canon_is zero B c = absurd (both_ways false refl c)
  canon_is (suc j) B c = go (cases_Bool (can G j B)) (canon_is j)
    where
      go : (can G j B ≡ true) ⊎ (can G j B ≡ false) → ((C : List G.Position) → can G j C ≡ true → Made (canon G j C) C) → Made (canon G (suc j) B) B
      go (inl e) ih = subst (λ m. Made m B) (sym (cond-true (can G j B) _ _ e)) (ih B e)
      go (inr e) ih = made_new j ih (length B) B (omega arith) e c
