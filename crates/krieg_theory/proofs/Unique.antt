-- The canonical tree is canonical, and no other tree is.
use Rattle.std.proofs.Common.{◌≡◌, ℕ, zero, suc, ◌≤◌, ◌<◌, Bool, true, false, cond, ◌⊎◌, List, [], ◌∷◌, length, find, Option, Some, None, refl, sym, ap, subst, inl, inr, ◌∙◌, arith, eq-or-lt_of_le}
use Rattle.std.specs.List.{list_any}
use Rattle.std.proofs.lemmas.Bool.{and_parts, or_left, or_parts, cases_Bool, cond-true, cond-false, both_ways, false_from_ne_true}
use Rattle.krieg_theory.proofs.Common.{In, is_nil, Tree, Try, Maybe, Nothing, Just, Edges, NoEdges, Edge, Game, IsGame, WinsAll, refused, legal_in_some, all_outcomes, class, keys, begins, can, first_try, edge_keys, IsLeast, IsFirst, IsCanon, IsCanonOther, AreCanon, edge_with, edges_of, node_of, newly, canon}
use Rattle.krieg_theory.proofs.Lists.{map_in, find_first, find_is}
use Rattle.krieg_theory.proofs.Steps.{Member, outs_in, begins_at, can_at, refused_lt, none_begins_nil}
use Rattle.krieg_theory.proofs.Shown.{node_shows, try_meets}
use Rattle.krieg_theory.proofs.Built.{wins_more, build, canon_wins}
use Rattle.krieg_theory.proofs.Ascending.{as_set_in}

module _ (G : Game) (L : IsGame G) where
  pub member_of : (j : ℕ) (B : List G.Position) → can G j B ≡ true → Member B
  member_of zero B c = absurd (both_ways false refl c)
  member_of (suc j) B c =
      let a = can_at G L j B c in
      let s = (begins_at G L (can G j) (can G (suc j)) B a.0 a.2).some in
      (s.0, s.1)

  pub can_more : (j : ℕ) (B : List G.Position) → can G j B ≡ true → can G (suc j) B ≡ true
  can_more j B c =
      let w = canon_wins G L j B c in
      node_shows G L w.0 B (suc j) (member_of j B c) (λ p i. wins_more G w.0 p j (w.2 p i))

  pub can_upto : (j k : ℕ) (B : List G.Position) → j ≤ k → can G j B ≡ true → can G k B ≡ true
  can_upto zero k B h c = absurd (both_ways false refl c)
  can_upto (suc j) zero B h c = absurd (omega arith)
  can_upto (suc j) (suc k) B h c = go (eq_or_less (suc j) (suc k) h) (can_upto (suc j) k B)
    where
      eq_or_less : (a b : ℕ) → a ≤ b → (a ≡ b) ⊎ (a < b)
      eq_or_less a b h = eq-or-lt_of_le h

      go : (suc j ≡ suc k) ⊎ (suc j < suc k) → (suc j ≤ k → can G (suc j) B ≡ true → can G k B ≡ true) → can G (suc k) B ≡ true
      go (inl e) r = subst (λ n. can G n B ≡ true) e c
      go (inr e) r = can_more k B (r (omega arith) c)

  pub canon_upto : (j k : ℕ) (B : List G.Position) → j ≤ k → can G j B ≡ true → canon G k B ≡ canon G j B
  canon_upto zero k B h c = absurd (both_ways false refl c)
  canon_upto (suc j) zero B h c = absurd (omega arith)
  canon_upto (suc j) (suc k) B h c = go (eq-or-lt_of_le h) (canon_upto (suc j) k B)
    where
      go : (suc j ≡ suc k) ⊎ (suc j < suc k) → (suc j ≤ k → can G (suc j) B ≡ true → canon G k B ≡ canon G (suc j) B) → canon G (suc k) B ≡ canon G (suc j) B
      go (inl e) r = ap (λ n. canon G n B) (sym e)
      go (inr e) r = cond-true (can G k B) _ _ (can_upto (suc j) k B (omega arith) c) ∙ r (omega arith) c

  none_found : (f : G.Move → Bool) (ts : List G.Move) → list_any f ts ≡ false → find f ts ≡ None
  none_found f [] h = refl
  none_found f (t ∷ ts) h = go (cases_Bool (f t)) (none_found f ts)
    where
      go : (f t ≡ true) ⊎ (f t ≡ false) → (list_any f ts ≡ false → find f ts ≡ None) → find f (t ∷ ts) ≡ None
      go (inl e) r = absurd (both_ways (list_any f (t ∷ ts)) h (or_left (f t) (list_any f ts) e))
      go (inr e) r = cond-false (f t) _ _ e ∙ r (or_parts (f t) (list_any f ts) h).1

  no_first : (j : ℕ) → first_try G (suc j) [] ≡ None
  no_first j = none_found (begins G (suc j) []) G.moves (none_begins_nil G L (can G j) (can G (suc j)) G.moves)

  -- a node from a try that is found, where what it is made of agrees
  node_agree : (o : Option G.Move) (f g : G.Move → Maybe G.Move G.Key) (e : G.Move → Edges G.Move G.Key) → ((t : G.Move) → o ≡ Some t → f t ≡ g t) → node_of G o f e ≡ node_of G o g e
  node_agree None f g e h = refl
  node_agree (Some t) f g e h = ap (λ x. Just (Try t x (e t))) (h t refl)

  node_none : (o : Option G.Move) (f : G.Move → Maybe G.Move G.Key) (e : G.Move → Edges G.Move G.Key) → o ≡ None → node_of G o f e ≡ Nothing
  node_none o f e h = ap (λ x. node_of G x f e) h

  pub first_legal : (j : ℕ) (B : List G.Position) (t : G.Move) → first_try G (suc j) B ≡ Some t → legal_in_some G B t ≡ true
  first_legal j B t e = (and_parts (legal_in_some G B t) _ (find_first G.move_lt (begins G (suc j) B) G.moves t L.in_order e).1).0

  newly_fuel : (j n m : ℕ) (B : List G.Position) → length B ≤ n → length B ≤ m → newly G j (canon G j) n B ≡ newly G j (canon G j) m B
  newly_fuel j zero zero B h k = refl
  newly_fuel j zero (suc m) [] h k = sym (node_none _ _ _ (no_first j))
  newly_fuel j zero (suc m) (p ∷ B) h k = absurd (omega arith)
  newly_fuel j (suc n) zero [] h k = node_none _ _ _ (no_first j)
  newly_fuel j (suc n) zero (p ∷ B) h k = absurd (omega arith)
  newly_fuel j (suc n) (suc m) B h k =
      let ih = newly_fuel j n m in
      node_agree (first_try G (suc j) B) _ _ _ (λ t e.
      let s = refused_lt G L B t (first_legal j B t e) in
      ap (λ x. cond (is_nil (refused G B t)) Nothing (cond (can G j (refused G B t)) (canon G j (refused G B t)) x)) (ih (refused G B t) (omega arith) (omega arith)))

  -- the refused part's node, without a bound on the members
  abbrev pub part : ℕ → List G.Position → Maybe G.Move G.Key
  part j R = cond (is_nil R) Nothing (canon G j R)

  pub canon_step : (j : ℕ) (B : List G.Position) → can G j B ≡ false → canon G (suc j) B ≡ node_of G (first_try G (suc j) B) (λ t. part (suc j) (refused G B t)) (λ t. edges_of G (keys G B t) (λ key. canon G j (class G B t key)))
  canon_step j [] d = cond-false (can G j []) _ _ d ∙ sym (node_none _ _ _ (no_first j))
  canon_step j (p ∷ B) d =
      cond-false (can G j (p ∷ B)) _ _ d
      ∙ node_agree (first_try G (suc j) (p ∷ B)) _ _ _ (λ t e.
      let R = refused G (p ∷ B) t in
      let s = refused_lt G L (p ∷ B) t (first_legal j (p ∷ B) t e) in
      ap (λ x. cond (is_nil R) Nothing (cond (can G j R) (canon G j R) x)) (newly_fuel j (length B) (length R) R (omega arith) (omega arith)))

  -- at a key that occurs, the class is won
  pub class_can : (j : ℕ) (B : List G.Position) (t : G.Move) → begins G (suc j) B t ≡ true → (key : G.Key) → In key (keys G B t) → can G j (class G B t key) ≡ true
  class_can j B t b key i =
      let o = map_in (λ (o : G.Key × G.Position). o.0) (all_outcomes G B t) key (as_set_in G.key_lt L.key_order key _ i) in
      let f = outs_in G L B t o.0 o.1 in
      subst (λ k. can G j (class G B t k) ≡ true) o.2 ((begins_at G L (can G j) (can G (suc j)) B t b).classes f.0 f.1 f.2 o.0 f.3)

  mutual
    -- a canonical node is the one that is computed
    pub canon_only : (n : Tree G.Move G.Key) (B : List G.Position) (j : ℕ) → IsCanon G n B → can G j B ≡ true → canon G j B ≡ Just n
    canon_only (Try t other es) B j c d = go c.least.0 c.least.1 c.least.2 c.least.3 (other_only other) (edges_only es B t)
      where
        go : (i : ℕ) → IsLeast G B i → WinsAll G (Try t other es) B i → IsFirst G B t i
            → ((R : List G.Position) (i : ℕ) → IsCanonOther G other R → ((is_nil R ≡ true) ⊎ (can G i R ≡ true)) → part i R ≡ other)
            → ((i : ℕ) → AreCanon G es B t → ((key : G.Key) → In key (edge_keys es) → can G i (class G B t key) ≡ true) → edges_of G (edge_keys es) (λ key. canon G i (class G B t key)) ≡ es)
            → canon G j B ≡ Just (Try t other es)
        go zero l wa f a b = absurd (both_ways false refl (wa (member_of j B d).0 (member_of j B d).1))
        go (suc i) l wa f a b =
            let here = node_shows G L (Try t other es) B (suc i) (member_of j B d) wa in
            let begun = try_meets G L t other es B i wa f.legal in
            let not_below : can G i B ≡ false = false_from_ne_true _ (λ e. let v = canon_wins G L i B e in let h = l.least v.0 i v.2 in absurd (omega arith)) in
            let found : first_try G (suc i) B ≡ Some t = find_is G.move_lt (begins G (suc i) B) G.moves t L.in_order (in_moves begun) begun (λ y s.
            let v = build G L y B i (λ R. canon G (suc i) R) (canon G i) (canon_wins G L i) (λ e. canon_wins G L (suc i) (refused G B y)) s in
            f.first y _ _ v (and_parts (legal_in_some G B y) _ s).0) in
            canon_upto (suc i) j B (let v = canon_wins G L j B d in l.least v.0 j v.2) here
            ∙ canon_step i B not_below
            ∙ ap (λ o. node_of G o (λ t. part (suc i) (refused G B t)) (λ t. edges_of G (keys G B t) (λ key. canon G i (class G B t key)))) found
            ∙ ap (λ x. Just (Try t x (edges_of G (keys G B t) (λ key. canon G i (class G B t key))))) (a (refused G B t) (suc i) c.refused_part (begins_at G L (can G i) (can G (suc i)) B t begun).others)
            ∙ ap (λ ks. Just (Try t other (edges_of G ks (λ key. canon G i (class G B t key))))) (sym c.same_keys)
            ∙ ap (λ x. Just (Try t other x)) (b i c.parts (λ key k. class_can i B t begun key (subst (In key) c.same_keys k)))
          where
            in_moves : begins G (suc i) B t ≡ true → In t G.moves
            in_moves b = let s = (begins_at G L (can G i) (can G (suc i)) B t b).some in L.listed s.0 t s.2

    other_only : (n : Maybe G.Move G.Key) (R : List G.Position) (i : ℕ) → IsCanonOther G n R → ((is_nil R ≡ true) ⊎ (can G i R ≡ true)) → part i R ≡ n
    other_only Nothing R i c s = cond-true (is_nil R) _ _ c
    other_only (Just n) R i c (inl e) = absurd (both_ways _ c.0 e)
    other_only (Just n) R i c (inr e) = cond-false (is_nil R) _ _ c.0 ∙ canon_only n R i c.1 e

    edges_only : (es : Edges G.Move G.Key) (B : List G.Position) (t : G.Move) (i : ℕ) → AreCanon G es B t → ((key : G.Key) → In key (edge_keys es) → can G i (class G B t key) ≡ true) → edges_of G (edge_keys es) (λ key. canon G i (class G B t key)) ≡ es
    edges_only NoEdges B t i c h = refl
    edges_only (Edge key n es) B t i c h =
        ap (λ m. edge_with G key m (edges_of G (edge_keys es) (λ key. canon G i (class G B t key)))) (canon_only n (class G B t key) i c.0 (h key (inl refl)))
        ∙ ap (Edge key n) (edges_only es B t i c.1 (λ k s. h k (inr s)))
