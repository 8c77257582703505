-- The recursion over sets, by facts.
use Rattle.std.proofs.Common.{◌≡◌, ℕ, zero, suc, ◌≤◌, ◌<◌, Bool, true, false, cond, not, ◌&&◌, ◌||◌, ◌⊎◌, List, [], ◌∷◌, length, refl, sym, ap, subst, inl, inr, ◌∙◌, arith}
use Rattle.std.specs.List.{list_all, list_any}
use Rattle.std.proofs.lemmas.Bool.{and_parts, and_from, and_left, or_cases, or_left, or_right, cases_Bool, not-true, not_from_false, not_from_true, cond-true, both_ways, false_from_ne_true}
use Rattle.krieg_theory.proofs.Common.{In, is_nil, Game, IsGame, refused, legal_in_some, stale_in_some, given, all_outcomes, keys, class, begins_with, begins, within, can, ComesBy}
use Rattle.krieg_theory.proofs.Lists.{all_at, all_from, any_from, any_at, filter_lt, in_flat, flat_in}
use Rattle.krieg_theory.proofs.Ascending.{in_as_set, as_set_in}
use Rattle.krieg_theory.proofs.Keys.{at_key_in, in_at_key, key_occurs, occurs_at}

abbrev pub Member : {X : Type 0} → List X → Type 0
Member {X} xs = (x : X) × In x xs

module _ (G : Game) where
  -- the conditions of a try, as facts
  pub record Begins (prev here : List G.Position → Bool) (B : List G.Position) (t : G.Move) : Type 0 where
    pub some : (p : G.Position) × In p B × (G.legal p t ≡ true)
    pub none_stale : (p : G.Position) → In p B → G.legal p t ≡ true → G.stalemates p t ≡ false
    pub classes : (p : G.Position) → In p B → G.legal p t ≡ true → (o : G.Key × G.Position) → In o (G.outcomes p t) → prev (class G B t o.0) ≡ true
    pub others : (is_nil (refused G B t) ≡ true) ⊎ (here (refused G B t) ≡ true)

module _ (G : Game) (L : IsGame G) where
  in_given : (t : G.Move) (p : G.Position) (o : G.Key × G.Position) → G.legal p t ≡ true → In o (G.outcomes p t) → In o (given G t p)
  in_given t p o h i = subst (In o) (sym (cond-true (G.legal p t) (G.outcomes p t) [] h)) i

  given_in : (t : G.Move) (p : G.Position) (o : G.Key × G.Position) → In o (given G t p) → (G.legal p t ≡ true) × In o (G.outcomes p t)
  given_in t p o i = go (G.legal p t) refl i
    where
      go : (b : Bool) → G.legal p t ≡ b → In o (cond b (G.outcomes p t) []) → (G.legal p t ≡ true) × In o (G.outcomes p t)
      go true e s = (e, s)
      go false e s = absurd s

  pub in_outs : (B : List G.Position) (t : G.Move) (p : G.Position) (o : G.Key × G.Position) → In p B → G.legal p t ≡ true → In o (G.outcomes p t) → In o (all_outcomes G B t)
  in_outs B t p o i h r = in_flat (given G t) B p o i (in_given t p o h r)

  pub outs_in : (B : List G.Position) (t : G.Move) (o : G.Key × G.Position) → In o (all_outcomes G B t) → (p : G.Position) × In p B × (G.legal p t ≡ true) × In o (G.outcomes p t)
  outs_in B t o i =
      let f = flat_in (given G t) B o i in
      let g = given_in t f.0 o f.2 in
      (f.0, f.1, g.0, g.1)

  pub in_class : (B : List G.Position) (t : G.Move) (p : G.Position) (o : G.Key × G.Position) → In p B → G.legal p t ≡ true → In o (G.outcomes p t) → In o.1 (class G B t o.0)
  in_class B t p o i h r = in_as_set G.position_lt L.position_order o.1 _ (in_at_key G.key_lt L.key_order o.0 (all_outcomes G B t) o (in_outs B t p o i h r) refl)

  pub class_in : (B : List G.Position) (t : G.Move) (key : G.Key) (q : G.Position) → In q (class G B t key) → ComesBy G B t key q
  class_in B t key q i =
      let a = at_key_in G.key_lt L.key_order key (all_outcomes G B t) q (as_set_in G.position_lt L.position_order q _ i) in
      let b = outs_in B t a.0 a.1 in
      record { from = b.0; member = b.1; legal = b.2; out = a.0; reply = b.3; key_is = a.2; to = a.3 }

  pub begins_from : (prev here : List G.Position → Bool) (B : List G.Position) (t : G.Move) → Begins G prev here B t → begins_with G prev here B t ≡ true
  begins_from prev here B t h =
      and_from _ _ (any_from (λ p. G.legal p t) B h.some.0 h.some.1 h.some.2)
      (and_from _ _ (not_from_false _ (false_from_ne_true _ (λ e.
      let s = any_at (λ p. G.legal p t && G.stalemates p t) B e in
      let b = and_parts (G.legal s.0 t) (G.stalemates s.0 t) s.2 in
      both_ways _ (h.none_stale s.0 s.1 b.0) b.1)))
      (and_from _ _ (all_from (λ key. prev (class G B t key)) (keys G B t) (λ key i.
      let o = occurs_at G.key_lt L.key_order (all_outcomes G B t) key i in
      let f = outs_in B t o.0 o.1 in
      subst (λ k. prev (class G B t k) ≡ true) o.2 (h.classes f.0 f.1 f.2 o.0 f.3)))
      (either h.others)))
    where
      either : (is_nil (refused G B t) ≡ true) ⊎ (here (refused G B t) ≡ true) → (is_nil (refused G B t) || here (refused G B t)) ≡ true
      either (inl e) = or_left _ _ e
      either (inr e) = or_right _ _ e

  pub begins_at : (prev here : List G.Position → Bool) (B : List G.Position) (t : G.Move) → begins_with G prev here B t ≡ true → Begins G prev here B t
  begins_at prev here B t h =
      let a = and_parts (legal_in_some G B t) _ h in
      let b = and_parts (not (stale_in_some G B t)) _ a.1 in
      let c = and_parts (list_all (λ key. prev (class G B t key)) (keys G B t)) _ b.1 in
      record {
        some = any_at (λ p. G.legal p t) B a.0;
        none_stale = λ p i e. false_from_ne_true (G.stalemates p t) (λ s. both_ways _ (not-true _ b.0) (any_from (λ p. G.legal p t && G.stalemates p t) B p i (and_from _ _ e s)));
        classes = λ p i e o r. all_at (λ key. prev (class G B t key)) (keys G B t) c.0 o.0 (key_occurs G.key_lt L.key_order (all_outcomes G B t) o (in_outs B t p o i e r));
        others = or_cases _ _ c.1;
      }

  -- the refused part is shorter
  pub refused_lt : (B : List G.Position) (t : G.Move) → legal_in_some G B t ≡ true → length (refused G B t) < length B
  refused_lt B t h =
      let s = any_at (λ p. G.legal p t) B h in
      filter_lt (λ p. not (G.legal p t)) B s.0 s.1 (not_from_true _ s.2)

  begins_agree : (prev here here' : List G.Position → Bool) (B : List G.Position) (t : G.Move) → (legal_in_some G B t ≡ true → here (refused G B t) ≡ here' (refused G B t)) → begins_with G prev here B t ≡ begins_with G prev here' B t
  begins_agree prev here here' B t h = go (cases_Bool (legal_in_some G B t))
    where
      go : (legal_in_some G B t ≡ true) ⊎ (legal_in_some G B t ≡ false) → begins_with G prev here B t ≡ begins_with G prev here' B t
      go (inl e) = ap (λ (b : Bool). legal_in_some G B t && (not (stale_in_some G B t) && (list_all (λ key. prev (class G B t key)) (keys G B t) && (is_nil (refused G B t) || b)))) (h e)
      go (inr e) = and_left _ _ e ∙ sym (and_left _ _ e)

  pub any_agree : {X : Type 0} (f g : X → Bool) (xs : List X) → ((x : X) → f x ≡ g x) → list_any f xs ≡ list_any g xs
  any_agree f g xs h = λ i. list_any (λ x. h x i) xs

  pub none_begins_nil : (prev here : List G.Position → Bool) (ts : List G.Move) → list_any (begins_with G prev here []) ts ≡ false
  none_begins_nil prev here [] = refl
  none_begins_nil prev here (t ∷ ts) = none_begins_nil prev here ts

  -- enough is enough
  within_fuel : (prev : List G.Position → Bool) (n m : ℕ) (B : List G.Position) → length B ≤ n → length B ≤ m → within G prev n B ≡ within G prev m B
  within_fuel prev zero zero B h k = refl
  within_fuel prev zero (suc m) [] h k = sym (none_begins_nil prev (within G prev m) G.moves)
  within_fuel prev zero (suc m) (p ∷ B) h k = absurd (omega arith)
  within_fuel prev (suc n) zero [] h k = none_begins_nil prev (within G prev n) G.moves
  within_fuel prev (suc n) zero (p ∷ B) h k = absurd (omega arith)
  within_fuel prev (suc n) (suc m) B h k =
      let ih = within_fuel prev n m in
      any_agree (begins_with G prev (within G prev n) B) (begins_with G prev (within G prev m) B) G.moves (λ t. begins_agree prev (within G prev n) (within G prev m) B t (λ e.
      let s = refused_lt B t e in ih (refused G B t) (omega arith) (omega arith)))

  -- the recursion, without a bound on the members
  pub can_step : (j : ℕ) (B : List G.Position) → can G (suc j) B ≡ list_any (begins G (suc j) B) G.moves
  can_step j [] = sym (none_begins_nil (can G j) (can G (suc j)) G.moves)
  can_step j (p ∷ B) =
      any_agree (begins_with G (can G j) (within G (can G j) (length B)) (p ∷ B)) (begins G (suc j) (p ∷ B)) G.moves (λ t. begins_agree (can G j) (within G (can G j) (length B)) (can G (suc j)) (p ∷ B) t (λ e.
      let s = refused_lt (p ∷ B) t e in within_fuel (can G j) (length B) (length (refused G (p ∷ B) t)) (refused G (p ∷ B) t) (omega arith) (omega arith)))

  pub can_from : (j : ℕ) (B : List G.Position) (t : G.Move) → begins G (suc j) B t ≡ true → can G (suc j) B ≡ true
  can_from j B t h =
      let s = (begins_at (can G j) (can G (suc j)) B t h).some in
      can_step j B ∙ any_from (begins G (suc j) B) G.moves t (L.listed s.0 t s.2) h

  pub can_at : (j : ℕ) (B : List G.Position) → can G (suc j) B ≡ true → (t : G.Move) × In t G.moves × (begins G (suc j) B t ≡ true)
  can_at j B h = any_at (begins G (suc j) B) G.moves (sym (can_step j B) ∙ h)
