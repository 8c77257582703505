-- Claims that hold speak of sets that cannot be won.
use Rattle.std.proofs.Common.{◌≡◌, ℕ, zero, suc, ◌≤◌, true, false, not, ◌&&◌, nat_lt, ◌⊎◌, List, [], ◌∷◌, ◌++◌, Option, Some, None, refl, sym, subst, inl, inr, arith}
use Rattle.std.specs.Prelude.{◌==◌}
use Rattle.std.specs.List.{list_all, list_any}
use Rattle.std.proofs.lemmas.Bool.{both_ways, and_parts, not-true, ltb-false, eqb-true, false_from_ne_true}
use Rattle.krieg_costs.proofs.Common.{In, same, is_nil, Game, IsGame, refused, legal_in_some, stale_in_some, tries, keys, class, can, begins, Outset, IsOutset, openings, opening_set, mates, Reason, ByLife, ByStalemate, ByClass, ByRefused, Claim, cited, last_of, is_within, is_shown, holds, are_reasons, claim_holds, claims_hold, denies, RefutationExcludes}
use Rattle.krieg_theory.proofs.Lists.{all_at, any_at, append_in, nil_or_member}
use Rattle.krieg_theory.proofs.Ascending.{same_eq}
use Rattle.krieg_theory.proofs.Steps.{Member, can_at}
use Rattle.krieg_theory.proofs.Shown.{node_shows}
use Rattle.krieg_theory.proofs.Built.{canon_wins}
use Rattle.krieg_theory.proofs.Unique.{can_upto}
use Rattle.krieg_theory.proofs.Theorems.{classes_are_split}
use Rattle.krieg_theory.proofs.Planned.{mates_shows, can_plan_at}
use Rattle.krieg_costs.proofs.Costs.{legal_try}
use Rattle.krieg_costs.proofs.Reached.{not_nil}
use Rattle.krieg_costs.proofs.Blocks.{lives_how, no_life}

cited_in : {X : Type 0} (cs : List X) (i : ℕ) (c : X) → cited cs i ≡ Some c → In c cs
cited_in cs zero c e = absurd (cc)
cited_in [] (suc i) c e = absurd (cc)
cited_in (d ∷ cs) (suc zero) c e = inl (cc)
cited_in (d ∷ cs) (suc (suc i)) c e = inr (cited_in cs (suc i) c e)

last_in : {X : Type 0} (cs : List X) (c : X) → last_of cs ≡ Some c → In c cs
last_in [] c e = absurd (cc)
last_in (d ∷ []) c e = inl (cc)
last_in (d ∷ b ∷ cs) c e = inr (last_in (b ∷ cs) c e)

module _ (G : Game) (L : IsGame G) where
  within_in : (xs ys : List G.Position) → is_within G.position_lt xs ys ≡ true → (p : G.Position) → In p xs → In p ys
  within_in xs ys h p i =
      let a = any_at (same G.position_lt p) ys (all_at (λ x. list_any (same G.position_lt x) ys) xs h p i) in
      subst (λ z. In z ys) (sym (same_eq G.position_lt L.position_order p a.0 a.2)) a.1

  -- some of a set that can be won can be won
  pub can_within : (j k : ℕ) (B C : List G.Position) → j ≤ k → ((p : G.Position) → In p C → In p B) → Member C → can G j B ≡ true → can G k C ≡ true
  can_within j k B C h f m c = let w = canon_wins G L j B c in can_upto G L j k C h (node_shows G L w.0 C j m (λ p i. w.2 p (f p i)))

  -- the claim speaks of a set with members that cannot be won
  abbrev pub IsTrueClaim : Claim G → Type 0
  IsTrueClaim c = Member c.set × (can G c.number c.set ≡ false)

  abbrev pub AreTrue : List (Claim G) → Type 0
  AreTrue cs = (c : Claim G) → In c cs → IsTrueClaim c

  -- what a true claim shows
  shown : (before : List (Claim G)) → AreTrue before → (o : Option (Claim G)) → ((c : Claim G) → o ≡ Some c → In c before) → (j : ℕ) (B : List G.Position) → is_shown G o j B ≡ true → Member B × (can G j B ≡ false)
  shown before h None f j B s = absurd (both_ways false refl s)
  shown before h (Some c) f j B s =
      let a = and_parts (not (nat_lt c.number j)) _ s in
      let k = ltb-false c.number j (not-true _ a.0) in
      let t = h c (f c refl) in
      let inside = within_in c.set B a.1 in
      ((t.0.0, inside t.0.0 t.0.1), false_from_ne_true _ (λ e. both_ways _ t.1 (can_within j c.number B c.set (omega arith) inside t.0 e)))

  occurs : (B : List G.Position) (t : G.Move) (key : G.Key) → Member (class G B t key) → In key (keys G B t)
  occurs B t key m = (classes_are_split G L B t key).2.1 (not_nil (class G B t key) m.0 m.1)

  -- a try with a reason that holds does not begin a node that wins
  not_begun : (before : List (Claim G)) → AreTrue before → (j : ℕ) (B : List G.Position) (t : G.Move) (r : Reason G.Key) → holds G before j B t r ≡ true → begins G (suc j) B t ≡ true → ⊥
  not_begun before h j B t r s e = go r s
    where
      c : (stale_in_some G B t ≡ false) × (list_all (λ key. can G j (class G B t key)) (keys G B t) ≡ true) × ((Rattle.std.specs.Prelude.◌||◌ (is_nil (refused G B t)) (can G (suc j) (refused G B t))) ≡ true)
      c =
          let x = and_parts (legal_in_some G B t) _ e in
          let y = and_parts (not (stale_in_some G B t)) _ x.1 in
          let z = and_parts (list_all (λ key. can G j (class G B t key)) (keys G B t)) _ y.1 in
          (not-true _ y.0, z.0, z.1)

      no_refusal : (is_nil (refused G B t) ≡ true) ⊎ (can G (suc j) (refused G B t) ≡ true) → Member (refused G B t) × (can G (suc j) (refused G B t) ≡ false) → ⊥
      no_refusal (inl x) m = both_ways _ (not_nil (refused G B t) m.0.0 m.0.1) x
      no_refusal (inr x) m = both_ways _ m.1 x

      go : (r : Reason G.Key) → holds G before j B t r ≡ true → ⊥
      go ByLife s = let a = and_parts (j == 0) _ s in no_life G L j B t c.0 c.1 (eqb-true j 0 a.0) (lives_how G L B t a.1)
      go ByStalemate s = both_ways _ c.0 s
      go (ByClass key i) s =
          let a = and_parts (not (j == 0)) _ s in
          let m = shown before h (cited before i) (λ d q. cited_in before i d q) j (class G B t key) a.1 in
          both_ways _ m.1 (all_at (λ key. can G j (class G B t key)) (keys G B t) c.1 key (occurs B t key m.0))
      go (ByRefused i) s = no_refusal (Rattle.std.proofs.lemmas.Bool.or_cases _ _ c.2) (shown before h (cited before i) (λ d q. cited_in before i d q) (suc j) (refused G B t) s)

  reasons_show : (before : List (Claim G)) → AreTrue before → (j : ℕ) (B : List G.Position) (rs : List (G.Move × Reason G.Key)) → are_reasons G before j B rs ≡ true → can G j B ≡ false
  reasons_show before h zero B rs s = refl
  reasons_show before h (suc j) B rs s = false_from_ne_true _ (λ c.
      let a = and_parts (list_all (λ t. list_any (λ r. same G.move_lt r.0 t) rs) (tries G B)) _ s in
      let t = can_at G L j B c in
      let l = (and_parts (legal_in_some G B t.0) _ t.2).0 in
      let r = any_at (λ r. same G.move_lt r.0 t.0) rs (all_at (λ t. list_any (λ r. same G.move_lt r.0 t) rs) (tries G B) a.0 t.0 (legal_try G L B t.0 l)) in
      let b = and_parts (legal_in_some G B r.0.0) _ (all_at (λ r. legal_in_some G B r.0 && holds G before j B r.0 r.1) rs a.1 r.0 r.1) in
      not_begun before h j B r.0.0 r.0.1 b.1 (subst (λ x. begins G (suc j) B x ≡ true) (sym (same_eq G.move_lt L.move_order r.0.0 t.0 r.2)) t.2))

  claim_true : (before : List (Claim G)) → AreTrue before → (c : Claim G) → claim_holds G before c ≡ true → IsTrueClaim c
  claim_true before h c s =
      let a = and_parts (not (is_nil c.set)) _ s in
      (member (not-true _ a.0) (nil_or_member c.set), reasons_show before h c.number c.set c.reasons a.1)
    where
      member : is_nil c.set ≡ false → (is_nil c.set ≡ true) ⊎ Member c.set → Member c.set
      member e (inl n) = absurd (both_ways _ e n)
      member e (inr m) = m

  -- claims that hold are true
  pub claims_true : (before cs : List (Claim G)) → AreTrue before → claims_hold G before cs ≡ true → AreTrue cs
  claims_true before [] h s c i = absurd i
  claims_true before (d ∷ cs) h s c i =
      let a = and_parts (claim_holds G before d) _ s in
      let t = claim_true before h d a.0 in
      go t i (claims_true (before ++ d ∷ []) cs (λ b k. more t b (append_in before (d ∷ []) b k)) a.1 c)
    where
      more : IsTrueClaim d → (b : Claim G) → In b before ⊎ In b (d ∷ []) → IsTrueClaim b
      more t b (inl k) = h b k
      more t b (inr (inl e)) = subst IsTrueClaim e t
      more t b (inr (inr k)) = absurd k

      go : IsTrueClaim d → (d ≡ c) ⊎ In c cs → (In c cs → IsTrueClaim c) → IsTrueClaim c
      go t (inl e) r = subst IsTrueClaim e t
      go t (inr k) r = r k

module _ (G : Game) (L : IsGame G) (O : Outset G) (W : IsOutset G O) where
  pub refutation_excludes : RefutationExcludes G O
  refutation_excludes n S cs h plan = false_from_ne_true _ (λ m. go m (last_of cs) refl (and_parts (claims_hold G [] cs) _ h).1)
    where
      true_claims : AreTrue G L cs
      true_claims = claims_true G L [] cs (λ c i. absurd i) (and_parts (claims_hold G [] cs) _ h).0

      go : mates G O plan S n ≡ true → (o : Option (Claim G)) → last_of cs ≡ o → denies G O n S o ≡ true → ⊥
      go m None e d = both_ways false refl d
      go m (Some c) e d =
          let a = and_parts (not (nat_lt c.number n)) _ d in
          let k = ltb-false c.number n (not-true _ a.0) in
          let key = any_at (λ key. is_within G.position_lt c.set (opening_set G O S key)) (openings G O S) a.1 in
          let t = true_claims c (last_in cs c e) in
          let won = (can_plan_at G L O W S n (mates_shows G L O W plan S n m)).1 key.0 key.1 in
          both_ways _ t.1 (can_within G L n c.number (opening_set G O S key.0) c.set (omega arith) (within_in G L c.set (opening_set G O S key.0) key.2) t.0 won)
