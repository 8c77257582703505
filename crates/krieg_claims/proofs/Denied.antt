-- The claims that are written hold.
use Rattle.std.proofs.Common.{◌≡◌, ℕ, zero, suc, ◌≤◌, ◌<◌, Bool, true, false, not, ◌&&◌, ◌⊎◌, List, [], ◌∷◌, ◌++◌, length, map, flat_map, Option, Some, None, refl, sym, ap, subst, inl, inr, ◌∙◌, append_assoc, arith}
use Rattle.std.specs.Prelude.{◌==◌, IfSome}
use Rattle.std.specs.List.{list_any}
use Rattle.std.proofs.lemmas.List.{map-append}
use Rattle.std.proofs.lemmas.Bool.{both_ways, and_from, not_from_false, not-true, eq-eqb, le-ltb, false_from_ne_true, true_from_ne_false}
use Rattle.krieg_claims.proofs.Common.{In, same, is_nil, Game, IsGame, refused, legal_in_some, tries, class, can, Outset, IsOutset, openings, opening_set, is_over, Pair, Block, Lives, Stale, LostClass, LostRefused, NoBlock, block, pair_of, block_pair, behind, first_lost, Reason, Claim, cited, last_of, is_within, is_shown, holds, are_reasons, claim_holds, claims_hold, denies, refutes, claimed, add_once, add_all, in_order, place_of, reason_of, reason_at, reasons_at, claim_of, claims_of, claims, claims_from, IsLostPair, HasBlocks, HasTries, Stands, behind_try, ClaimedLast, DenialRefutes}
use Rattle.krieg_theory.proofs.Lists.{all_from, any_from, any_none, in_map, map_in, flat_in}
use Rattle.krieg_theory.proofs.Ascending.{same_refl}
use Rattle.krieg_theory.proofs.Steps.{refused_lt, can_from}
use Rattle.krieg_theory.proofs.Planned.{can_plan_from}
use Rattle.krieg_costs.proofs.Costs.{try_legal, legal_try}
use Rattle.krieg_costs.proofs.Reached.{class_some, opening_some}
use Rattle.krieg_costs.proofs.Blocks.{BlockSays, block_says, found, none_found, unblocked_begins}
use Rattle.krieg_costs.proofs.LostSets.{some_inside}
use Rattle.krieg_claims.proofs.Adding.{added_there, added_new, is_there, all_append, all_keeps, in_all, all_in, index_left, cited_at}
use Rattle.krieg_claims.proofs.Standing.{claimed_step, claimed_root, stands_more, not_itself}

last_snoc : {X : Type 0} (xs : List X) (x : X) → last_of (xs ++ x ∷ []) ≡ Some x
last_snoc [] x = refl
last_snoc (y ∷ []) x = refl
last_snoc (y ∷ z ∷ xs) x = last_snoc (z ∷ xs) x

within_itself : {X : Type 0} (lt : X → X → Bool) → ((x : X) → same lt x x ≡ true) → (xs : List X) → is_within lt xs xs ≡ true
within_itself lt r xs = all_from (λ x. list_any (same lt x) xs) xs (λ x i. any_from (same lt x) xs x i (r x))

module _ (G : Game) (L : IsGame G) where
  -- a block of a set that cannot be won is one of the four
  pub lost_blocked : (j : ℕ) (B : List G.Position) (t : G.Move) → can G (suc j) B ≡ false → legal_in_some G B t ≡ true → block G (suc j) B t ≡ NoBlock → ⊥
  lost_blocked j B t c l e = both_ways _ c (can_from G L j B t (unblocked_begins G L j B t l e))

  -- a claim that was made of a pair that stands before shows what it says
  shown_by : (all before rest : List (Pair G)) → all ≡ before ++ rest → (q : Pair G) → In q before → is_shown G (cited (map (claim_of G all) before) (place_of G all q)) q.1 q.0 ≡ true
  shown_by all before rest e q i =
      subst (λ (o : Option (Claim G)). is_shown G o q.1 q.0 ≡ true)
      (sym (ap (λ (x : List (Pair G)). cited (map (claim_of G all) before) (place_of G x q)) e ∙ ap (λ k. cited (map (claim_of G all) before) (suc k)) (index_left G L before rest q i) ∙ cited_at G L (claim_of G all) before q i))
      (and_from _ _ (not_from_false _ (le-ltb q.1 q.1 (omega arith))) (within_itself G.position_lt (same_refl G.position_lt L.position_order) q.0))

  -- the reason of each try holds
  reason_holds : (all before rest : List (Pair G)) → all ≡ before ++ rest → (j : ℕ) (B : List G.Position) (t : G.Move) (b : Block G.Key) → BlockSays G L j B t b → (b ≡ NoBlock → ⊥)
      → IfSome (pair_of G j B t b) (λ q. In q before) → holds G (map (claim_of G all) before) j B t (reason_of G all j B t b) ≡ true
  reason_holds all before rest e j B t Lives s n h = and_from _ _ (eq-eqb j 0 s.0) s.1
  reason_holds all before rest e j B t Stale s n h = s
  reason_holds all before rest e j B t (LostClass key) s n h = and_from _ _ (not_from_false _ (false_from_ne_true _ (λ f. zero_not f))) (shown_by all before rest e (class G B t key, j) h)
    where
      zero_not : (j == 0) ≡ true → ⊥
      zero_not f = let x = s.2 in let y = Rattle.std.proofs.lemmas.Bool.eqb-true j 0 f in omega arith
  reason_holds all before rest e j B t LostRefused s n h = shown_by all before rest e (refused G B t, suc j) h
  reason_holds all before rest e j B t NoBlock s n h = absurd (n refl)

  claim_right : (all before rest : List (Pair G)) → all ≡ before ++ rest → (q : Pair G) → IsLostPair G q → HasBlocks G before q.0 q.1 → claim_holds G (map (claim_of G all) before) (claim_of G all q) ≡ true
  claim_right all before rest e q l h = and_from _ _ (not_from_false _ l.some) (go q.1 l.number l.lost h)
    where
      go : (j : ℕ) → 0 < j → can G j q.0 ≡ false → HasBlocks G before q.0 j → are_reasons G (map (claim_of G all) before) j q.0 (reasons_at G all j q.0) ≡ true
      go zero z c k = absurd (omega arith)
      go (suc j) z c k = and_from _ _
          (all_from _ (tries G q.0) (λ t i. any_from (λ r. same G.move_lt r.0 t) (reasons_at G all (suc j) q.0) (t, reason_at G all (suc j) q.0 t) (in_map (λ t. (t, reason_at G all (suc j) q.0 t)) (tries G q.0) t i) (same_refl G.move_lt L.move_order t)))
          (all_from _ (reasons_at G all (suc j) q.0) (λ r i. each r (map_in (λ t. (t, reason_at G all (suc j) q.0 t)) (tries G q.0) r i)))
        where
          each : (r : G.Move × Reason G.Key) → ((t : G.Move) × In t (tries G q.0) × ((t, reason_at G all (suc j) q.0 t) ≡ r)) → (legal_in_some G q.0 r.0 && holds G (map (claim_of G all) before) j q.0 r.0 r.1) ≡ true
          each r f =
              let a = try_legal G L q.0 f.0 f.1 in
              subst (λ (x : G.Move × Reason G.Key). (legal_in_some G q.0 x.0 && holds G (map (claim_of G all) before) j q.0 x.0 x.1) ≡ true) f.2
              (and_from _ _ a (reason_holds all before rest e j q.0 f.0 (block G (suc j) q.0 f.0) (block_says G L j q.0 f.0) (lost_blocked j q.0 f.0 c a) (k f.0 a)))

  claims_right : (all before qs : List (Pair G)) → all ≡ before ++ qs → Stands G before qs → claims_hold G (map (claim_of G all) before) (map (claim_of G all) qs) ≡ true
  claims_right all before [] e s = refl
  claims_right all before (q ∷ qs) e s =
      and_from _ _ (claim_right all before (q ∷ qs) e q s.0 s.1)
      (subst (λ (cs : List (Claim G)). claims_hold G cs (map (claim_of G all) qs) ≡ true) (map-append (claim_of G all) before (q ∷ []))
      (claims_right all (before ++ q ∷ []) qs (e ∙ sym (append_assoc before (q ∷ []) qs)) s.2))

  -- claims of pairs that stand hold
  pub stands_hold : (qs : List (Pair G)) → Stands G [] qs → claims_hold G [] (claims_of G qs) ≡ true
  stands_hold qs s = claims_right qs [] qs refl s

  -- Pairs that stand go on to stand while a set is claimed. First by what one try adds.
  abbrev pub Claims : ℕ → List G.Position → Type 0
  Claims j B = is_nil B ≡ false → can G j B ≡ false → (qs : List (Pair G)) → Stands G [] qs → Stands G [] (add_all G qs (claimed G j B))

  behind_stands : (j : ℕ) (B : List G.Position) (t : G.Move) (b : Block G.Key) → BlockSays G L j B t b → ((C : List G.Position) → Claims j C) → Claims (suc j) (refused G B t)
      → (qs : List (Pair G)) → Stands G [] qs → Stands G [] (add_all G qs (behind G (claimed G j) (claimed G (suc j)) B t b))
  behind_stands j B t Lives s f g qs h = h
  behind_stands j B t Stale s f g qs h = h
  behind_stands j B t (LostClass key) s f g qs h = f (class G B t key) (class_some G L B t key s.0) s.1 qs h
  behind_stands j B t LostRefused s f g qs h = g s.0 s.1 qs h
  behind_stands j B t NoBlock s f g qs h = h

  -- the pair of its block is among what it adds
  pub behind_has : (j : ℕ) (B : List G.Position) (t : G.Move) (b : Block G.Key) → BlockSays G L j B t b → IfSome (pair_of G j B t b) (λ q. In q (behind G (claimed G j) (claimed G (suc j)) B t b))
  behind_has j B t Lives s = tt
  behind_has j B t Stale s = tt
  behind_has j B t (LostClass key) s = claimed_root G L j (class G B t key) (class_some G L B t key s.0) s.2
  behind_has j B t LostRefused s = claimed_root G L (suc j) (refused G B t) s.0 (omega arith)
  behind_has j B t NoBlock s = tt

  pub one_more : (j : ℕ) (B : List G.Position) (t : G.Move) (qs : List (Pair G)) → IfSome (block_pair G (suc j) B t) (λ q. In q (add_all G qs (behind_try G j B t)))
  one_more j B t qs = some_inside G L (block_pair G (suc j) B t) (behind_try G j B t) (add_all G qs (behind_try G j B t)) (λ q i. in_all G L qs (behind_try G j B t) q i) (behind_has j B t (block G (suc j) B t) (block_says G L j B t))

  tries_stand : (j : ℕ) (B : List G.Position) (ts : List G.Move) → ((t : G.Move) → In t ts → (qs : List (Pair G)) → Stands G [] qs → Stands G [] (add_all G qs (behind_try G j B t)))
      → (qs : List (Pair G)) → Stands G [] qs → Stands G [] (add_all G qs (flat_map (behind_try G j B) ts)) × HasTries G (add_all G qs (flat_map (behind_try G j B) ts)) B (suc j) ts
  tries_stand j B [] each qs h = (h, λ t i. absurd i)
  tries_stand j B (t ∷ ts) each qs h =
      let r = tries_stand j B ts (λ x i. each x (inr i)) (add_all G qs (behind_try G j B t)) (each t (inl refl) qs h) in
      let e = all_append G L qs (behind_try G j B t) (flat_map (behind_try G j B) ts) in
      (subst (Stands G []) (sym e) r.0, subst (λ (R : List (Pair G)). HasTries G R B (suc j) (t ∷ ts)) (sym e) (go r.1))
    where
      go : HasTries G (add_all G (add_all G qs (behind_try G j B t)) (flat_map (behind_try G j B) ts)) B (suc j) ts → HasTries G (add_all G (add_all G qs (behind_try G j B t)) (flat_map (behind_try G j B) ts)) B (suc j) (t ∷ ts)
      go r x (inl d) = subst (λ (y : G.Move). IfSome (block_pair G (suc j) B y) (λ q. In q (add_all G (add_all G qs (behind_try G j B t)) (flat_map (behind_try G j B) ts)))) d
          (some_inside G L (block_pair G (suc j) B t) (add_all G qs (behind_try G j B t)) _ (λ q i. all_keeps G L (add_all G qs (behind_try G j B t)) (flat_map (behind_try G j B) ts) q i) (one_more j B t qs))
      go r x (inr i) = r x i

  -- and then by the pair itself
  root_stands : (j : ℕ) (B : List G.Position) → is_nil B ≡ false → can G (suc j) B ≡ false → (qs : List (Pair G)) → Stands G [] qs → HasTries G qs B (suc j) (tries G B) → Stands G [] (add_once G qs (B, suc j))
  root_stands j B e c qs s h = go (is_there G L qs (B, suc j))
    where
      itself : IsLostPair G (B, suc j)
      itself = record { some = e; number = omega arith; lost = c }

      go : In (B, suc j) qs ⊎ (In (B, suc j) qs → ⊥) → Stands G [] (add_once G qs (B, suc j))
      go (inl i) = subst (Stands G []) (sym (added_there G L qs (B, suc j) i)) s
      go (inr n) = subst (Stands G []) (sym (added_new G L qs (B, suc j) n)) (stands_more G L [] qs (B, suc j) s itself (λ t l. h t (legal_try G L B t l)))

  claims_within : (j n : ℕ) → ((C : List G.Position) → Claims j C) → (B : List G.Position) → length B ≤ n → Claims (suc j) B
  claims_within j zero ih [] l e c qs s = absurd (both_ways _ e refl)
  claims_within j zero ih (p ∷ B) l e c qs s = absurd (omega arith)
  claims_within j (suc n) ih B l e c qs s =
      let r = tries_stand j B (tries G B) (λ t i. (let d = refused_lt G L B t (try_legal G L B t i) in behind_stands j B t (block G (suc j) B t) (block_says G L j B t) ih (claims_within j n ih (refused G B t) (omega arith)))) qs s in
      subst (λ (ps : List (Pair G)). Stands G [] (add_all G qs ps)) (sym (claimed_step G L j B e))
      (subst (Stands G []) (sym (all_append G L qs (flat_map (behind_try G j B) (tries G B)) ((B, suc j) ∷ [])))
      (root_stands j B e c (add_all G qs (flat_map (behind_try G j B) (tries G B))) r.0 r.1))

  pub claims_stand : (j : ℕ) (B : List G.Position) → Claims j B
  claims_stand zero B e c qs s = s
  claims_stand (suc j) B e c qs s = claims_within j (length B) (claims_stand j) B (omega arith) e c qs s

  -- a pair that is new comes last
  pub root_new : (j : ℕ) (B : List G.Position) (qs : List (Pair G)) → is_nil B ≡ false → (In (B, suc j) qs → ⊥) → In (B, suc j) (add_all G qs (flat_map (behind_try G j B) (tries G B))) → ⊥
  root_new j B qs e n i = go (all_in G L qs (flat_map (behind_try G j B) (tries G B)) (B, suc j) i)
    where
      go : In (B, suc j) qs ⊎ In (B, suc j) (flat_map (behind_try G j B) (tries G B)) → ⊥
      go (inl k) = n k
      go (inr k) = let f = flat_in (behind_try G j B) (tries G B) (B, suc j) k in not_itself G L j B e f.0 f.1 f.2

  pub set_last : (j : ℕ) (B : List G.Position) (qs : List (Pair G)) → is_nil B ≡ false → (In (B, suc j) qs → ⊥) → add_all G qs (claimed G (suc j) B) ≡ add_all G qs (flat_map (behind_try G j B) (tries G B)) ++ (B, suc j) ∷ []
  set_last j B qs e n =
      ap (add_all G qs) (claimed_step G L j B e)
      ∙ all_append G L qs (flat_map (behind_try G j B) (tries G B)) ((B, suc j) ∷ [])
      ∙ added_new G L (add_all G qs (flat_map (behind_try G j B) (tries G B))) (B, suc j) (root_new j B qs e n)

  pub claimed_last : ClaimedLast G
  claimed_last zero B h e = absurd (omega arith)
  claimed_last (suc j) B h e = ap last_of (set_last j B [] e (λ i. i)) ∙ last_snoc (add_all G [] (flat_map (behind_try G j B) (tries G B))) (B, suc j)

  pub last_claim : (j : ℕ) (B : List G.Position) → is_nil B ≡ false → 0 < j → last_of (claims G j B) ≡ Some (claim_of G (in_order G j B) (B, j))
  last_claim zero B e h = absurd (omega arith)
  last_claim (suc j) B e h =
      let f : List (Pair G) → List (Claim G) = map (claim_of G (in_order G (suc j) B)) in
      let c = set_last j B [] e (λ i. i) in
      ap (λ qs. last_of (f qs)) c
      ∙ ap last_of (map-append (claim_of G (in_order G (suc j) B)) (add_all G [] (flat_map (behind_try G j B) (tries G B))) ((B, suc j) ∷ []))
      ∙ last_snoc (f (add_all G [] (flat_map (behind_try G j B) (tries G B)))) (claim_of G (in_order G (suc j) B) (B, suc j))

module _ (G : Game) (L : IsGame G) (O : Outset G) (W : IsOutset G O) where
  -- the claims of an opening set that cannot be won refute
  pub opening_refutes : (n : ℕ) (S : List G.Position) (key : O.Root) → 0 < n → In key (openings G O S) → can G n (opening_set G O S key) ≡ false → refutes G O n S (claims G n (opening_set G O S key)) ≡ true
  opening_refutes n S key h i c =
      let e = opening_some G L O W S key i in
      and_from _ _ (stands_hold G L (in_order G n (opening_set G O S key)) (claims_stand G L n (opening_set G O S key) e c [] tt))
      (subst (λ (o : Option (Claim G)). denies G O n S o ≡ true) (sym (last_claim G L n (opening_set G O S key) e h))
      (and_from _ _ (not_from_false _ (le-ltb n n (omega arith)))
      (any_from (λ k. is_within G.position_lt (opening_set G O S key) (opening_set G O S k)) (openings G O S) key i (within_itself G.position_lt (same_refl G.position_lt L.position_order) (opening_set G O S key)))))

  pub denial_refutes : DenialRefutes G O
  denial_refutes n S h o c = go (first_lost G O n S) refl
    where
      no : O.Root → Bool
      no key = not (can G n (opening_set G O S key))

      go : (k : Option O.Root) → first_lost G O n S ≡ k → refutes G O n S (claims_from G O n S k) ≡ true
      go None e = absurd (both_ways _ c (can_plan_from G L O W S n (λ p i. any_none (is_over G O) S o p i) (λ key i. true_from_ne_false _ (λ f. both_ways _ (none_found (λ key. not (can G n (opening_set G O S key))) (openings G O S) e key i) (not_from_false _ f)))))
      go (Some key) e = let f = found (λ key. not (can G n (opening_set G O S key))) (openings G O S) key e in opening_refutes n S key h f.0 (not-true _ f.1)
